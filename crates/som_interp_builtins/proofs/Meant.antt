-- What was found is what the meaning answers.
use Rattle.std.proofs.Common.{◌≡◌, ℕ, Bool, true, false, if◌then◌else◌, List, Result, Ok, Err, sym, ap, subst, ◌∙◌}
use Rattle.som_model.specs.declared.key.ClassKey.{ClassKey}
use Rattle.som_model.specs.declared.program.Fault.{Fault}
use Rattle.som_model.specs.declared.program.Fault.TheVariants as faults
use Rattle.som_semantics.specs.World.{World}
use Rattle.som_semantics.specs.State.{Value, Boolean, Ref, Heap, Tried, ◌then_try◌, live, is_live, class_of}
use Rattle.som_semantics.specs.Values.{text}
use Rattle.som_semantics.specs.Invoked.{stands_for}
use Rattle.som_objects.specs.declared.cell.Cell.{Cell}
use Rattle.som_objects.specs.declared.cell.Cell.TheVariants as cells
use Rattle.som_objects.specs.Objects.{Objects}
use Rattle.som_values.specs.declared.stopped.Stopped.{Stopped}
use Rattle.som_values.specs.declared.stopped.Stopped.TheVariants as stops
use Rattle.som_values.specs.Shown.{key_of}
use Rattle.som_values.specs.Stored.{IsClassOf}
use Rattle.som_interp_state.specs.Settings.{Linked}
use Rattle.som_interp_builtins.specs.Answered.{IsAnswered}
use Rattle.som_interp_builtins.specs.Arguments.{class_argued, IsText}

-- ---- one test, and then another

pub then_ok : {A B : Type 0} (t : Tried A) (a : A) (next : A → Tried B) → Ok a ≡ t → (t then_try next) ≡ next a
then_ok t a next e = ap (λ x. x then_try next) (sym e)

pub then_err : {A B : Type 0} (t : Tried A) (f : Fault) (next : A → Tried B) → Err f ≡ t → (t then_try next) ≡ Err f
then_err t f next e = ap (λ x. x then_try next) (sym e)

live_ok : (h : Heap) (r : Ref) → is_live h r ≡ true → Ok r ≡ live h r
live_ok h r e = let f : Bool → Tried Ref = λ b. if b then Ok r else Err faults.Freed in ap f (sym e)

live_err : (h : Heap) (r : Ref) → is_live h r ≡ false → Err faults.Freed ≡ live h r
live_err h r e = let f : Bool → Tried Ref = λ b. if b then Ok r else Err faults.Freed in ap f (sym e)

module _ (keys : List ClassKey) (w : World) (h : Heap) (r : Ref) where
  -- self has this class
  pub of_class : (n : ℕ) (next : ClassKey → Tried Value) → IsClassOf keys w h r (Ok n) → (live h r then_try λ q. next (class_of w h q)) ≡ next (key_of keys n)
  of_class n next p = then_ok (live h r) r (λ q. next (class_of w h q)) (live_ok h r p.0) ∙ ap next p.1

  -- self was freed
  pub of_gone : (f : Fault) (next : Ref → Tried Value) → IsClassOf keys w h r (Err f) → (live h r then_try next) ≡ Err f
  of_gone f next p = then_err (live h r) f next (ap (λ x. Err x) p.1 ∙ live_err h r p.0)

  module _ (args : List Value) (test : ClassKey → ClassKey → Bool) where
    argued_ok : (c : ClassKey) (m : ℕ) (b : Bool) → Ok (key_of keys m) ≡ class_argued h args → b ≡ test c (key_of keys m) → (class_argued h args then_try λ k. Ok (Boolean (test c k))) ≡ Ok (Boolean b)
    argued_ok c m b e is = then_ok (class_argued h args) (key_of keys m) (λ k. Ok (Boolean (test c k))) e ∙ ap (λ x. Ok (Boolean x)) (sym is)

    argued_err : (c : ClassKey) (f : Fault) → Err f ≡ class_argued h args → (class_argued h args then_try λ k. Ok (Boolean (test c k))) ≡ Err f
    argued_err c f e = then_err (class_argued h args) f (λ k. Ok (Boolean (test c k))) e

    -- a test of self's class and the class that is the first argument
    pub object_tested : (n m : ℕ) (b : Bool) → IsClassOf keys w h r (Ok n) → Ok (key_of keys m) ≡ class_argued h args → b ≡ test (key_of keys n) (key_of keys m)
        → (live h r then_try λ q. class_argued h args then_try λ k. Ok (Boolean (test (class_of w h q) k))) ≡ Ok (Boolean b)
    object_tested n m b p e is = of_class n (λ c. class_argued h args then_try λ k. Ok (Boolean (test c k))) p ∙ argued_ok (key_of keys n) m b e is

    pub object_untested : (n : ℕ) (f : Fault) → IsClassOf keys w h r (Ok n) → Err f ≡ class_argued h args
        → (live h r then_try λ q. class_argued h args then_try λ k. Ok (Boolean (test (class_of w h q) k))) ≡ Err f
    object_untested n f p e = of_class n (λ c. class_argued h args then_try λ k. Ok (Boolean (test c k))) p ∙ argued_err (key_of keys n) f e

    -- a test of the class whose class object self is
    pub class_tested : (n m : ℕ) (b : Bool) → Ok (key_of keys n) ≡ stands_for r → Ok (key_of keys m) ≡ class_argued h args → b ≡ test (key_of keys n) (key_of keys m)
        → (stands_for r then_try λ c. class_argued h args then_try λ k. Ok (Boolean (test c k))) ≡ Ok (Boolean b)
    class_tested n m b p e is = then_ok (stands_for r) (key_of keys n) (λ c. class_argued h args then_try λ k. Ok (Boolean (test c k))) p ∙ argued_ok (key_of keys n) m b e is

    pub class_untested : (n : ℕ) (f : Fault) → Ok (key_of keys n) ≡ stands_for r → Err f ≡ class_argued h args
        → (stands_for r then_try λ c. class_argued h args then_try λ k. Ok (Boolean (test c k))) ≡ Err f
    class_untested n f p e = then_ok (stands_for r) (key_of keys n) (λ c. class_argued h args then_try λ k. Ok (Boolean (test c k))) p ∙ argued_err (key_of keys n) f e

-- ---- answers

module _ (l : Linked) (made : ClassKey → Bool) (keys : List ClassKey) (xs : List ℕ) (os : Objects) where
  pub truth_answered : (b : Bool) (meant : Tried Value) → meant ≡ Ok (Boolean b) → IsAnswered l made keys xs os (Ok (cells.Boolean b)) meant
  truth_answered b meant e = record { means = e; usable = record { own = (tt, tt); made_of = tt } }

  pub fault_answered : (answer : Result Cell Stopped) (f : Fault) (meant : Tried Value) → answer ≡ Err (stops.Fault f) → meant ≡ Err f → IsAnswered l made keys xs os answer meant
  fault_answered answer f meant e p = subst (λ a. IsAnswered l made keys xs os a meant) (sym e) (record { means = p; usable = tt })

  pub nothing_answered : (answer : Result Cell Stopped) (meant : Tried Value) → answer ≡ Err stops.NoMemory → IsAnswered l made keys xs os answer meant
  nothing_answered answer meant e = subst (λ a. IsAnswered l made keys xs os a meant) (sym e) (record { means = tt; usable = tt })

  pub name_answered : (name : List ℕ) (answer : Result Cell Stopped) (meant : Tried Value) → IsText name answer → meant ≡ text name → IsAnswered l made keys xs os answer meant
  name_answered name (Ok cell) meant is e = subst (λ c. IsAnswered l made keys xs os (Ok c) meant) (sym is.0) (record { means = e ∙ is.1; usable = record { own = (tt, tt); made_of = tt } })
  name_answered name (Err (stops.Fault f)) meant is e = record { means = e ∙ is; usable = tt }
  name_answered name (Err stops.NoMemory) meant is e = record { means = tt; usable = tt }
