-- A call by name, from what the class, the signature and the test of the arguments answered.
use Rattle.std.proofs.Common.{◌≡◌, ℕ, List, Option, Some, None, Result, Ok, Err, sym, ap, ◌∙◌, subst}
use Rattle.std.specs.List.{All}
use Rattle.som_model.specs.declared.key.ClassKey.{ClassKey}
use Rattle.som_model.specs.declared.key.MethodRef.{MethodRef}
use Rattle.som_model.specs.declared.key.ValueType.{ValueType}
use Rattle.som_model.specs.declared.class.Sig.{Sig}
use Rattle.som_model.specs.declared.program.Fault.{Fault}
use Rattle.som_model.specs.declared.program.Fault.TheVariants as faults
use Rattle.som_semantics.specs.World.{World}
use Rattle.som_semantics.specs.State.{Value, Ref, Heap, Place, Manner, Tried, ◌then_try◌, class_of, receiver}
use Rattle.som_semantics.specs.Runs.{Faulted, Adds, Told, KEnds}
use Rattle.som_semantics.specs.Acts.{◌>>=◌, asked, tried}
use Rattle.som_semantics.specs.Values.{sig_fits}
use Rattle.som_semantics.specs.Calls.{Request, found}
use Rattle.som_machine_laws.specs.Passed.{passes_named}
use Rattle.som_machine_laws.specs.Step.{Step}
use Rattle.som_objects.specs.declared.cell.Cell.{Cell}
use Rattle.som_objects.specs.Objects.{Objects}
use Rattle.som_meta.specs.Numbering.{Numbering}
use Rattle.som_values.specs.Shown.{Showing, IsSeen, all_shown, key_of, showing}
use Rattle.som_values.specs.Stored.{Holds}
use Rattle.som_interp_state.specs.Settings.{Linked}
use Rattle.som_interp_state.specs.Asked.{Agree}
use Rattle.som_interp_state.specs.Named.{HasClassOf}
use Rattle.som_interp_dispatch.specs.Passed.{method_in, method_shown, named_in}

method_by : (w : World) (h : Heap) (wanted : ValueType) (name : List ℕ) (self : Ref) (args : List Value) (x : ClassKey) (m : MethodRef) (s : Sig) (r : Tried (Unit {0}))
    → class_of w h self ≡ x → w.byname x name ≡ Some m → w.sig m ≡ Some s → r ≡ sig_fits w h (Some s) wanted args → method_in w h wanted name self args ≡ (r then_try λ u. Ok m)
method_by w h wanted name self args x m s r class byname sig fits =
    let further : MethodRef → Tried MethodRef = λ method. sig_fits w h (w.sig method) wanted args then_try λ u. Ok method in
    ap (λ z. found (w.byname z name) then_try further) class
    ∙ ap (λ z. found z then_try further) byname
    ∙ ap (λ z. sig_fits w h z wanted args then_try λ u. Ok m) sig
    ∙ ap (λ (z : Tried (Unit {0})). z then_try λ u. Ok m) (sym fits)

module _ (ks : List ClassKey) (w : World) (k : Numbering) (l : Linked) (agree : Agree ks w k l) (os : Objects) (wanted : ValueType) (name : List ℕ) (args : List Cell) where
  -- what the test of the arguments answered, among the classes of a setting
  abbrev pub Fits : Tried (Unit {0}) → Sig → Type 0
  Fits r s = (serials : List ℕ) (h : Heap) → Holds (showing ks serials) os h → All (IsSeen (showing ks serials)) args → r ≡ sig_fits w h (Some s) wanted (all_shown (showing ks serials) args)

  pub method_means : (xs : List ℕ) (h : Heap) (self : Ref) (n : ℕ) (m : MethodRef) (s : Sig) (r : Tried (Unit {0})) → HasClassOf l h self n → w.byname (key_of ks n) name ≡ Some m → w.sig m ≡ Some s → Fits r s
      → Holds (showing l.keys xs) os h → All (IsSeen (showing l.keys xs)) args → method_in l.world h wanted name self (all_shown (showing l.keys xs) args) ≡ (r then_try λ u. Ok m)
  method_means xs h self n m s r class byname sig fits holds seen =
      let fit : r ≡ sig_fits w h (Some s) wanted (all_shown (showing ks xs) args) = fits xs h (subst (λ z. Holds (showing z xs) os h) agree.linked_numbers holds) (subst (λ z. All (IsSeen (showing z xs)) args) agree.linked_numbers seen) in
      let here : r ≡ sig_fits l.world h (Some s) wanted (all_shown (showing l.keys xs) args) =
      subst (λ z. r ≡ sig_fits z h (Some s) wanted (all_shown (showing l.keys xs) args)) (sym agree.linked_answers) (subst (λ z. r ≡ sig_fits w h (Some s) wanted (all_shown (showing z xs) args)) (sym agree.linked_numbers) fit) in
      method_by l.world h wanted name self (all_shown (showing l.keys xs) args) (key_of ks n) m s r (class.1 ∙ ap (λ z. key_of z n) agree.linked_numbers)
      (ap (λ (z : World). z.byname (key_of ks n) name) agree.linked_answers ∙ byname) (ap (λ (z : World). z.sig m) agree.linked_answers ∙ sig) here

  -- after a test that failed
  pub method_fails : (xs : List ℕ) (h : Heap) (self : Ref) (n : ℕ) (m : MethodRef) (s : Sig) (f : Fault) (r : Result (ℕ × ℕ) Fault) → r ≡ Err f → HasClassOf l h self n → w.byname (key_of ks n) name ≡ Some m → w.sig m ≡ Some s → Fits (Err f) s
      → Holds (showing l.keys xs) os h → All (IsSeen (showing l.keys xs)) args → method_in l.world h wanted name self (all_shown (showing l.keys xs) args) ≡ method_shown l r
  method_fails xs h self n m s f r is class byname sig fits holds seen = method_means xs h self n m s (Err f) class byname sig fits holds seen ∙ ap (method_shown l) (sym is)

-- where some test of a call by name fails, the act has that fault
module _ (w : World) (next : Request → Step) (at : Place) (way : Manner) (wanted : ValueType) (name : List ℕ) (on : Value) (args : List Value) (f : Fault) (add : Adds) (t : Told) where
  abbrev fails : Step → Type 0
  fails m = m.told add t ≡ KEnds (Faulted f at) t

  abbrev with_it : Ref → MethodRef → Tried (Ref × MethodRef)
  with_it self m = Ok (self, m)

  same_fault : {A : Type 0} (x : Fault) → ◌≡◌ {A = Tried A} (Err x) (Err f) → x ≡ f
  same_fault x e = cc

  abbrev with_method : Ref → MethodRef → Step
  with_method self method = asked at (λ h. sig_fits w h (w.sig method) wanted args) >>= λ u. next (record { from = at; way = way; self = self; parent = None; method = method; args = args })

  abbrev with_self : Ref → Step
  with_self self = asked at (λ h. found (w.byname (class_of w h self) name)) >>= with_method self

  sig_fails : (self : Ref) (method : MethodRef) (r : Tried (Unit {0})) → ((r then_try λ u. Ok method) then_try with_it self) ≡ Err f
      → fails (tried at r >>= λ u. next (record { from = at; way = way; self = self; parent = None; method = method; args = args }))
  sig_fails self method (Ok u) e = absurd (let z = e in cc)
  sig_fails self method (Err x) e = ap (λ z. KEnds (Faulted z at) t) (same_fault x e)

  method_none : (self : Ref) (q : Option MethodRef) → ((found q then_try λ method. sig_fits w t.heap (w.sig method) wanted args then_try λ u. Ok method) then_try with_it self) ≡ Err f → fails (tried at (found q) >>= with_method self)
  method_none self None e = ap (λ z. KEnds (Faulted z at) t) (same_fault faults.NoMethod e)
  method_none self (Some method) e = sig_fails self method (sig_fits w t.heap (w.sig method) wanted args) e

  self_fails : (r : Tried Ref) → (r then_try λ self. (method_in w t.heap wanted name self args then_try with_it self)) ≡ Err f → fails (tried at r >>= with_self)
  self_fails (Err x) e = ap (λ z. KEnds (Faulted z at) t) (same_fault x e)
  self_fails (Ok self) e = method_none self (w.byname (class_of w t.heap self) name) e

  pub named_fails : (h : Heap) → t.heap ≡ h → named_in w h wanted name on args ≡ Err f → fails (passes_named w next at way wanted name on args)
  named_fails h here e = self_fails (receiver t.heap on) (ap (λ z. named_in w z wanted name on args) here ∙ e)

-- what is said of a list is said of an equal one
pub named_of_equal : (w : World) (h : Heap) (wanted : ValueType) (name : List ℕ) (on : Value) (s : Showing) (f : Fault) (us vs : List Cell) → us ≡ vs
    → (All (IsSeen s) us → named_in w h wanted name on (all_shown s us) ≡ Err f) → All (IsSeen s) vs → named_in w h wanted name on (all_shown s vs) ≡ Err f
named_of_equal w h wanted name on s f us vs e fact = subst (λ zs. All (IsSeen s) zs → named_in w h wanted name on (all_shown s zs) ≡ Err f) e fact
