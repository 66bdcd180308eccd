-- Calls, by the types of their parts.
use Rattle.std.proofs.Common.{◌≡◌, ℕ, zero, suc, ◌<◌, ◌≤◌, ◌==◌, Bool, true, false, not, ◌&&◌, List, [], ◌∷◌, map, length, slice_get, slice_index_or, Some, None, Ok, Err, refl, sym, ap, ◌∙◌, arith}
use Rattle.std.specs.Prelude.{unwrap_or}
use Rattle.std.proofs.lemmas.Bool.{eqb-true}
use Rattle.som_model.specs.declared.key.ClassKey.{ClassKey}
use Rattle.som_model.specs.declared.key.ValueType.{ValueType}
use Rattle.som_model.specs.declared.key.ValueType.TheVariants as types
use Rattle.som_model.specs.declared.class.Sig.{Sig}
use Rattle.som_model.specs.declared.class.Variable.{Variable}
use Rattle.som_model.specs.declared.class.ClassDecl.{ClassDecl}
use Rattle.som_model.specs.Class.{Class}
use Rattle.som_model.specs.Classes.{class_at}
use Rattle.som_model.specs.Keys.{same_key}
use Rattle.som_model.specs.Kernel.{som_class}
use Rattle.som_model.specs.Lists.{every}
use Rattle.som_model.specs.Rules.{is_known}
use Rattle.som_model.specs.Typing.{ClassFacts, ExprType, Of, all_fit, class_facts, class_type, fits, kind_is_known, own_variable}
use Rattle.som_model.proofs.KeyLaws.{both, exact_keys}
use Rattle.som_verify_forms.specs.declared.code_place.CodePlace.{CodePlace as Place}
use Rattle.som_verify_forms.specs.Kinds.{code_at, parent_at}
use Rattle.som_verify_forms.specs.Knowing.{sig_is_known}
use Rattle.som_verify_classes.specs.Places.{Finds, class_of_place, face_at, key_at}
use Rattle.som_verify_classes.specs.Walk.{AreLists}
use Rattle.som_verify_forms.proofs.Facts.{kind_said, object_of, object_said}
use Rattle.som_verify_classes.proofs.KeyLists.{alike}
use Rattle.som_verify_forms.proofs.KnownLaws.{descends_from_none}

-- what a known signature answers is of a type that is known
pub result_known : (cs : List Class) (sig : Sig) → sig_is_known cs sig ≡ true → kind_is_known (class_facts cs) sig.result ≡ true
result_known cs sig e = kind_said cs sig.result ∙ (both (is_known cs sig.result) (every (is_known cs) sig.params) e).0

-- ---- arguments

fails_both : (a b : Bool) → false ≡ b → false ≡ (a && b)
fails_both true b e = e
fails_both false b e = refl

pub differ_in_length : (w : ClassFacts) (ps : List ValueType) (ts : List ExprType) → (length ps ≡ length ts → ⊥) → false ≡ all_fit w ps ts
differ_in_length w [] [] f = absurd (f refl)
differ_in_length w [] (t ∷ ts) f = refl
differ_in_length w (p ∷ ps) [] f = refl
differ_in_length w (p ∷ ps) (t ∷ ts) f = fails_both (fits w p t) (all_fit w ps ts) (differ_in_length w ps ts (λ e. f (ap suc e)))

-- ---- the object of a class

pub object_there : (cs : List Class) (all : List (List ℕ)) (p : ℕ) (k : ClassKey) → AreLists cs all → p < length cs → key_at cs p ≡ k
    → (class_facts cs).class_object k ≡ unwrap_or (face_at cs p).metaclass som_class
object_there cs all p k lists lt is = object_said cs k ∙ ap object_of (ap (class_at cs) (sym is) ∙ lists.found p lt)

pub class_typed_by : (w : ClassFacts) (k o : ClassKey) → true ≡ w.is_known k → w.class_object k ≡ o → class_type w k ≡ Ok (Of (types.Class o))
class_typed_by w k o known e = rw (sym known, e) refl

-- ---- what the body's class declares

kind_got : (vs : List Variable) (n : ℕ) (d : Variable) → n < length vs → slice_get (map (λ v. v.kind) vs) n ≡ Some (slice_index_or vs n d).kind
kind_got [] n d lt = absurd (omega arith)
kind_got (v ∷ vs) zero d lt = refl
kind_got (v ∷ vs) (suc n) d lt = kind_got vs n d (omega arith)

none_got : (vs : List Variable) (n : ℕ) → length vs ≤ n → slice_get (map (λ v. v.kind) vs) n ≡ None
none_got [] n le = refl
none_got (v ∷ vs) zero le = absurd (omega arith)
none_got (v ∷ vs) (suc n) le = none_got vs n (omega arith)

module _ (cs : List Class) (at : Place) (p n : ℕ) (d : ClassDecl) (here : at.class ≡ Some p) (is : d ≡ (class_of_place cs p).decl) where
  pub variable_got : (v : Variable) → n < length d.variables → slice_get (map (λ v. v.kind) (class_of_place cs p).decl.variables) n ≡ Some (slice_index_or d.variables n v).kind
  variable_got v lt = ap (λ (z : ClassDecl). slice_get (map (λ v. v.kind) z.variables) n) (sym is) ∙ kind_got d.variables n v lt

  pub variable_there : (v : Variable) → n < length d.variables → own_variable (code_at cs at) n ≡ Ok (slice_index_or d.variables n v).kind
  variable_there v lt = rw (here, variable_got v lt) refl

  pub no_variable : length d.variables ≤ n → own_variable (code_at cs at) n ≡ Err 16
  no_variable le = let none = ap (λ (z : ClassDecl). slice_get (map (λ v. v.kind) z.variables) n) (sym is) ∙ none_got d.variables n le in rw (here, none) refl

  pub parents_there : parent_at (code_at cs at).class n ≡ slice_get d.face.parents n
  parents_there = rw here (ap (λ (z : ClassDecl). slice_get z.face.parents n) (sym is))

-- ---- proper ancestors

pub above_none : (cs : List Class) (all : List (List ℕ)) (x : ℕ) (k : ClassKey) → AreLists cs all → x < length cs → Finds (length cs) cs k None
    → false ≡ (not (same_key k (key_at cs x)) && (class_facts cs).is_a (key_at cs x) k)
above_none cs all x k lists lt f = fails_both (not (same_key k (key_at cs x))) ((class_facts cs).is_a (key_at cs x) k) (descends_from_none cs all x k lists lt f)

different : (a x : ℕ) → (a ≡ x → ⊥) → (a == x) ≡ false
different a x f = by (a == x) refl
  where
    by : (b : Bool) → (a == x) ≡ b → b ≡ false
    by true e = absurd (f (eqb-true a x e))
    by false e = refl

module _ (cs : List Class) (all : List (List ℕ)) (x a : ℕ) (k : ClassKey) (lists : AreLists cs all) (lx : x < length cs) (la : a < length cs) (is : key_at cs a ≡ k) where
  one_key : (a == x) ≡ same_key k (key_at cs x)
  one_key = alike cs lists.once a x la lx (a == x) (same_key (key_at cs a) (key_at cs x)) refl refl ∙ ap (λ z. same_key z (key_at cs x)) is

  -- another class is above where it is an ancestor
  pub above_other : (r : Bool) → (a ≡ x → ⊥) → r ≡ (class_facts cs).is_a (key_at cs x) (key_at cs a) → r ≡ (not (same_key k (key_at cs x)) && (class_facts cs).is_a (key_at cs x) k)
  above_other r f e = let no_ : same_key k (key_at cs x) ≡ false = sym one_key ∙ different a x f in rw no_ (e ∙ ap (λ z. (class_facts cs).is_a (key_at cs x) z) is)

  -- and no class is above itself
  pub above_itself : a ≡ x → not (a == x) ≡ (not (same_key k (key_at cs x)) && (class_facts cs).is_a (key_at cs x) k)
  above_itself e =
      let same : same_key k (key_at cs x) ≡ true = ap (λ z. same_key z (key_at cs x)) (sym is ∙ ap (key_at cs) e) ∙ exact_keys.one (key_at cs x) in
      let itself : (a == x) ≡ true = one_key ∙ same in
      rw (itself, same) refl
