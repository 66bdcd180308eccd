-- Statements by the types of their parts: where a part breaks a rule, and what a demand comes to.
use Rattle.std.proofs.Common.{◌≡◌, ℕ, Bool, true, false, if◌then◌else◌, inl, inr, List, [], ◌∷◌, ◌++◌, Result, Ok, Err, refl, sym, ap, ◌∙◌, subst}
use Rattle.std.proofs.lemmas.List.{map-append}
use Rattle.som_model.specs.declared.key.ValueType.{ValueType}
use Rattle.som_model.specs.Steps.{◌>>=◌}
use Rattle.som_model.specs.Class.{Class}
use Rattle.som_model.specs.Typing.{ClassFacts, ExprType, Of, Ruled, Typed, kind_is_known, needs, fits}
use Rattle.som_model.specs.TypedBlocks.{Scope, var_scope}
use Rattle.som_verify_forms.specs.declared.kind.Kind.{Kind}
use Rattle.som_verify_forms.specs.declared.kind.Kind.TheVariants as kinds
use Rattle.som_verify_forms.specs.declared.code_place.TypeFault.{TypeFault}
use Rattle.som_verify_forms.specs.declared.code_place.TypeFault.TheVariants as faults
use Rattle.som_verify_forms.specs.Kinds.{AreTypes, Fails, IsType, Types, kind_at, type_at}
use Rattle.som_verify_forms.specs.Scopes.{Keeps, Leaves, scope_at}
use Rattle.som_model_laws.proofs.Members.{mem_split}

-- a type that is wanted is that of a kind
pub type_kind : (cs : List Class) (k : Kind) → IsType cs k → kind_at cs k ≡ Of (type_at cs k)
type_kind cs kinds.Void t = refl
type_kind cs kinds.Long t = refl
type_kind cs kinds.Boolean t = refl
type_kind cs kinds.Str t = refl
type_kind cs kinds.Nil t = absurd t
type_kind cs (kinds.Class place) t = refl

-- where a part breaks a rule, what follows is not looked at
pub then_fails : {A B : Type 0} (ruled : Ruled A) (f : A → Ruled B) (e : TypeFault) → Fails ruled e → Fails (ruled >>= f) e
then_fails ruled f (faults.Rule r) t = ap (λ z. z >>= f) t
then_fails ruled f faults.NoMemory t = tt

pub part_fails : {B : Type 0} (cs : List Class) (typed : Typed) (f : ExprType → Ruled B) (e : TypeFault) → Types cs typed (Err e) → Fails (typed >>= f) e
part_fails cs typed f (faults.Rule r) t = ap (λ z. z >>= f) t
part_fails cs typed f faults.NoMemory t = tt

-- what a demand comes to
pub demanded : (cs : List Class) (ruled : Ruled Scope) (scope : List Kind) (rule : ℕ) (holds test : Bool) (r : Result (Unit {0}) TypeFault)
    → ruled ≡ needs rule test (Ok (scope_at cs scope)) → holds ≡ test → r ≡ (if holds then Ok tt else Err (faults.Rule rule)) → Keeps cs ruled scope r
demanded cs ruled scope rule true test r e h is = subst (λ z. Keeps cs ruled scope z) (sym is) (e ∙ ap (λ b. needs rule b (Ok (scope_at cs scope))) (sym h))
demanded cs ruled scope rule false test r e h is = subst (λ z. Keeps cs ruled scope z) (sym is) (e ∙ ap (λ b. needs rule b (Ok (scope_at cs scope))) (sym h))

-- what a demand on a part's type comes to, where the part has one
pub tested : (cs : List Class) (typed : Typed) (rule : ℕ) (test : ExprType → Bool) (scope : List Kind) (k : Kind) (holds : Bool) (r : Result (Unit {0}) TypeFault)
    → typed ≡ Ok (kind_at cs k) → holds ≡ test (kind_at cs k) → r ≡ (if holds then Ok tt else Err (faults.Rule rule))
    → Keeps cs (typed >>= λ t. needs rule (test t) (Ok (scope_at cs scope))) scope r
tested cs typed rule test scope k holds r e h is =
    demanded cs (typed >>= λ t. needs rule (test t) (Ok (scope_at cs scope))) scope rule holds (test (kind_at cs k)) r
    (ap (λ (z : Typed). z >>= λ t. needs rule (test t) (Ok (scope_at cs scope))) e) h is

-- what is assigned to what is looked up
abbrev assigned_to : ClassFacts → Scope → Ruled ValueType → ExprType → Ruled Scope
assigned_to w scope of t = of >>= λ kind. needs 17 (fits w kind t) (Ok scope)

pub assigned : (cs : List Class) (w : ClassFacts) (typed : Typed) (of : Ruled ValueType) (scope : List Kind) (k wanted : Kind) (holds : Bool) (r : Result (Unit {0}) TypeFault)
    → typed ≡ Ok (kind_at cs k) → of ≡ Ok (type_at cs wanted) → holds ≡ fits w (type_at cs wanted) (kind_at cs k) → r ≡ (if holds then Ok tt else Err (faults.Rule 17))
    → Keeps cs (typed >>= λ t. of >>= λ kind. needs 17 (fits w kind t) (Ok (scope_at cs scope))) scope r
assigned cs w typed of scope k wanted holds r e f h is =
    demanded cs (typed >>= assigned_to w (scope_at cs scope) of) scope 17 holds (fits w (type_at cs wanted) (kind_at cs k)) r
    (ap (λ (z : Typed). z >>= assigned_to w (scope_at cs scope) of) e ∙ ap (λ (z : Ruled ValueType). z >>= λ kind. needs 17 (fits w kind (kind_at cs k)) (Ok (scope_at cs scope))) f) h is

-- nothing is there to assign to
pub unassigned : (cs : List Class) (w : ClassFacts) (typed : Typed) (of : Ruled ValueType) (scope : Scope) (k : Kind) (rule : ℕ)
    → typed ≡ Ok (kind_at cs k) → of ≡ Err rule → (typed >>= λ t. of >>= λ kind. needs 17 (fits w kind t) (Ok scope)) ≡ Err rule
unassigned cs w typed of scope k rule e f =
    ap (λ (z : Typed). z >>= assigned_to w scope of) e ∙ ap (λ (z : Ruled ValueType). z >>= λ kind. needs 17 (fits w kind (kind_at cs k)) (Ok scope)) f

-- ---- a local that is declared

abbrev var_of : ClassFacts → Scope → ValueType → ExprType → Ruled Scope
var_of w scope kind t = needs 16 (kind_is_known w kind) (needs 17 (fits w kind t) (Ok (scope ++ kind ∷ [])))

var_by : (cs : List Class) (w : ClassFacts) (typed : Typed) (scope : Scope) (kind : ValueType) (k : Kind) (known fit : Bool) → typed ≡ Ok (kind_at cs k) → kind_is_known w kind ≡ known → fits w kind (kind_at cs k) ≡ fit
    → (typed >>= var_scope w scope kind) ≡ needs 16 known (needs 17 fit (Ok (scope ++ kind ∷ [])))
var_by cs w typed scope kind k known fit e f g =
    ap (λ (z : Typed). z >>= var_of w scope kind) e
    ∙ ap (λ (z : Bool). needs 16 z (needs 17 (fits w kind (kind_at cs k)) (Ok (scope ++ kind ∷ [])))) f
    ∙ ap (λ (z : Bool). needs 16 known (needs 17 z (Ok (scope ++ kind ∷ [])))) g

pub var_unknown : (cs : List Class) (w : ClassFacts) (typed : Typed) (scope : Scope) (kind : ValueType) (k : Kind) → typed ≡ Ok (kind_at cs k) → kind_is_known w kind ≡ false → (typed >>= var_scope w scope kind) ≡ Err 16
var_unknown cs w typed scope kind k e f = var_by cs w typed scope kind k false (fits w kind (kind_at cs k)) e f refl

pub var_misfits : (cs : List Class) (w : ClassFacts) (typed : Typed) (scope : Scope) (kind : ValueType) (k wanted : Kind) → typed ≡ Ok (kind_at cs k) → kind_is_known w kind ≡ true → type_at cs wanted ≡ kind
    → fits w (type_at cs wanted) (kind_at cs k) ≡ false → (typed >>= var_scope w scope kind) ≡ Err 17
var_misfits cs w typed scope kind k wanted e f is g = var_by cs w typed scope kind k true false e f (ap (λ z. fits w z (kind_at cs k)) (sym is) ∙ g)

pub declares : (cs : List Class) (w : ClassFacts) (typed : Typed) (before after : List Kind) (kind : ValueType) (k wanted : Kind) → typed ≡ Ok (kind_at cs k) → kind_is_known w kind ≡ true → type_at cs wanted ≡ kind
    → fits w (type_at cs wanted) (kind_at cs k) ≡ true → IsType cs wanted → AreTypes cs before → after ≡ before ++ wanted ∷ [] → Leaves cs (typed >>= var_scope w (scope_at cs before) kind) before after
declares cs w typed before after kind k wanted e f is g stands types more = record {
  scope = var_by cs w typed (scope_at cs before) kind k true true e f (ap (λ z. fits w z (kind_at cs k)) (sym is) ∙ g)
      ∙ ap (λ z. Ok (scope_at cs before ++ z ∷ [])) (sym is) ∙ ap (λ z. Ok z) (sym (map-append (type_at cs) before (wanted ∷ []))) ∙ ap (λ z. Ok (scope_at cs z)) (sym more);
  types = subst (λ z. AreTypes cs z) (sym more) (record {
    by = λ x m. elim (mem_split x before (wanted ∷ []) m) [
      | inl n ↦ types.by x n
      | inr n ↦ elim n [ inl same ↦ subst (IsType cs) (sym same) stands | inr z ↦ absurd z ]
    ];
  });
  declared = wanted ∷ [];
  more = more;
}
