-- Forms by their parts; of two parts the first is typed before the second.
use Rattle.std.proofs.Common.{◌≡◌, ℕ, List, map, Result, Ok, Err, IfOk, refl, sym, ap, ◌∙◌, subst}
use Rattle.som_model.specs.declared.key.MethodRef.{MethodRef}
use Rattle.som_model.specs.declared.key.ValueType.{ValueType}
use Rattle.som_model.specs.declared.syntax.Expr.{Expr}
use Rattle.som_model.specs.declared.syntax.Expr.TheVariants as exprs
use Rattle.som_model.specs.declared.syntax.HostCode.{HostCode}
use Rattle.som_model.specs.Class.{Class}
use Rattle.som_model.specs.Steps.{◌>>=◌}
use Rattle.som_model.specs.Typing.{ClassFacts, CodePlace, ExprType, Of, Ruled, Typed, binary_type, expr_type, host_type, named_call_type, offset_call_type, value, values}
use Rattle.som_verify_forms.specs.declared.kind.Kind.{Kind}
use Rattle.som_verify_forms.specs.declared.kind.Kind.TheVariants as kinds
use Rattle.som_verify_forms.specs.declared.code_place.TypeFault.{TypeFault}
use Rattle.som_verify_forms.specs.declared.code_place.TypeFault.TheVariants as faults
use Rattle.som_verify_forms.specs.Kinds.{AreTyped, Comes, Fails, IsType, Names, Stands, Types, as_type, kind_at, of_all, then, type_at}
use Rattle.som_verify_types.proofs.ExprLaws.{binary_typed, dispatch_typed, host_typed, lookup_typed, offset_call_typed}
use Rattle.som_verify_forms.proofs.KindLaws.{part_there}

-- expressions that are equal come to one type or fault
pub types_as : (cs : List Class) (typed : Expr → Typed) (e x : Expr) (form : Typed) (r : Result Kind TypeFault) → e ≡ x → typed x ≡ form → Types cs form r → Types cs (typed e) r
types_as cs typed e x form r is same types = subst (λ z. Types cs z r) (sym (ap typed is ∙ same)) types

-- parts that are equal come to one type or fault
pub part_as : (cs : List Class) (typed : Expr → Typed) (e x : Expr) (r : Result Kind TypeFault) → e ≡ x → Types cs (value (typed e)) r → Types cs (value (typed x)) r
part_as cs typed e x r is types = subst (λ (z : Expr). Types cs (value (typed z)) r) is types

-- a form whose part has no type has none
pub fails_on : {A : Type 0} (typed : Ruled A) (form : A → Typed) (f : TypeFault) → Fails typed f → Fails (then typed form) f
fails_on typed form (faults.Rule rule) e = ap (λ z. z >>= form) e
fails_on typed form faults.NoMemory e = tt

-- a form whose part has a type goes by that type
pub comes_on : (cs : List Class) (typed : Typed) (form : ExprType → Typed) (t : ExprType) (r : Result Kind ℕ) → typed ≡ Ok t → Comes cs (form t) r → Comes cs (then typed form) r
comes_on cs typed form t r e comes = subst (λ z. Comes cs z r) (sym (part_there typed form t e)) comes

pub comes_all : (cs : List Class) (typed : Ruled (List ExprType)) (form : List ExprType → Typed) (given shown : List Kind) (r : Result Kind ℕ) → AreTyped cs typed given → shown ≡ given
    → Comes cs (form (map (kind_at cs) shown)) r → Comes cs (then typed form) r
comes_all cs typed form given shown r are is comes =
    subst (λ z. Comes cs z r) (ap (λ z. form (map (kind_at cs) z)) is ∙ sym (part_there typed form (map (kind_at cs) given) are.types)) comes

-- a kind that came of an expression stands
pub stands_if_ok : (cs : List Class) (typed : Typed) (r : Result Kind TypeFault) → Types cs typed r → IfOk r (Stands cs)
stands_if_ok cs typed (Ok kind) t = t.1
stands_if_ok cs typed (Err f) t = tt

pub if_ok_so : {A E : Type 0} (P Q : A → Type 0) (r : Result A E) → ((x : A) → P x → Q x) → IfOk r P → IfOk r Q
if_ok_so P Q (Ok x) so p = so x p
if_ok_so P Q (Err e) so p = tt

-- a rule that is broken is a fault
pub ruled_types : (cs : List Class) (typed : Typed) (kind : Kind) → Comes cs typed (Ok kind) → Types cs typed (Ok kind)
ruled_types cs typed kind t = t

-- a kind that is a type is that of an expression
pub type_is_kind : (cs : List Class) (kind : Kind) → IsType cs kind → Of (type_at cs kind) ≡ kind_at cs kind
type_is_kind cs kinds.Void is = refl
type_is_kind cs kinds.Long is = refl
type_is_kind cs kinds.Boolean is = refl
type_is_kind cs kinds.Str is = refl
type_is_kind cs kinds.Nil is = absurd is
type_is_kind cs (kinds.Class place) is = refl

pub type_stands : (cs : List Class) (kind : Kind) → IsType cs kind → Stands cs kind
type_stands cs kinds.Void is = tt
type_stands cs kinds.Long is = tt
type_stands cs kinds.Boolean is = tt
type_stands cs kinds.Str is = tt
type_stands cs kinds.Nil is = tt
type_stands cs (kinds.Class place) is = is

pub named_types : (cs : List Class) (ruled : Ruled ValueType) (kind : Kind) → Names cs ruled (Ok kind) → Types cs (as_type ruled) (Ok kind)
named_types cs ruled kind t = (ap (λ z. z >>= λ k. Ok (Of k)) t.0 ∙ ap (λ z. Ok z) (type_is_kind cs kind t.1), type_stands cs kind t.1)

module _ (w : ClassFacts) (at : CodePlace) (scope : List ValueType) where
  abbrev T : Expr → Typed
  T e = expr_type w at scope e

  pub offset_call_goes_on : (r : MethodRef) (e : Expr) (es : List Expr) (t : ExprType) → value (T e) ≡ Ok t → T (exprs.OffsetCall r e es) ≡ of_all (map T es) (offset_call_type w r t)
  offset_call_goes_on r e es t there = offset_call_typed w at scope r e es ∙ part_there (value (T e)) (λ s. values (map T es) >>= offset_call_type w r s) t there

  pub lookup_goes_on : (kind : ValueType) (name : List ℕ) (e : Expr) (es : List Expr) (t : ExprType) → value (T e) ≡ Ok t → T (exprs.Lookup kind name e es) ≡ of_all (map T es) (named_call_type w kind t)
  lookup_goes_on kind name e es t there = lookup_typed w at scope kind name e es ∙ part_there (value (T e)) (λ s. values (map T es) >>= named_call_type w kind s) t there

  pub dispatch_goes_on : (kind : ValueType) (name : List ℕ) (e : Expr) (es : List Expr) (t : ExprType) → value (T e) ≡ Ok t → T (exprs.Dispatch kind name e es) ≡ of_all (map T es) (named_call_type w kind t)
  dispatch_goes_on kind name e es t there = dispatch_typed w at scope kind name e es ∙ part_there (value (T e)) (λ s. values (map T es) >>= named_call_type w kind s) t there

  pub binary_goes_on : (op : ℕ) (a b : Expr) (t : ExprType) → value (T a) ≡ Ok t → T (exprs.Binary op a b) ≡ then (value (T b)) (binary_type op t)
  binary_goes_on op a b t there = binary_typed w at scope op a b ∙ part_there (value (T a)) (λ s. value (T b) >>= binary_type op s) t there

  pub host_goes_on : (code : HostCode) (a b : Expr) (t : ExprType) → value (T a) ≡ Ok t → T (exprs.Host code a b) ≡ then (value (T b)) (host_type t)
  host_goes_on code a b t there = host_typed w at scope code a b ∙ part_there (value (T a)) (λ s. value (T b) >>= host_type s) t there

  -- a first part that has no type
  pub binary_fails : (cs : List Class) (op : ℕ) (a b : Expr) (f : TypeFault) → Fails (value (T a)) f → Types cs (T (exprs.Binary op a b)) (Err f)
  binary_fails cs op a b f t = subst (λ z. Types cs z (Err f)) (sym (binary_typed w at scope op a b)) (fails_on (value (T a)) (λ s. value (T b) >>= binary_type op s) f t)

  pub host_fails : (cs : List Class) (code : HostCode) (a b : Expr) (f : TypeFault) → Fails (value (T a)) f → Types cs (T (exprs.Host code a b)) (Err f)
  host_fails cs code a b f t = subst (λ z. Types cs z (Err f)) (sym (host_typed w at scope code a b)) (fails_on (value (T a)) (λ s. value (T b) >>= host_type s) f t)

  pub offset_call_fails : (cs : List Class) (r : MethodRef) (e : Expr) (es : List Expr) (f : TypeFault) → Fails (value (T e)) f → Types cs (T (exprs.OffsetCall r e es)) (Err f)
  offset_call_fails cs r e es f t = subst (λ z. Types cs z (Err f)) (sym (offset_call_typed w at scope r e es)) (fails_on (value (T e)) (λ s. values (map T es) >>= offset_call_type w r s) f t)

  pub lookup_fails : (cs : List Class) (kind : ValueType) (name : List ℕ) (e : Expr) (es : List Expr) (f : TypeFault) → Fails (value (T e)) f → Types cs (T (exprs.Lookup kind name e es)) (Err f)
  lookup_fails cs kind name e es f t = subst (λ z. Types cs z (Err f)) (sym (lookup_typed w at scope kind name e es)) (fails_on (value (T e)) (λ s. values (map T es) >>= named_call_type w kind s) f t)

  pub dispatch_fails : (cs : List Class) (kind : ValueType) (name : List ℕ) (e : Expr) (es : List Expr) (f : TypeFault) → Fails (value (T e)) f → Types cs (T (exprs.Dispatch kind name e es)) (Err f)
  dispatch_fails cs kind name e es f t = subst (λ z. Types cs z (Err f)) (sym (dispatch_typed w at scope kind name e es)) (fails_on (value (T e)) (λ s. values (map T es) >>= named_call_type w kind s) f t)
