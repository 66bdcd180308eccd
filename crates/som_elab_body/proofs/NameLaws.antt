-- The places of locals, variables and parents, and what stands there.
use Rattle.std.proofs.Common.{◌≡◌, ℕ, zero, suc, ◌<◌, Bool, true, false, if◌then◌else◌, inl, inr, List, [], ◌∷◌, drop, length, slice_get, slice_index_or, Option, Some, None, is_some, Result, Ok, Err, refl, sym, ap, ◌∙◌, subst, true≢false, drop-cons, arith}
use Rattle.std.specs.Str.{bytes_eq}
use Rattle.som_model.specs.declared.key.ClassKey.{ClassKey}
use Rattle.som_model.specs.declared.key.ValueType.{ValueType}
use Rattle.som_model.specs.declared.syntax.Expr.TheVariants as exprs
use Rattle.som_model.specs.Class.{Class}
use Rattle.som_model.specs.Classes.{class_at}
use Rattle.som_model.specs.Keys.{same_key}
use Rattle.som_model.specs.Lists.{Mem, place_from}
use Rattle.som_model.specs.Steps.{◌>>=◌}
use Rattle.som_model.specs.Typing.{CodePlace, Of, Ruled, there, own_variable}
use Rattle.som_model.proofs.KeyLaws.{exact_keys}
use Rattle.som_verify_forms.specs.declared.kind.Kind.{Kind}
use Rattle.som_verify_forms.specs.declared.kind.Kind.TheVariants as kinds
use Rattle.som_verify_forms.specs.declared.code_place.CodePlace.{CodePlace as Place}
use Rattle.som_verify_forms.specs.declared.code_place.TypeFault.{TypeFault}
use Rattle.som_verify_forms.specs.declared.knowledge.Knowledge.{Knowledge}
use Rattle.som_verify_forms.specs.Kinds.{Comes, IsType, Names as Looks, PlaceStands, Stands, code_at, kind_at, type_at}
use Rattle.som_verify_forms.specs.Knowing.{IsKnowledge, all_of}
use Rattle.som_verify_forms.proofs.KindLaws.{index_mem}
use Rattle.som_elab_body.specs.declared.local.Local.{Local}
use Rattle.som_elab_body.specs.declared.typed_expr.TypedExpr.{TypedExpr}
use Rattle.som_elab_body.specs.Locals.{Names, kinds_of, names_of}
use Rattle.som_elab_body.specs.Methods.{parent_place, variable_place}
use Rattle.som_elab_body.specs.Expressions.{Elab, formed, local_form, variable_form}
use Rattle.som_elab_body.specs.Code.{AreLocals, Makes, names_at}
use Rattle.som_elab_body.specs.Forms.{local_place, of_kind}

-- ---- places

-- what fails the test is passed over
pub place_skips : {A : Type 0} (test : A → Bool) (xs : List A) (i j : ℕ) (d : A) → j ≡ suc i → i < length xs → test (slice_index_or xs i d) ≡ false
    → place_from j test (drop j xs) ≡ place_from i test (drop i xs)
place_skips test xs i j d next lt fails =
    ap (λ z. place_from z test (drop z xs)) next
    ∙ sym (ap (place_from i test) (drop-cons xs i d lt) ∙ ap (λ b. if b then Some i else place_from (suc i) test (drop (suc i) xs)) fails)

-- ---- types that are kinds

type_kind : (cs : List Class) (k : Kind) → IsType cs k → Of (type_at cs k) ≡ kind_at cs k
type_kind cs kinds.Void is = refl
type_kind cs kinds.Long is = refl
type_kind cs kinds.Boolean is = refl
type_kind cs kinds.Str is = refl
type_kind cs kinds.Nil is = absurd is
type_kind cs (kinds.Class p) is = refl

type_stands : (cs : List Class) (k : Kind) → IsType cs k → Stands cs k
type_stands cs kinds.Void is = is
type_stands cs kinds.Long is = is
type_stands cs kinds.Boolean is = is
type_stands cs kinds.Str is = is
type_stands cs kinds.Nil is = absurd is
type_stands cs (kinds.Class p) is = is

-- a type that is looked up is one that a form comes to
pub looked_up : (cs : List Class) (ruled : Ruled ValueType) (r : Result Kind ℕ) → Looks cs ruled r → Comes cs (of_kind ruled) r
looked_up cs ruled (Ok k) n = (ap of_kind n.0 ∙ ap (λ t. Ok t) (type_kind cs k n.1), type_stands cs k n.1)
looked_up cs ruled (Err rule) n = ap of_kind n

-- ---- locals

pub place_said : (cs : List Class) (ls : List Local) (name : List ℕ) (n : ℕ) → place_from n (bytes_eq name) (names_of (names_at cs ls)) ≡ place_from n (λ (l : Local). bytes_eq name l.name.now) ls
place_said cs [] name n = refl
place_said cs (l ∷ ls) name n = ap (λ z. if bytes_eq name l.name.now then Some n else z) (place_said cs ls name (suc n))

kind_got : (cs : List Class) (ls : List Local) (i : ℕ) (d : Local) → i < length ls → slice_get (kinds_of (names_at cs ls)) i ≡ Some (type_at cs (slice_index_or ls i d).kind)
kind_got cs [] i d lt = absurd (omega arith)
kind_got cs (l ∷ ls) zero d lt = refl
kind_got cs (l ∷ ls) (suc i) d lt = kind_got cs ls i d (omega arith)

abbrev by_place : Names → ℕ → Elab
by_place scope n = formed (exprs.Local n) (there 16 (slice_get (kinds_of scope) n) >>= λ kind. Ok (Of kind))

-- the local of a name
pub local_found : (cs : List Class) (ls : List Local) (name : List ℕ) (n : ℕ) (d : Local) → AreLocals cs ls → Some n ≡ local_place ls name → n < length ls
    → Makes cs (local_form (names_at cs ls) name) (Ok (record { expr = exprs.Local n; kind = (slice_index_or ls n d).kind }))
local_found cs ls name n d are e lt =
    let k = (slice_index_or ls n d).kind in
    let is = are.types (slice_index_or ls n d) (index_mem ls n d lt) in (
      ap (λ o. there 16 o >>= by_place (names_at cs ls)) (place_said cs ls name 0 ∙ sym e)
          ∙ ap (λ o. formed (exprs.Local n) (there 16 o >>= λ kind. Ok (Of kind))) (kind_got cs ls n d lt)
          ∙ ap (λ t. formed (exprs.Local n) (Ok t)) (type_kind cs k is),
      type_stands cs k is,
    )

pub local_missing : (cs : List Class) (ls : List Local) (name : List ℕ) → None ≡ local_place ls name → local_form (names_at cs ls) name ≡ Err 16
local_missing cs ls name e = ap (λ o. there 16 o >>= by_place (names_at cs ls)) (place_said cs ls name 0 ∙ sym e)

-- ---- variables

abbrev by_slot : CodePlace → ℕ → Elab
by_slot at n = formed (exprs.Variable n) (of_kind (own_variable at n))

pub variable_found : (cs : List Class) (at : CodePlace) (name : List ℕ) (n : ℕ) (r : Result TypedExpr TypeFault) → Some n ≡ variable_place at.class name
    → Makes cs (formed (exprs.Variable n) (of_kind (own_variable at n))) r → Makes cs (variable_form at name) r
variable_found cs at name n r e m = subst (λ o. Makes cs (there 16 o >>= by_slot at) r) e m

pub variable_missing : (at : CodePlace) (name : List ℕ) → None ≡ variable_place at.class name → variable_form at name ≡ Err 16
variable_missing at name e = ap (λ o. there 16 o >>= by_slot at) (sym e)

-- ---- parents

placed_mem : (k : ClassKey) (ks : List ClassKey) (n : ℕ) → is_some (place_from n (same_key k) ks) ≡ true → Mem k ks
placed_mem k [] n e = absurd (true≢false (sym e))
placed_mem k (x ∷ ks) n e = by (same_key k x) refl (λ f. placed_mem k ks (suc n) f)
  where
    by : (b : Bool) → same_key k x ≡ b → (is_some (place_from (suc n) (same_key k) ks) ≡ true → Mem k ks) → Mem k (x ∷ ks)
    by true is further = inl (exact_keys.two k x is)
    by false is further = inr (further (rw is at e))

-- a parent of the body's class is known
pub parent_known : (known : Knowledge) (at : Place) (k : ClassKey) → IsKnowledge known → PlaceStands (all_of known) at → is_some (parent_place (code_at (all_of known) at).class k) ≡ true
    → is_some (class_at (all_of known) k) ≡ true
parent_known known at k is stands e = by at.class refl
  where
    by : (o : Option ℕ) → at.class ≡ o → is_some (class_at (all_of known) k) ≡ true
    by None here = absurd (true≢false (sym (rw here at e)))
    by (Some p) here =
        let there = rw here at stands.class in
        is.names.parents p k there.1 (placed_mem k _ 0 (rw here at e))
