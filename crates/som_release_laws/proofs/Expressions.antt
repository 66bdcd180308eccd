-- Expressions that are well typed by some facts are so by others that refine them, with a type below.
use Rattle.std.proofs.Common.{◌≡◌, ℕ, inl, inr, Bool, true, false, not, ◌&&◌, nat_le, List, [], ◌∷◌, ◌++◌, length, map, slice_get, Option, Some, None, Ok, refl, sym, ap, ◌∙◌, subst, true≢false}
use Rattle.som_model.specs.declared.key.ClassKey.{ClassKey}
use Rattle.som_model.specs.declared.key.MethodRef.{MethodRef}
use Rattle.som_model.specs.declared.key.ValueType.{ValueType}
use Rattle.som_model.specs.declared.key.ValueType.TheVariants as types
use Rattle.som_model.specs.declared.syntax.Expr.{Expr, roll-Expr, map-Expr, ind-Expr, fold-roll-Expr}
use Rattle.som_model.specs.declared.syntax.Expr.TheOpen.{Expr-F}
use Rattle.som_model.specs.declared.class.Sig.{Sig}
use Rattle.som_model.specs.declared.limits.TheConstants.{MAX_PARAMETERS}
use Rattle.som_model.specs.Lists.{joined}
use Rattle.som_model.specs.Keys.{same_key}
use Rattle.som_model.specs.Steps.{◌>>=◌}
use Rattle.som_model.specs.Class.{Class}
use Rattle.som_model.specs.Named.{Named, AProxy, expr_names, expr_names_step, method_names, type_names}
use Rattle.som_model.specs.Typing.{ClassFacts, CodePlace, ExprType, Of, Typed, needs, there, gives, is_nothing, is_class, is_reference, descends_to, fits, all_fit, kind_is_known, value, value_of, values, unary_type, binary_type, host_type, cast_type, isa_type, proxy_type, offset_call_type, named_call_type, parent_call_type, parents_call_type, expr_step, expr_type}
use Rattle.som_model.proofs.KeyLaws.{both}
use Rattle.som_model.proofs.StepLaws.{went, held, met, both_steps, same_answer, found}
use Rattle.som_model.proofs.ListLaws.{is_false}
use Rattle.som_release_laws.specs.Refining.{Refines, AreKnown}
use Rattle.som_release_laws.proofs.Lists.{both_true}
use Rattle.som_release_laws.proofs.TypesBelow.{Below, BelowAll, none_named, both_named, class_named, proxy_named, method_named, kind_named, alike, as_long, descends_below, fits_below, all_fit_below, kind_below}

abbrev parent_in : Option Class → ℕ → Option ClassKey
parent_in None n = None
parent_in (Some c) n = slice_get c.decl.face.parents n

abbrev is_proper_for : ClassFacts → Option Class → ClassKey → Bool
is_proper_for w None k = false
is_proper_for w (Some c) k = not (same_key k c.key) && w.is_a c.key k

module _ (w v : ClassFacts) (r : Refines w v) (at : CodePlace) (scope : List ValueType) where
  abbrev T : Expr → Typed
  T = expr_type w at scope

  abbrev V : Expr → Typed
  V = expr_type v at scope

  -- what an expression that was well typed comes to by the other facts
  pub record Carried (e : Expr) (t : ExprType) : Type 0 where
    pub type : ExprType
    pub typed : V e ≡ Ok type
    pub below : Below v type t
    pub named : AreKnown w (expr_names e)

  abbrev Carries : Expr → Type 0
  Carries e = (t : ExprType) → T e ≡ Ok t → Carried e t

  abbrev Kept : Type 0
  Kept = (e : Expr) × Carries e

  abbrev exprs : List Kept → List Expr
  exprs = map (λ (k : Kept). k.0)

  abbrev bare : Expr-F Kept → Expr-F Expr
  bare = map-Expr Kept Expr (λ (k : Kept). k.0)

  -- by the outermost part
  carried : (l : Expr-F Expr) (t s : ExprType) → expr_step v at scope (map-Expr Expr Typed V l) ≡ Ok s → Below v s t → AreKnown w (expr_names_step (map-Expr Expr (List Named) expr_names l)) → Carried (roll-Expr l) t
  carried l t s e b n = record {
    type = s;
    typed = fold-roll-Expr Typed (expr_step v at scope) l ∙ e;
    below = b;
    named = subst (AreKnown w) (sym (fold-roll-Expr (List Named) expr_names_step l)) n;
  }

  -- an expression whose type is what it was
  equal : (l : Expr-F Expr) (t : ExprType) → expr_step v at scope (map-Expr Expr Typed V l) ≡ Ok t → AreKnown w (expr_names_step (map-Expr Expr (List Named) expr_names l)) → Carried (roll-Expr l) t
  equal l t e n = carried l t t e (inl refl) n

  -- a part that has a value
  pub record Part (e : Expr) (t : ExprType) : Type 0 where
    pub type : ExprType
    pub typed : value (V e) ≡ Ok type
    pub below : Below v type t
    pub named : AreKnown w (expr_names e)

  pub part_by : (e : Expr) (t : ExprType) → Carries e → value (T e) ≡ Ok t → Part e t
  part_by e t k h =
      let u = went (T e) value_of t h in
      let d = held 20 (not (is_nothing u.value)) (Ok u.value) t u.further in
      let c = k u.value u.first in
      let some : is_nothing c.type ≡ false = alike v is_nothing (λ a b. refl) c.type u.value c.below ∙ is_false (is_nothing u.value) d.0 in
      record {
        type = c.type;
        typed = ap (λ z. z >>= value_of) c.typed ∙ ap (λ b. needs 20 (not b) (Ok c.type)) some;
        below = subst (λ z. Below v c.type z) (same_answer d.1) c.below;
        named = c.named;
      }

  part : (k : Kept) (t : ExprType) → value (T k.0) ≡ Ok t → Part k.0 t
  part k t h = part_by k.0 t k.1 h

  pub record Parts (es : List Expr) (ts : List ExprType) : Type 0 where
    pub types_ : List ExprType
    pub typed : values (map V es) ≡ Ok types_
    pub below : BelowAll v types_ ts
    pub named : AreKnown w (joined (map expr_names es))

  parts : (ks : List Kept) (ts : List ExprType) → values (map T (exprs ks)) ≡ Ok ts → Parts (exprs ks) ts
  parts [] ts h = subst (Parts []) (same_answer h) (record { types_ = []; typed = refl; below = tt; named = none_named w })
  parts (k ∷ ks) ts h =
      let q = went (value (T k.0)) (λ t. values (map T (exprs ks)) >>= λ ts. Ok (t ∷ ts)) ts h in
      let qs = went (values (map T (exprs ks))) (λ ts. Ok (q.value ∷ ts)) ts q.further in
      let p = part k q.value q.first in
      let ps = parts ks qs.value qs.first in
      subst (Parts (k.0 ∷ exprs ks)) (same_answer qs.further) (record {
        types_ = p.type ∷ ps.types_;
        typed = both_steps (value (V k.0)) (values (map V (exprs ks))) (λ t ts. Ok (t ∷ ts)) p.type ps.types_ p.typed ps.typed;
        below = (p.below, ps.below);
        named = both_named w (expr_names k.0) (joined (map expr_names (exprs ks))) p.named ps.named;
      })

  -- two parts of an operator
  two_alike : {B : Type 0} (f : ExprType → ExprType → B) → ((a b : ClassKey) (t : ExprType) → f (Of (types.Class a)) t ≡ f (Of (types.Class b)) t) → ((a b : ClassKey) (s : ExprType) → f s (Of (types.Class a)) ≡ f s (Of (types.Class b)))
      → (s x t y : ExprType) → Below v s x → Below v t y → f s t ≡ f x y
  two_alike f left right s x t y a b = alike v (λ z. f z t) (λ p q. left p q t) s x a ∙ alike v (f x) (λ p q. right p q x) t y b

  binary_left : (op : ℕ) (a b : ClassKey) (t : ExprType) → binary_type op (Of (types.Class a)) t ≡ binary_type op (Of (types.Class b)) t
  binary_left op a b t = refl

  binary_right : (op : ℕ) (a b : ClassKey) (s : ExprType) → binary_type op s (Of (types.Class a)) ≡ binary_type op s (Of (types.Class b))
  binary_right op a b s = refl

  cast_carried : (k : ClassKey) (e : Expr) (kind : ValueType) (x t : ExprType) (p : Part e x) → needs 16 (w.is_known k) (gives (is_reference x) kind) ≡ Ok t
      → (needs 16 (v.is_known k) (gives (is_reference p.type) kind) ≡ Ok t) × (w.is_known k ≡ true)
  cast_carried k e kind x t p h =
      let d = held 16 (w.is_known k) (gives (is_reference x) kind) t h in (
        met 16 (v.is_known k) (gives (is_reference p.type) kind) (r.known k d.0) ∙ ap (λ b. gives b kind) (alike v is_reference (λ a b. refl) p.type x p.below) ∙ d.1,
        d.0,
      )

  offset_carried : (m : MethodRef) (x s t : ExprType) (xs ss : List ExprType) → Below v s x → BelowAll v ss xs → offset_call_type w m x xs ≡ Ok t
      → (offset_call_type v m s ss ≡ Ok t) × AreKnown w (method_names m)
  offset_carried m x s t xs ss b bs h =
      let g = went (there 16 (w.signature m)) (λ sig. needs 17 (descends_to w m.class x) (needs 18 (all_fit w sig.params xs) (Ok (Of sig.result)))) t h in
      let sig = g.value in
      let is = found 16 (w.signature m) sig g.first in
      let d = held 17 (descends_to w m.class x) (needs 18 (all_fit w sig.params xs) (Ok (Of sig.result))) t g.further in
      let f = held 18 (all_fit w sig.params xs) (Ok (Of sig.result)) t d.1 in (
        ap (λ o. there 16 o >>= λ sig. needs 17 (descends_to v m.class s) (needs 18 (all_fit v sig.params ss) (Ok (Of sig.result)))) (r.signature m sig is)
            ∙ met 17 (descends_to v m.class s) (needs 18 (all_fit v sig.params ss) (Ok (Of sig.result))) (descends_below w v r m.class s x d.0 b)
            ∙ met 18 (all_fit v sig.params ss) (Ok (Of sig.result)) (all_fit_below w v r sig.params ss xs f.0 bs) ∙ f.1,
        method_named w m sig is (r.referred m sig is),
      )

  named_carried : (kind : ValueType) (x s t : ExprType) (xs ss : List ExprType) → Below v s x → BelowAll v ss xs → named_call_type w kind x xs ≡ Ok t
      → (named_call_type v kind s ss ≡ Ok t) × AreKnown w (type_names kind)
  named_carried kind x s t xs ss b bs h =
      let k = held 16 (kind_is_known w kind) (needs 17 (is_class x) (needs 18 (nat_le (length xs) MAX_PARAMETERS) (Ok (Of kind)))) t h in (
        met 16 (kind_is_known v kind) (needs 17 (is_class s) (needs 18 (nat_le (length ss) MAX_PARAMETERS) (Ok (Of kind)))) (kind_below w v r kind k.0)
            ∙ ap (λ c. needs 17 c (needs 18 (nat_le (length ss) MAX_PARAMETERS) (Ok (Of kind)))) (alike v is_class (λ a b. refl) s x b)
            ∙ ap (λ n. needs 17 (is_class x) (needs 18 (nat_le n MAX_PARAMETERS) (Ok (Of kind)))) (as_long v ss xs bs) ∙ k.1,
        kind_named w kind k.0,
      )

  parent_carried : (n : ℕ) (m : MethodRef) (t : ExprType) (xs ss : List ExprType) → BelowAll v ss xs → parent_call_type w at n m xs ≡ Ok t
      → (parent_call_type v at n m ss ≡ Ok t) × AreKnown w (method_names m)
  parent_carried n m t xs ss bs h =
      let q = went (there 16 (parent_in at.class n)) (λ p. there 16 (w.signature m) >>= λ sig. needs 17 (w.is_a p m.class) (needs 18 (all_fit w sig.params xs) (Ok (Of sig.result)))) t h in
      let p = q.value in
      let g = went (there 16 (w.signature m)) (λ sig. needs 17 (w.is_a p m.class) (needs 18 (all_fit w sig.params xs) (Ok (Of sig.result)))) t q.further in
      let sig = g.value in
      let is = found 16 (w.signature m) sig g.first in
      let d = held 17 (w.is_a p m.class) (needs 18 (all_fit w sig.params xs) (Ok (Of sig.result))) t g.further in
      let f = held 18 (all_fit w sig.params xs) (Ok (Of sig.result)) t d.1 in (
        ap (λ z. z >>= λ p. there 16 (v.signature m) >>= λ sig. needs 17 (v.is_a p m.class) (needs 18 (all_fit v sig.params ss) (Ok (Of sig.result)))) q.first
            ∙ ap (λ o. there 16 o >>= λ sig. needs 17 (v.is_a p m.class) (needs 18 (all_fit v sig.params ss) (Ok (Of sig.result)))) (r.signature m sig is)
            ∙ met 17 (v.is_a p m.class) (needs 18 (all_fit v sig.params ss) (Ok (Of sig.result))) (r.is_a p m.class d.0)
            ∙ met 18 (all_fit v sig.params ss) (Ok (Of sig.result)) (all_fit_below w v r sig.params ss xs f.0 bs) ∙ f.1,
        method_named w m sig is (r.referred m sig is),
      )

  proper_below : (c : Option Class) (m : MethodRef) (sig : Sig) → w.signature m ≡ Some sig → is_proper_for w c (w.owner m).class ≡ true → is_proper_for v c (v.owner m).class ≡ true
  proper_below None m sig is e = absurd (true≢false (sym e))
  proper_below (Some c) m sig is e = r.proper m sig c.key is e

  parents_carried : (m : MethodRef) (t : ExprType) (xs ss : List ExprType) → BelowAll v ss xs → parents_call_type w at m xs ≡ Ok t
      → (parents_call_type v at m ss ≡ Ok t) × AreKnown w (method_names m)
  parents_carried m t xs ss bs h =
      let g = went (there 16 (w.signature m)) (λ sig. needs 18 (all_fit w sig.params xs) (needs 20 (is_nothing (Of sig.result) && is_proper_for w at.class (w.owner m).class) (Ok (Of sig.result)))) t h in
      let sig = g.value in
      let is = found 16 (w.signature m) sig g.first in
      let d = held 18 (all_fit w sig.params xs) (needs 20 (is_nothing (Of sig.result) && is_proper_for w at.class (w.owner m).class) (Ok (Of sig.result))) t g.further in
      let f = held 20 (is_nothing (Of sig.result) && is_proper_for w at.class (w.owner m).class) (Ok (Of sig.result)) t d.1 in
      let b = both (is_nothing (Of sig.result)) (is_proper_for w at.class (w.owner m).class) f.0 in
      let still : (is_nothing (Of sig.result) && is_proper_for v at.class (v.owner m).class) ≡ true = both_true (is_nothing (Of sig.result)) (is_proper_for v at.class (v.owner m).class) b.0 (proper_below at.class m sig is b.1) in (
        ap (λ o. there 16 o >>= λ sig. needs 18 (all_fit v sig.params ss) (needs 20 (is_nothing (Of sig.result) && is_proper_for v at.class (v.owner m).class) (Ok (Of sig.result)))) (r.signature m sig is)
            ∙ met 18 (all_fit v sig.params ss) (needs 20 (is_nothing (Of sig.result) && is_proper_for v at.class (v.owner m).class) (Ok (Of sig.result))) (all_fit_below w v r sig.params ss xs d.0 bs)
            ∙ met 20 (is_nothing (Of sig.result) && is_proper_for v at.class (v.owner m).class) (Ok (Of sig.result)) still ∙ f.1,
        method_named w m sig is (r.referred m sig is),
      )

  layer : (y : Expr-F Kept) (t : ExprType) → expr_step w at scope (map-Expr Expr Typed T (bare y)) ≡ Ok t → Carried (roll-Expr (bare y)) t
  layer (Expr-F.Long z) t h = equal (Expr-F.Long z) t h (none_named w)
  layer (Expr-F.Str z) t h = equal (Expr-F.Str z) t h (none_named w)
  layer (Expr-F.Boolean b) t h = equal (Expr-F.Boolean b) t h (none_named w)
  layer Expr-F.Nil t h = equal Expr-F.Nil t h (none_named w)
  layer (Expr-F.Local n) t h = equal (Expr-F.Local n) t h (none_named w)
  layer Expr-F.Me t h = equal Expr-F.Me t h (none_named w)
  layer (Expr-F.Variable n) t h = equal (Expr-F.Variable n) t h (none_named w)
  layer (Expr-F.Unary op k) t h =
      let q = went (value (T k.0)) (unary_type op) t h in
      let p = part k q.value q.first in
      equal (Expr-F.Unary op k.0) t (ap (λ z. z >>= unary_type op) p.typed ∙ alike v (unary_type op) (λ a b. refl) p.type q.value p.below ∙ q.further) p.named
  layer (Expr-F.Binary op k l) t h =
      let q = went (value (T k.0)) (λ s. value (T l.0) >>= binary_type op s) t h in
      let u = went (value (T l.0)) (binary_type op q.value) t q.further in
      let p = part k q.value q.first in
      let o = part l u.value u.first in
      equal (Expr-F.Binary op k.0 l.0) t
      (both_steps (value (V k.0)) (value (V l.0)) (binary_type op) p.type o.type p.typed o.typed ∙ two_alike (binary_type op) (binary_left op) (binary_right op) p.type q.value o.type u.value p.below o.below ∙ u.further)
      (both_named w (expr_names k.0) (expr_names l.0) p.named o.named)
  layer (Expr-F.New k) t h =
      let d = held 16 (w.is_known k) (Ok (Of (types.Class k))) t h in
      equal (Expr-F.New k) t (met 16 (v.is_known k) (Ok (Of (types.Class k))) (r.known k d.0) ∙ d.1) (class_named w k [] d.0 (none_named w))
  layer (Expr-F.Class k) t h =
      let d = held 16 (w.is_known k) (Ok (Of (types.Class (w.class_object k)))) t h in
      carried (Expr-F.Class k) t (Of (types.Class (v.class_object k))) (met 16 (v.is_known k) (Ok (Of (types.Class (v.class_object k)))) (r.known k d.0))
      (inr (v.class_object k, w.class_object k, refl, sym (same_answer d.1), r.object k d.0)) (class_named w k [] d.0 (none_named w))
  layer Expr-F.Manager t h = equal Expr-F.Manager t h (none_named w)
  layer (Expr-F.Cast k e) t h =
      let q = went (value (T e.0)) (cast_type w k) t h in
      let p = part e q.value q.first in
      let c = cast_carried k e.0 (types.Class k) q.value t p q.further in
      equal (Expr-F.Cast k e.0) t (ap (λ z. z >>= cast_type v k) p.typed ∙ c.0) (class_named w k (expr_names e.0) c.1 p.named)
  layer (Expr-F.Isa k e) t h =
      let q = went (value (T e.0)) (isa_type w k) t h in
      let p = part e q.value q.first in
      let c = cast_carried k e.0 types.Boolean q.value t p q.further in
      equal (Expr-F.Isa k e.0) t (ap (λ z. z >>= isa_type v k) p.typed ∙ c.0) (class_named w k (expr_names e.0) c.1 p.named)
  layer (Expr-F.Proxy k e) t h =
      let q = went (value (T e.0)) (proxy_type w k) t h in
      let p = part e q.value q.first in
      let d = held 16 (w.is_known k) (gives (fits w (types.Class k) q.value) (types.Class k)) t q.further in
      let f = held 17 (fits w (types.Class k) q.value) (Ok (Of (types.Class k))) t d.1 in
      equal (Expr-F.Proxy k e.0) t
      (ap (λ z. z >>= proxy_type v k) p.typed ∙ met 16 (v.is_known k) (gives (fits v (types.Class k) p.type) (types.Class k)) (r.known k d.0)
      ∙ met 17 (fits v (types.Class k) p.type) (Ok (Of (types.Class k))) (fits_below w v r (types.Class k) p.type q.value f.0 p.below) ∙ f.1)
      (class_named w k (AProxy k ∷ expr_names e.0) d.0 (proxy_named w k (expr_names e.0) p.named))
  layer (Expr-F.OffsetCall m e es) t h =
      let q = went (value (T e.0)) (λ on. values (map T (exprs es)) >>= offset_call_type w m on) t h in
      let qs = went (values (map T (exprs es))) (offset_call_type w m q.value) t q.further in
      let p = part e q.value q.first in
      let ps = parts es qs.value qs.first in
      let c = offset_carried m q.value p.type t qs.value ps.types_ p.below ps.below qs.further in
      equal (Expr-F.OffsetCall m e.0 (exprs es)) t (both_steps (value (V e.0)) (values (map V (exprs es))) (offset_call_type v m) p.type ps.types_ p.typed ps.typed ∙ c.0)
      (both_named w (method_names m) (expr_names e.0 ++ joined (map expr_names (exprs es))) c.1 (both_named w (expr_names e.0) (joined (map expr_names (exprs es))) p.named ps.named))
  layer (Expr-F.Lookup kind name e es) t h =
      let q = went (value (T e.0)) (λ on. values (map T (exprs es)) >>= named_call_type w kind on) t h in
      let qs = went (values (map T (exprs es))) (named_call_type w kind q.value) t q.further in
      let p = part e q.value q.first in
      let ps = parts es qs.value qs.first in
      let c = named_carried kind q.value p.type t qs.value ps.types_ p.below ps.below qs.further in
      equal (Expr-F.Lookup kind name e.0 (exprs es)) t (both_steps (value (V e.0)) (values (map V (exprs es))) (named_call_type v kind) p.type ps.types_ p.typed ps.typed ∙ c.0)
      (both_named w (type_names kind) (expr_names e.0 ++ joined (map expr_names (exprs es))) c.1 (both_named w (expr_names e.0) (joined (map expr_names (exprs es))) p.named ps.named))
  layer (Expr-F.Dispatch kind name e es) t h =
      let q = went (value (T e.0)) (λ on. values (map T (exprs es)) >>= named_call_type w kind on) t h in
      let qs = went (values (map T (exprs es))) (named_call_type w kind q.value) t q.further in
      let p = part e q.value q.first in
      let ps = parts es qs.value qs.first in
      let c = named_carried kind q.value p.type t qs.value ps.types_ p.below ps.below qs.further in
      equal (Expr-F.Dispatch kind name e.0 (exprs es)) t (both_steps (value (V e.0)) (values (map V (exprs es))) (named_call_type v kind) p.type ps.types_ p.typed ps.typed ∙ c.0)
      (both_named w (type_names kind) (expr_names e.0 ++ joined (map expr_names (exprs es))) c.1 (both_named w (expr_names e.0) (joined (map expr_names (exprs es))) p.named ps.named))
  layer (Expr-F.ParentCall n m es) t h =
      let qs = went (values (map T (exprs es))) (parent_call_type w at n m) t h in
      let ps = parts es qs.value qs.first in
      let c = parent_carried n m t qs.value ps.types_ ps.below qs.further in
      equal (Expr-F.ParentCall n m (exprs es)) t (ap (λ z. z >>= parent_call_type v at n m) ps.typed ∙ c.0) (both_named w (method_names m) (joined (map expr_names (exprs es))) c.1 ps.named)
  layer (Expr-F.ParentsCall m es) t h =
      let qs = went (values (map T (exprs es))) (parents_call_type w at m) t h in
      let ps = parts es qs.value qs.first in
      let c = parents_carried m t qs.value ps.types_ ps.below qs.further in
      equal (Expr-F.ParentsCall m (exprs es)) t (ap (λ z. z >>= parents_call_type v at m) ps.typed ∙ c.0) (both_named w (method_names m) (joined (map expr_names (exprs es))) c.1 ps.named)
  layer (Expr-F.Host code k l) t h =
      let q = went (value (T k.0)) (λ s. value (T l.0) >>= host_type s) t h in
      let u = went (value (T l.0)) (host_type q.value) t q.further in
      let p = part k q.value q.first in
      let o = part l u.value u.first in
      equal (Expr-F.Host code k.0 l.0) t
      (both_steps (value (V k.0)) (value (V l.0)) host_type p.type o.type p.typed o.typed ∙ two_alike host_type (λ a b t. refl) (λ a b s. refl) p.type q.value o.type u.value p.below o.below ∙ u.further)
      (both_named w (expr_names k.0) (expr_names l.0) p.named o.named)

  pub expr_carried : (e : Expr) → Carries e
  expr_carried = ind-Expr Carries (λ x y is. subst (λ z. Carries (roll-Expr z)) is
      (λ t h. layer y t (sym (fold-roll-Expr Typed (expr_step w at scope) (bare y)) ∙ h)))

  pub part_carried : (e : Expr) (t : ExprType) → value (T e) ≡ Ok t → Part e t
  part_carried e t h = part_by e t (expr_carried e) h
