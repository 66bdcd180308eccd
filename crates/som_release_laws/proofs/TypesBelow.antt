-- Types that are smaller: what is asked of a type holds of one below it.
use Rattle.std.proofs.Common.{◌≡◌, suc, ◌⊎◌, inl, inr, true, false, List, [], ◌∷◌, ◌++◌, length, Some, refl, sym, ap, ◌∙◌, subst, true≢false}
use Rattle.som_model.specs.declared.key.ClassKey.{ClassKey}
use Rattle.som_model.specs.declared.key.MethodRef.{MethodRef}
use Rattle.som_model.specs.declared.key.ValueType.{ValueType}
use Rattle.som_model.specs.declared.key.ValueType.TheVariants as types
use Rattle.som_model.specs.declared.class.Sig.{Sig}
use Rattle.som_model.specs.Named.{Named, AClass, AMethod, AProxy, method_names, type_names}
use Rattle.som_model.specs.Typing.{ClassFacts, ExprType, Of, PlainNil, descends_to, fits, all_fit, kind_is_known}
use Rattle.som_model.proofs.KeyLaws.{both}
use Rattle.som_model_laws.proofs.Members.{mem_split}
use Rattle.som_release_laws.specs.Refining.{Refines, AreKnown}
use Rattle.som_release_laws.proofs.Lists.{both_true}

-- what is named

pub none_named : (w : ClassFacts) → AreKnown w []
none_named w = record { classes = λ k m. absurd m; methods = λ r m. absurd m }

pub both_named : (w : ClassFacts) (a b : List Named) → AreKnown w a → AreKnown w b → AreKnown w (a ++ b)
both_named w a b x y = record {
  classes = λ k m. elim (mem_split (AClass k) a b m) [ inl n ↦ x.classes k n | inr n ↦ y.classes k n ];
  methods = λ r m. elim (mem_split (AMethod r) a b m) [ inl n ↦ x.methods r n | inr n ↦ y.methods r n ];
}

pub class_named : (w : ClassFacts) (k : ClassKey) (a : List Named) → w.is_known k ≡ true → AreKnown w a → AreKnown w (AClass k ∷ a)
class_named w k a e x = record {
  classes = λ q m. elim m [ inl is ↦ (let z : q ≡ k = cc in ap w.is_known z ∙ e) | inr n ↦ x.classes q n ];
  methods = λ r m. elim m [ inl is ↦ absurd (cc) | inr n ↦ x.methods r n ];
}

pub proxy_named : (w : ClassFacts) (k : ClassKey) (a : List Named) → AreKnown w a → AreKnown w (AProxy k ∷ a)
proxy_named w k a x = record {
  classes = λ q m. elim m [ inl is ↦ absurd (cc) | inr n ↦ x.classes q n ];
  methods = λ r m. elim m [ inl is ↦ absurd (cc) | inr n ↦ x.methods r n ];
}

pub method_named : (w : ClassFacts) (r : MethodRef) (s : Sig) → w.signature r ≡ Some s → w.is_known r.class ≡ true → AreKnown w (method_names r)
method_named w r s e f = class_named w r.class (AMethod r ∷ []) f (record {
  classes = λ q m. elim m [ inl is ↦ absurd (cc) | inr n ↦ absurd n ];
  methods = λ q m. elim m [ inl is ↦ (let z : q ≡ r = cc in (s, ap w.signature z ∙ e)) | inr n ↦ absurd n ];
})

pub kind_named : (w : ClassFacts) (kind : ValueType) → kind_is_known w kind ≡ true → AreKnown w (type_names kind)
kind_named w types.Void e = none_named w
kind_named w types.Long e = none_named w
kind_named w types.Boolean e = none_named w
kind_named w types.Str e = none_named w
kind_named w (types.Class k) e = class_named w k [] e (none_named w)

-- types below others

abbrev pub Below : ClassFacts → ExprType → ExprType → Type 0
Below v s t = (s ≡ t) ⊎ ((a : ClassKey) × (b : ClassKey) × (s ≡ Of (types.Class a)) × (t ≡ Of (types.Class b)) × (v.is_a a b ≡ true))

abbrev pub BelowAll : ClassFacts → List ExprType → List ExprType → Type 0
BelowAll v [] [] = Unit {0}
BelowAll v (s ∷ ss) (t ∷ ts) = Below v s t × BelowAll v ss ts
BelowAll v [] (t ∷ ts) = ⊥
BelowAll v (s ∷ ss) [] = ⊥

-- what doesn't look into classes says of a type what it says of one below it
pub alike : {B : Type 0} (v : ClassFacts) (f : ExprType → B) → ((a b : ClassKey) → f (Of (types.Class a)) ≡ f (Of (types.Class b))) → (s t : ExprType) → Below v s t → f s ≡ f t
alike v f same s t (inl e) = ap f e
alike v f same s t (inr (a, b, e, g, d)) = ap f e ∙ same a b ∙ sym (ap f g)

pub as_long : (v : ClassFacts) (ss ts : List ExprType) → BelowAll v ss ts → length ss ≡ length ts
as_long v [] [] b = refl
as_long v (s ∷ ss) (t ∷ ts) b = ap suc (as_long v ss ts b.1)
as_long v [] (t ∷ ts) b = absurd b
as_long v (s ∷ ss) [] b = absurd b

module _ (w v : ClassFacts) (r : Refines w v) where
  descends_at : (k : ClassKey) (t : ExprType) → descends_to w k t ≡ true → (c : ClassKey) × (t ≡ Of (types.Class c)) × (w.is_a c k ≡ true)
  descends_at k (Of (types.Class c)) e = (c, refl, e)
  descends_at k (Of types.Void) e = absurd (true≢false (sym e))
  descends_at k (Of types.Long) e = absurd (true≢false (sym e))
  descends_at k (Of types.Boolean) e = absurd (true≢false (sym e))
  descends_at k (Of types.Str) e = absurd (true≢false (sym e))
  descends_at k PlainNil e = absurd (true≢false (sym e))

  pub descends_below : (k : ClassKey) (s t : ExprType) → descends_to w k t ≡ true → Below v s t → descends_to v k s ≡ true
  descends_below k s t e (inl is) = let c = descends_at k t e in ap (descends_to v k) (is ∙ c.1) ∙ r.is_a c.0 k c.2
  descends_below k s t e (inr (a, b, is, was, d)) =
      let c = descends_at k t e in
      let same : c.0 ≡ b = one c.0 b (sym c.1 ∙ was) in
      ap (descends_to v k) is ∙ r.through a b k d (subst (λ z. v.is_a z k ≡ true) same (r.is_a c.0 k c.2))
    where
      one : (x y : ClassKey) → Of (types.Class x) ≡ Of (types.Class y) → x ≡ y
      one x y e = cc

  fits_class : (k : ClassKey) (t : ExprType) → fits w (types.Class k) t ≡ true → (t ≡ PlainNil) ⊎ (descends_to w k t ≡ true)
  fits_class k PlainNil e = inl refl
  fits_class k (Of t) e = inr e

  class_fits : (k : ClassKey) (s : ExprType) → descends_to v k s ≡ true → fits v (types.Class k) s ≡ true
  class_fits k PlainNil e = refl
  class_fits k (Of t) e = e

  nil_below : (s : ExprType) → Below v s PlainNil → s ≡ PlainNil
  nil_below s (inl e) = e
  nil_below s (inr (a, b, e, g, d)) = absurd (cc)

  -- a plain kind
  plain_fits : (kind : ValueType) → ((t : ExprType) → fits v kind t ≡ fits w kind t) → ((b : ClassKey) → fits w kind (Of (types.Class b)) ≡ false) → (s t : ExprType) → fits w kind t ≡ true → Below v s t → fits v kind s ≡ true
  plain_fits kind same no_class s t e (inl is) = ap (fits v kind) is ∙ same t ∙ e
  plain_fits kind same no_class s t e (inr (a, b, is, was, d)) = absurd (true≢false (sym e ∙ ap (fits w kind) was ∙ no_class b))

  pub fits_below : (kind : ValueType) (s t : ExprType) → fits w kind t ≡ true → Below v s t → fits v kind s ≡ true
  fits_below (types.Class k) s t e b = elim (fits_class k t e) [
    | inl is ↦ ap (fits v (types.Class k)) (nil_below s (subst (λ z. Below v s z) is b))
    | inr d ↦ class_fits k s (descends_below k s t d b)
  ]
  fits_below types.Void s t e b = plain_fits types.Void (λ t. void_same t) (λ k. refl) s t e b
    where
      void_same : (t : ExprType) → fits v types.Void t ≡ fits w types.Void t
      void_same PlainNil = refl
      void_same (Of t) = refl
  fits_below types.Long s t e b = plain_fits types.Long (λ t. long_same t) (λ k. refl) s t e b
    where
      long_same : (t : ExprType) → fits v types.Long t ≡ fits w types.Long t
      long_same PlainNil = refl
      long_same (Of t) = refl
  fits_below types.Boolean s t e b = plain_fits types.Boolean (λ t. boolean_same t) (λ k. refl) s t e b
    where
      boolean_same : (t : ExprType) → fits v types.Boolean t ≡ fits w types.Boolean t
      boolean_same PlainNil = refl
      boolean_same (Of t) = refl
  fits_below types.Str s t e b = plain_fits types.Str (λ t. string_same t) (λ k. refl) s t e b
    where
      string_same : (t : ExprType) → fits v types.Str t ≡ fits w types.Str t
      string_same PlainNil = refl
      string_same (Of t) = refl

  pub all_fit_below : (kinds : List ValueType) (ss ts : List ExprType) → all_fit w kinds ts ≡ true → BelowAll v ss ts → all_fit v kinds ss ≡ true
  all_fit_below [] [] [] e b = refl
  all_fit_below (kind ∷ kinds) (s ∷ ss) (t ∷ ts) e b =
      let q = both (fits w kind t) (all_fit w kinds ts) e in
      both_true (fits v kind s) (all_fit v kinds ss) (fits_below kind s t q.0 b.0) (all_fit_below kinds ss ts q.1 b.1)
  all_fit_below [] [] (t ∷ ts) e b = absurd b
  all_fit_below [] (s ∷ ss) [] e b = absurd b
  all_fit_below [] (s ∷ ss) (t ∷ ts) e b = absurd (true≢false (sym e))
  all_fit_below (kind ∷ kinds) [] [] e b = absurd (true≢false (sym e))
  all_fit_below (kind ∷ kinds) [] (t ∷ ts) e b = absurd b
  all_fit_below (kind ∷ kinds) (s ∷ ss) [] e b = absurd b

  pub kind_below : (kind : ValueType) → kind_is_known w kind ≡ true → kind_is_known v kind ≡ true
  kind_below types.Void e = refl
  kind_below types.Long e = refl
  kind_below types.Boolean e = refl
  kind_below types.Str e = refl
  kind_below (types.Class k) e = r.known k e
