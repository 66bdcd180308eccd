-- Values by the types of expressions: what fits a type is of it, and operators take what they are given.
use Rattle.std.proofs.Common.{◌≡◌, ℕ, zero, suc, Bool, true, List, [], ◌∷◌, ◌++◌, length, Option, Some, None, slice_get, refl, sym, ap, ◌∙◌, subst, arith, true≢false}
use Rattle.std.specs.Prelude.{slice_set, take}
use Rattle.som_model.specs.declared.key.ClassKey.{ClassKey}
use Rattle.som_model.specs.declared.key.ValueType.{ValueType}
use Rattle.som_model.specs.declared.key.ValueType.TheVariants as types
use Rattle.som_model.specs.Same.{same_type}
use Rattle.som_model.specs.Kernel.{som_object, som_class, an_object}
use Rattle.som_semantics.specs.World.{World}
use Rattle.som_semantics.specs.State.{Value, Long, Boolean, Str, Nil, To, Ref, Object, ClassObject, Manager, Heap, Instance, class_of}
use Rattle.som_model.specs.Typing.{ExprType, Of, PlainNil, Typed, gives, needs, descends_to, fits, all_fit, is_nothing, is_class, unary_type, binary_type}
use Rattle.som_model.specs.Typing as typing
use Rattle.som_model.proofs.KeyLaws.{both, exact_keys}
use Rattle.som_type_soundness.specs.Values.{is_there, has_type, have_types, has_text}
use Rattle.som_type_soundness.specs.Heaps.{AreTyped}
use Rattle.som_type_soundness.specs.Preserving.{IsOf}
use Rattle.som_type_soundness.proofs.Heaps.{both_true, some_is}
use Rattle.som_type_soundness.proofs.Facts.{IsSound, facts_of}

-- types that are one
pub one_type : (s t : ValueType) → same_type s t ≡ true → s ≡ t
one_type types.Void types.Void e = refl
one_type types.Long types.Long e = refl
one_type types.Boolean types.Boolean e = refl
one_type types.Str types.Str e = refl
one_type (types.Class a) (types.Class b) e = ap types.Class (exact_keys.two a b e)
one_type types.Void types.Long e = absurd (true≢false (sym e))
one_type types.Void types.Boolean e = absurd (true≢false (sym e))
one_type types.Void types.Str e = absurd (true≢false (sym e))
one_type types.Void (types.Class b) e = absurd (true≢false (sym e))
one_type types.Long types.Void e = absurd (true≢false (sym e))
one_type types.Long types.Boolean e = absurd (true≢false (sym e))
one_type types.Long types.Str e = absurd (true≢false (sym e))
one_type types.Long (types.Class b) e = absurd (true≢false (sym e))
one_type types.Boolean types.Void e = absurd (true≢false (sym e))
one_type types.Boolean types.Long e = absurd (true≢false (sym e))
one_type types.Boolean types.Str e = absurd (true≢false (sym e))
one_type types.Boolean (types.Class b) e = absurd (true≢false (sym e))
one_type types.Str types.Void e = absurd (true≢false (sym e))
one_type types.Str types.Long e = absurd (true≢false (sym e))
one_type types.Str types.Boolean e = absurd (true≢false (sym e))
one_type types.Str (types.Class b) e = absurd (true≢false (sym e))
one_type (types.Class a) types.Void e = absurd (true≢false (sym e))
one_type (types.Class a) types.Long e = absurd (true≢false (sym e))
one_type (types.Class a) types.Boolean e = absurd (true≢false (sym e))
one_type (types.Class a) types.Str e = absurd (true≢false (sym e))

-- ---- lists of values

module _ (w : World) (h : Heap) where
  pub value_at : (ts : List ValueType) (vs : List Value) (n : ℕ) (t : ValueType) → have_types w h ts vs ≡ true → slice_get ts n ≡ Some t → (v : Value) × (slice_get vs n ≡ Some v) × (has_type w h t v ≡ true)
  value_at [] [] n t e f = absurd (let z = f in cc)
  value_at (s ∷ ts) (v ∷ vs) zero t e f =
      let p = both (has_type w h s v) (have_types w h ts vs) e in
      let same : s ≡ t = cc in
      (v, refl, subst (λ z. has_type w h z v ≡ true) same p.0)
  value_at (s ∷ ts) (v ∷ vs) (suc n) t e f = let p = both (has_type w h s v) (have_types w h ts vs) e in value_at ts vs n t p.1 f
  value_at [] (v ∷ vs) n t e f = absurd (true≢false (sym e))
  value_at (s ∷ ts) [] n t e f = absurd (true≢false (sym e))

  pub one_more : (ts : List ValueType) (vs : List Value) (t : ValueType) (v : Value) → have_types w h ts vs ≡ true → has_type w h t v ≡ true → have_types w h (ts ++ t ∷ []) (vs ++ v ∷ []) ≡ true
  one_more [] [] t v e f = both_true (has_type w h t v) true f refl
  one_more (s ∷ ts) (u ∷ vs) t v e f =
      let p = both (has_type w h s u) (have_types w h ts vs) e in
      both_true (has_type w h s u) (have_types w h (ts ++ t ∷ []) (vs ++ v ∷ [])) p.0 (one_more ts vs t v p.1 f)
  one_more [] (u ∷ vs) t v e f = absurd (true≢false (sym e))
  one_more (s ∷ ts) [] t v e f = absurd (true≢false (sym e))

  pub one_set : (ts : List ValueType) (vs : List Value) (n : ℕ) (t : ValueType) (v : Value) → have_types w h ts vs ≡ true → slice_get ts n ≡ Some t → has_type w h t v ≡ true → have_types w h ts (slice_set vs n v) ≡ true
  one_set [] [] n t v e f g = absurd (let z = f in cc)
  one_set (s ∷ ts) (u ∷ vs) zero t v e f g =
      let p = both (has_type w h s u) (have_types w h ts vs) e in
      let same : s ≡ t = cc in
      both_true (has_type w h s v) (have_types w h ts vs) (subst (λ z. has_type w h z v ≡ true) (sym same) g) p.1
  one_set (s ∷ ts) (u ∷ vs) (suc n) t v e f g =
      let p = both (has_type w h s u) (have_types w h ts vs) e in
      both_true (has_type w h s u) (have_types w h ts (slice_set vs n v)) p.0 (one_set ts vs n t v p.1 f g)
  one_set [] (u ∷ vs) n t v e f g = absurd (true≢false (sym e))
  one_set (s ∷ ts) [] n t v e f g = absurd (true≢false (sym e))

  -- the first values of more types are those of fewer
  pub first_ones : (ts more : List ValueType) (vs us : List Value) → have_types w h (ts ++ more) vs ≡ true → length us ≡ length ts → have_types w h ts (take (length us) vs) ≡ true
  first_ones [] more vs [] e n = refl
  first_ones (t ∷ ts) more (v ∷ vs) (u ∷ us) e n =
      let p = both (has_type w h t v) (have_types w h (ts ++ more) vs) e in
      both_true (has_type w h t v) (have_types w h ts (take (length us) vs)) p.0 (first_ones ts more vs us p.1 (omega (arith, n)))
  first_ones [] more vs (u ∷ us) e n = absurd (omega (arith, n))
  first_ones (t ∷ ts) more vs [] e n = absurd (omega (arith, n))
  first_ones (t ∷ ts) more [] (u ∷ us) e n = absurd (true≢false (sym e))

  pub as_many : (ts : List ValueType) (vs : List Value) → have_types w h ts vs ≡ true → length vs ≡ length ts
  as_many [] [] e = refl
  as_many (t ∷ ts) (v ∷ vs) e = ap suc (as_many ts vs (both (has_type w h t v) (have_types w h ts vs) e).1)
  as_many [] (v ∷ vs) e = absurd (true≢false (sym e))
  as_many (t ∷ ts) [] e = absurd (true≢false (sym e))

-- values of the types of expressions, one by one
abbrev pub AreOf : World → List ExprType → List Value → Heap → Type 0
AreOf w [] [] h = Unit {0}
AreOf w (t ∷ ts) (v ∷ vs) h = IsOf w t v h × AreOf w ts vs h
AreOf w [] (v ∷ vs) h = ⊥
AreOf w (t ∷ ts) [] h = ⊥

module _ (w : World) (known : ClassKey → Bool) (sound : IsSound w known) where
  -- ---- classes of values

  -- a value of a class is one of each class above it
  pub class_up : (h : Heap) (a b : ClassKey) (v : Value) → w.is_a a b ≡ true → has_type w h (types.Class a) v ≡ true → has_type w h (types.Class b) v ≡ true
  class_up h a b Nil d e = refl
  class_up h a b (To r) d e =
      let p = both (is_there w h r) (w.is_a (class_of w h r) a) e in
      both_true (is_there w h r) (w.is_a (class_of w h r) b) p.0 (sound.through (class_of w h r) a b p.1 d)
  class_up h a b (Long z) d e = absurd (true≢false (sym e))
  class_up h a b (Boolean z) d e = absurd (true≢false (sym e))
  class_up h a b (Str z) d e = absurd (true≢false (sym e))

  -- what is there is an object
  pub there_object : (h : Heap) (r : Ref) → AreTyped w h → is_there w h r ≡ true → w.is_a (class_of w h r) som_object ≡ true
  there_object h (Object i) t e =
      let x = some_is (slice_get h.objects i) e in
      ap (λ (o : Option Instance). w.is_a (elim o [ None ↦ som_object | Some z ↦ z.class ]) som_object) x.1 ∙ t.classes i x.0 x.1
  there_object h (ClassObject k) t e = sound.through (w.meta k) som_class som_object (sound.meta k) sound.metaclass
  there_object h Manager t e = sound.manager

  pub an_object_is : (h : Heap) (r : Ref) → AreTyped w h → is_there w h r ≡ true → has_type w h an_object (To r) ≡ true
  an_object_is h r t e = both_true (is_there w h r) (w.is_a (class_of w h r) som_object) e (there_object h r t e)

  -- a value of any class is an object or nil
  pub object_up : (h : Heap) (a : ClassKey) (v : Value) → AreTyped w h → has_type w h (types.Class a) v ≡ true → has_type w h an_object v ≡ true
  object_up h a Nil t e = refl
  object_up h a (To r) t e = an_object_is h r t (both (is_there w h r) (w.is_a (class_of w h r) a) e).0
  object_up h a (Long z) t e = absurd (true≢false (sym e))
  object_up h a (Boolean z) t e = absurd (true≢false (sym e))
  object_up h a (Str z) t e = absurd (true≢false (sym e))

  pub class_object_is : (h : Heap) (k a : ClassKey) → w.is_a k som_object ≡ true → w.is_a (w.meta k) a ≡ true → has_type w h (types.Class a) (To (ClassObject k)) ≡ true
  class_object_is h k a e d = both_true (w.is_a k som_object) (w.is_a (w.meta k) a) e d

  -- ---- what fits is of the type

  pub fitting : (h : Heap) (kind : ValueType) (t : ExprType) (v : Value) → fits (facts_of w known) kind t ≡ true → IsOf w t v h → has_type w h kind v ≡ true
  fitting h (types.Class k) PlainNil v e i = ap (has_type w h (types.Class k)) i
  fitting h (types.Class k) (Of (types.Class c)) v e i = class_up h c k v e i
  fitting h (types.Class k) (Of types.Void) v e i = absurd (true≢false (sym e))
  fitting h (types.Class k) (Of types.Long) v e i = absurd (true≢false (sym e))
  fitting h (types.Class k) (Of types.Boolean) v e i = absurd (true≢false (sym e))
  fitting h (types.Class k) (Of types.Str) v e i = absurd (true≢false (sym e))
  fitting h types.Void (Of t) v e i = subst (λ z. has_type w h z v ≡ true) (one_type t types.Void e) i
  fitting h types.Long (Of t) v e i = subst (λ z. has_type w h z v ≡ true) (one_type t types.Long e) i
  fitting h types.Boolean (Of t) v e i = subst (λ z. has_type w h z v ≡ true) (one_type t types.Boolean e) i
  fitting h types.Str (Of t) v e i = subst (λ z. has_type w h z v ≡ true) (one_type t types.Str e) i
  fitting h types.Void PlainNil v e i = absurd (true≢false (sym e))
  fitting h types.Long PlainNil v e i = absurd (true≢false (sym e))
  fitting h types.Boolean PlainNil v e i = absurd (true≢false (sym e))
  fitting h types.Str PlainNil v e i = absurd (true≢false (sym e))

  pub all_fitting : (h : Heap) (kinds : List ValueType) (ts : List ExprType) (vs : List Value) → all_fit (facts_of w known) kinds ts ≡ true → AreOf w ts vs h → have_types w h kinds vs ≡ true
  all_fitting h [] [] [] e i = refl
  all_fitting h (k ∷ kinds) (t ∷ ts) (v ∷ vs) e i =
      let p = both (fits (facts_of w known) k t) (all_fit (facts_of w known) kinds ts) e in
      both_true (has_type w h k v) (have_types w h kinds vs) (fitting h k t v p.0 i.0) (all_fitting h kinds ts vs p.1 i.1)
  all_fitting h [] (t ∷ ts) vs e i = absurd (true≢false (sym e))
  all_fitting h (k ∷ kinds) [] vs e i = absurd (true≢false (sym e))
  all_fitting h [] [] (v ∷ vs) e i = absurd i
  all_fitting h (k ∷ kinds) (t ∷ ts) [] e i = absurd i

  -- a receiver of a call by offset
  pub descending : (h : Heap) (k : ClassKey) (t : ExprType) (v : Value) → descends_to (facts_of w known) k t ≡ true → IsOf w t v h → has_type w h (types.Class k) v ≡ true
  descending h k (Of (types.Class c)) v e i = class_up h c k v e i
  descending h k (Of types.Void) v e i = absurd (true≢false (sym e))
  descending h k (Of types.Long) v e i = absurd (true≢false (sym e))
  descending h k (Of types.Boolean) v e i = absurd (true≢false (sym e))
  descending h k (Of types.Str) v e i = absurd (true≢false (sym e))
  descending h k PlainNil v e i = absurd (true≢false (sym e))

  -- a receiver of a call by name
  pub receiving : (h : Heap) (t : ExprType) (v : Value) → AreTyped w h → is_class t ≡ true → IsOf w t v h → has_type w h an_object v ≡ true
  receiving h (Of (types.Class c)) v t e i = object_up h c v t i
  receiving h (Of types.Void) v t e i = absurd (true≢false (sym e))
  receiving h (Of types.Long) v t e i = absurd (true≢false (sym e))
  receiving h (Of types.Boolean) v t e i = absurd (true≢false (sym e))
  receiving h (Of types.Str) v t e i = absurd (true≢false (sym e))
  receiving h PlainNil v t e i = absurd (true≢false (sym e))

  pub referring : (h : Heap) (t : ExprType) (v : Value) → AreTyped w h → typing.is_reference t ≡ true → IsOf w t v h → has_type w h an_object v ≡ true
  referring h (Of (types.Class c)) v t e i = object_up h c v t i
  referring h PlainNil v t e i = ap (has_type w h an_object) i
  referring h (Of types.Void) v t e i = absurd (true≢false (sym e))
  referring h (Of types.Long) v t e i = absurd (true≢false (sym e))
  referring h (Of types.Boolean) v t e i = absurd (true≢false (sym e))
  referring h (Of types.Str) v t e i = absurd (true≢false (sym e))

  -- ---- kinds

  pub long_value : (h : Heap) (v : Value) → has_type w h types.Long v ≡ true → (z : _) × (v ≡ Long z)
  long_value h (Long z) e = (z, refl)
  long_value h (Boolean z) e = absurd (true≢false (sym e))
  long_value h (Str z) e = absurd (true≢false (sym e))
  long_value h Nil e = absurd (true≢false (sym e))
  long_value h (To r) e = absurd (true≢false (sym e))

  pub boolean_value : (h : Heap) (v : Value) → has_type w h types.Boolean v ≡ true → (b : Bool) × (v ≡ Boolean b)
  boolean_value h (Boolean b) e = (b, refl)
  boolean_value h (Long z) e = absurd (true≢false (sym e))
  boolean_value h (Str z) e = absurd (true≢false (sym e))
  boolean_value h Nil e = absurd (true≢false (sym e))
  boolean_value h (To r) e = absurd (true≢false (sym e))

  pub text_value : (h : Heap) (v : Value) → has_type w h types.Str v ≡ true → (t : List ℕ) × (v ≡ Str t)
  text_value h (Str t) e = (t, refl)
  text_value h (Long z) e = absurd (true≢false (sym e))
  text_value h (Boolean z) e = absurd (true≢false (sym e))
  text_value h Nil e = absurd (true≢false (sym e))
  text_value h (To r) e = absurd (true≢false (sym e))

  pub nothing_value : (h : Heap) (v : Value) → has_type w h types.Void v ≡ true → v ≡ Nil
  nothing_value h Nil e = refl
  nothing_value h (Str t) e = absurd (true≢false (sym e))
  nothing_value h (Long z) e = absurd (true≢false (sym e))
  nothing_value h (Boolean z) e = absurd (true≢false (sym e))
  nothing_value h (To r) e = absurd (true≢false (sym e))

  pub of_long : (h : Heap) (t : ExprType) (v : Value) → typing.is_long t ≡ true → IsOf w t v h → (z : _) × (v ≡ Long z)
  of_long h (Of types.Long) v e i = long_value h v i
  of_long h (Of types.Void) v e i = absurd (true≢false (sym e))
  of_long h (Of types.Boolean) v e i = absurd (true≢false (sym e))
  of_long h (Of types.Str) v e i = absurd (true≢false (sym e))
  of_long h (Of (types.Class c)) v e i = absurd (true≢false (sym e))
  of_long h PlainNil v e i = absurd (true≢false (sym e))

  pub of_boolean : (h : Heap) (t : ExprType) (v : Value) → typing.is_boolean t ≡ true → IsOf w t v h → (b : Bool) × (v ≡ Boolean b)
  of_boolean h (Of types.Boolean) v e i = boolean_value h v i
  of_boolean h (Of types.Void) v e i = absurd (true≢false (sym e))
  of_boolean h (Of types.Long) v e i = absurd (true≢false (sym e))
  of_boolean h (Of types.Str) v e i = absurd (true≢false (sym e))
  of_boolean h (Of (types.Class c)) v e i = absurd (true≢false (sym e))
  of_boolean h PlainNil v e i = absurd (true≢false (sym e))

  pub of_text : (h : Heap) (t : ExprType) (v : Value) → typing.is_string t ≡ true → IsOf w t v h → (x : List ℕ) × (v ≡ Str x)
  of_text h (Of types.Str) v e i = text_value h v i
  of_text h (Of types.Void) v e i = absurd (true≢false (sym e))
  of_text h (Of types.Long) v e i = absurd (true≢false (sym e))
  of_text h (Of types.Boolean) v e i = absurd (true≢false (sym e))
  of_text h (Of (types.Class c)) v e i = absurd (true≢false (sym e))
  of_text h PlainNil v e i = absurd (true≢false (sym e))

  pub of_printed : (h : Heap) (t : ExprType) (v : Value) → typing.has_text t ≡ true → IsOf w t v h → has_text v ≡ true
  of_printed h (Of types.Long) v e i = ap has_text (long_value h v i).1
  of_printed h (Of types.Boolean) v e i = ap has_text (boolean_value h v i).1
  of_printed h (Of types.Str) v e i = ap has_text (text_value h v i).1
  of_printed h (Of types.Void) v e i = absurd (true≢false (sym e))
  of_printed h (Of (types.Class c)) v e i = absurd (true≢false (sym e))
  of_printed h PlainNil v e i = absurd (true≢false (sym e))
