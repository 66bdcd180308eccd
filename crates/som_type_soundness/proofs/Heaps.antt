-- What is typed stays typed: in later heaps, and where an object is made, written or freed.
use Rattle.std.proofs.Common.{◌≡◌, ◌==◌, ℕ, zero, suc, ◌⊎◌, inl, inr, arith, Bool, true, false, ◌&&◌, if◌then◌else◌, List, [], ◌∷◌, ◌++◌, length, Option, Some, None, slice_get, refl, sym, ap, ◌∙◌, subst, true≢false}
use Rattle.std.specs.Prelude.{is_some}
use Rattle.std.proofs.lemmas.Option.{none-some, same_Some}
use Rattle.som_model.specs.declared.key.ClassKey.{ClassKey}
use Rattle.som_model.specs.declared.key.ClassKey.TheVariants as keys
use Rattle.som_model.specs.declared.key.ValueType.{ValueType}
use Rattle.som_model.specs.declared.key.ValueType.TheVariants as types
use Rattle.som_model.specs.Keys.{same_key}
use Rattle.som_model.specs.Kernel.{som_object}
use Rattle.som_semantics.specs.World.{World}
use Rattle.som_semantics.specs.State.{Value, Long, Boolean, Str, Nil, To, Ref, Object, ClassObject, Manager, Heap, Instance, Variables, class_of, changed, with_variable, no_longer_live, write, freed, put, zero_of, zeros}
use Rattle.som_semantics.specs.Runs.{IsLater, Stays}
use Rattle.som_semantics.specs.Acts.{write_stays, freed_stays, one_more_stays, new_instance, with_one}
use Rattle.som_model.proofs.KeyLaws.{both, exact_keys}
use Rattle.som_type_soundness.specs.Values.{is_there, has_type, have_types}
use Rattle.som_type_soundness.specs.Heaps.{AreTyped}

pub both_true : (a b : Bool) → a ≡ true → b ≡ true → (a && b) ≡ true
both_true a b p q = ap (λ z. z && b) p ∙ q

-- a list with one member changed
changed_is : (f : Instance → Instance) (ts : List Instance) (j i : ℕ) (u : Instance) → slice_get (changed f ts j) i ≡ Some u → (t : Instance) × (slice_get ts i ≡ Some t) × ((u ≡ t) ⊎ ((u ≡ f t) × (i ≡ j)))
changed_is f [] j i u e = absurd (none-some u e)
changed_is f (x ∷ xs) zero zero u e = (x, refl, inr (sym (same_Some (f x) u e), refl))
changed_is f (x ∷ xs) zero (suc i) u e = (u, e, inl refl)
changed_is f (x ∷ xs) (suc j) zero u e = (x, refl, inl (sym (same_Some x u e)))
changed_is f (x ∷ xs) (suc j) (suc i) u e =
    let r = changed_is f xs j i u e in
    (r.0, r.1, elim r.2 [ inl same ↦ inl same | inr p ↦ inr (p.0, ap suc p.1) ])

more_is : (ts : List Instance) (x : Instance) (i : ℕ) (u : Instance) → slice_get (ts ++ x ∷ []) i ≡ Some u → (slice_get ts i ≡ Some u) ⊎ (u ≡ x)
more_is [] x zero u e = inr (sym (same_Some x u e))
more_is [] x (suc i) u e = absurd (none-some u e)
more_is (y ∷ ys) x zero u e = inl e
more_is (y ∷ ys) x (suc i) u e = more_is ys x i u e

pub last_is : (ts : List Instance) (x : Instance) → slice_get (ts ++ x ∷ []) (length ts) ≡ Some x
last_is [] x = refl
last_is (y ∷ ys) x = last_is ys x

pub some_is : {A : Type 0} (o : Option A) → is_some o ≡ true → (a : A) × (o ≡ Some a)
some_is None e = absurd (true≢false (sym e))
some_is (Some a) e = (a, refl)

module _ (w : World) where
  -- ---- later heaps

  there_at : (h : Heap) (i : ℕ) → is_there w h (Object i) ≡ true → (t : Instance) × (slice_get h.objects i ≡ Some t)
  there_at h i e = some_is (slice_get h.objects i) e

  class_at : (h : Heap) (i : ℕ) (t : Instance) → slice_get h.objects i ≡ Some t → class_of w h (Object i) ≡ t.class
  class_at h i t e = ap (λ (o : Option Instance). elim o [ None ↦ som_object | Some x ↦ x.class ]) e

  module _ (h g : Heap) (le : IsLater h g) where
    pub there_later : (r : Ref) → is_there w h r ≡ true → is_there w g r ≡ true
    there_later (Object i) e = let t = there_at h i e in let u = le.by i t.0 t.1 in ap is_some u.1
    there_later (ClassObject k) e = e
    there_later Manager e = e

    -- what was there keeps its class
    pub class_later : (r : Ref) → is_there w h r ≡ true → class_of w g r ≡ class_of w h r
    class_later (Object i) e =
        let t = there_at h i e in
        let u = le.by i t.0 t.1 in
        class_at g i u.0 u.1 ∙ u.2.class ∙ sym (class_at h i t.0 t.1)
    class_later (ClassObject k) e = refl
    class_later Manager e = refl

    -- and a value its type
    pub type_later : (t : ValueType) (v : Value) → has_type w h t v ≡ true → has_type w g t v ≡ true
    type_later types.Void Nil e = e
    type_later types.Long (Long z) e = e
    type_later types.Boolean (Boolean b) e = e
    type_later types.Str (Str t) e = e
    type_later (types.Class c) Nil e = e
    type_later (types.Class c) (To r) e =
        let p = both (is_there w h r) (w.is_a (class_of w h r) c) e in
        both_true (is_there w g r) (w.is_a (class_of w g r) c) (there_later r p.0) (ap (λ z. w.is_a z c) (class_later r p.0) ∙ p.1)
    type_later types.Void (Long z) e = e
    type_later types.Void (Boolean b) e = e
    type_later types.Void (Str t) e = e
    type_later types.Void (To r) e = absurd (true≢false (sym e))
    type_later types.Long (Boolean b) e = e
    type_later types.Long (Str t) e = e
    type_later types.Long Nil e = e
    type_later types.Long (To r) e = absurd (true≢false (sym e))
    type_later types.Boolean (Long z) e = e
    type_later types.Boolean (Str t) e = e
    type_later types.Boolean Nil e = e
    type_later types.Boolean (To r) e = absurd (true≢false (sym e))
    type_later types.Str (Long z) e = e
    type_later types.Str (Boolean b) e = e
    type_later types.Str Nil e = e
    type_later types.Str (To r) e = absurd (true≢false (sym e))
    type_later (types.Class c) (Long z) e = e
    type_later (types.Class c) (Boolean b) e = e
    type_later (types.Class c) (Str t) e = e

    pub types_later : (ts : List ValueType) (vs : List Value) → have_types w h ts vs ≡ true → have_types w g ts vs ≡ true
    types_later [] [] e = e
    types_later (t ∷ ts) (v ∷ vs) e =
        let p = both (has_type w h t v) (have_types w h ts vs) e in
        both_true (has_type w g t v) (have_types w g ts vs) (type_later t v p.0) (types_later ts vs p.1)
    types_later [] (v ∷ vs) e = absurd (true≢false (sym e))
    types_later (t ∷ ts) [] e = absurd (true≢false (sym e))

  -- ---- objects that change

  -- a zero value is of its type
  pub zero_typed : (h : Heap) (t : ValueType) → has_type w h t (zero_of t) ≡ true
  zero_typed h types.Void = refl
  zero_typed h types.Long = refl
  zero_typed h types.Boolean = refl
  zero_typed h types.Str = refl
  zero_typed h (types.Class k) = refl

  put_by : (h : Heap) (c k : ClassKey) (n m : ℕ) (v old : Value) (a b : Bool) → same_key c k ≡ a → (m == n) ≡ b → has_type w h (w.variable k n) v ≡ true → has_type w h (w.variable c m) old ≡ true
      → has_type w h (w.variable c m) (if a && b then v else old) ≡ true
  put_by h c k n m v old true true p q e f = subst (λ z. has_type w h (w.variable z m) v ≡ true) (sym (exact_keys.two c k p)) (subst (λ z. has_type w h (w.variable k z) v ≡ true) (sym (number m n q)) e)
    where
      number : (m n : ℕ) → (m == n) ≡ true → m ≡ n
      number m n q = grind (arith, q)
  put_by h c k n m v old true false p q e f = f
  put_by h c k n m v old false true p q e f = f
  put_by h c k n m v old false false p q e f = f

  put_typed : (h : Heap) (k : ClassKey) (n : ℕ) (v : Value) (vars : Variables) → has_type w h (w.variable k n) v ≡ true
      → (c : ClassKey) (m : ℕ) → has_type w h (w.variable c m) (vars c m) ≡ true → has_type w h (w.variable c m) (put k n v vars c m) ≡ true
  put_typed h k n v vars e c m f = put_by h c k n m v (vars c m) (same_key c k) (m == n) refl refl e f

  -- a change of one object that keeps its class and target, and gives it typed variables
  module _ (h g : Heap) (typed : AreTyped w h) (le : IsLater h g) where
    one_changed : (f : Instance → Instance) (j : ℕ) → g.objects ≡ changed f h.objects j → ((t : Instance) → Stays t (f t))
        → ((t : Instance) (k : ClassKey) (n : ℕ) → has_type w h (w.variable k n) (t.variables k n) ≡ true → has_type w h (w.variable k n) ((f t).variables k n) ≡ true)
        → ((c k : ClassKey) (n : ℕ) → has_type w h (w.variable k n) (g.statics c k n) ≡ true) → AreTyped w g
    one_changed f j is stays fits statics = record {
      classes = λ i u e. (let r = at i u e in elim r.2 [
        | inl same ↦ ap (λ (z : Instance). w.is_a z.class som_object) same ∙ typed.classes i r.0 r.1
        | inr p ↦ ap (λ (z : Instance). w.is_a z.class som_object) p.0 ∙ ap (λ z. w.is_a z som_object) (stays r.0).class ∙ typed.classes i r.0 r.1
      ]);
      variables = λ i u k n e. type_later h g le (w.variable k n) (u.variables k n) (let r = at i u e in elim r.2 [
        | inl same ↦ ap (λ (z : Instance). has_type w h (w.variable k n) (z.variables k n)) same ∙ typed.variables i r.0 k n r.1
        | inr p ↦ ap (λ (z : Instance). has_type w h (w.variable k n) (z.variables k n)) p.0 ∙ fits r.0 k n (typed.variables i r.0 k n r.1)
      ]);
      statics = λ c k n. type_later h g le (w.variable k n) (g.statics c k n) (statics c k n);
      targets = λ i u k e a. type_later h g le (types.Class k) u.target (let r = at i u e in elim r.2 [
        | inl same ↦ ap (λ (z : Instance). has_type w h (types.Class k) z.target) same ∙ typed.targets i r.0 k r.1 (ap (λ (z : Instance). w.is_a z.class (keys.Proxy k)) (sym same) ∙ a)
        | inr p ↦ ap (λ (z : Instance). has_type w h (types.Class k) z.target) p.0 ∙ ap (has_type w h (types.Class k)) (stays r.0).target
            ∙ typed.targets i r.0 k r.1 (ap (λ z. w.is_a z (keys.Proxy k)) (sym (stays r.0).class) ∙ ap (λ (z : Instance). w.is_a z.class (keys.Proxy k)) (sym p.0) ∙ a)
      ]);
    }
      where
        at : (i : ℕ) (u : Instance) → slice_get g.objects i ≡ Some u → (t : Instance) × (slice_get h.objects i ≡ Some t) × ((u ≡ t) ⊎ ((u ≡ f t) × (i ≡ j)))
        at i u e = changed_is f h.objects j i u (ap (λ (z : List Instance). slice_get z i) (sym is) ∙ e)

  statics_by : (h : Heap) (d c k m : ClassKey) (i n : ℕ) (v : Value) (b : Bool) → has_type w h (w.variable k n) v ≡ true → has_type w h (w.variable m i) (h.statics d m i) ≡ true
      → has_type w h (w.variable m i) ((if b then put k n v (h.statics d) else h.statics d) m i) ≡ true
  statics_by h d c k m i n v true e f = put_typed h k n v (h.statics d) e m i f
  statics_by h d c k m i n v false e f = f

  pub write_typed : (r : Ref) (k : ClassKey) (n : ℕ) (v : Value) (h : Heap) → AreTyped w h → has_type w h (w.variable k n) v ≡ true → AreTyped w (write r k n v h)
  write_typed (Object j) k n v h t e =
      one_changed h (write (Object j) k n v h) t (write_stays (Object j) k n v h) (with_variable k n v) j refl (λ x. record { class = refl; target = refl; freed = λ d. d })
      (λ x c m f. put_typed h k n v x.variables e c m f) (λ c d m. t.statics c d m)
  write_typed (ClassObject c) k n v h t e = record {
    classes = t.classes;
    variables = λ i u d m f. type_later h (write (ClassObject c) k n v h) (write_stays (ClassObject c) k n v h) (w.variable d m) (u.variables d m) (t.variables i u d m f);
    statics = λ d m i. type_later h (write (ClassObject c) k n v h) (write_stays (ClassObject c) k n v h) (w.variable m i) ((write (ClassObject c) k n v h).statics d m i) (statics_by h d c k m i n v (same_key d c) e (t.statics d m i));
    targets = λ i u d f a. type_later h (write (ClassObject c) k n v h) (write_stays (ClassObject c) k n v h) (types.Class d) u.target (t.targets i u d f a);
  }
  write_typed Manager k n v h t e = t

  pub freed_typed : (r : Ref) (h : Heap) → AreTyped w h → AreTyped w (freed r h)
  freed_typed (Object j) h t =
      one_changed h (freed (Object j) h) t (freed_stays (Object j) h) no_longer_live j refl (λ x. record { class = refl; target = refl; freed = λ d. refl }) (λ x k n e. e) (λ c k n. t.statics c k n)
  freed_typed (ClassObject k) h t = t
  freed_typed Manager h t = t

  -- one object more, of a class, whose target is of the classes that it is a proxy of
  pub made_typed : (k : ClassKey) (target : Value) (h : Heap) → AreTyped w h → w.is_a k som_object ≡ true
      → ((c : ClassKey) → w.is_a k (keys.Proxy c) ≡ true → has_type w h (types.Class c) target ≡ true) → AreTyped w (with_one w k target h)
  made_typed k target h t class fits = record {
    classes = λ i u e. elim (more_is h.objects (new_instance w k target) i u e) [
      | inl f ↦ t.classes i u f
      | inr same ↦ ap (λ (z : Instance). w.is_a z.class som_object) same ∙ class
    ];
    variables = λ i u d n e. up (w.variable d n) (u.variables d n) (elim (more_is h.objects (new_instance w k target) i u e) [
      | inl f ↦ t.variables i u d n f
      | inr same ↦ ap (λ (z : Instance). has_type w h (w.variable d n) (z.variables d n)) same ∙ zero_typed h (w.variable d n)
    ]);
    statics = λ c d n. up (w.variable d n) (h.statics c d n) (t.statics c d n);
    targets = λ i u d e a. up (types.Class d) u.target (elim (more_is h.objects (new_instance w k target) i u e) [
      | inl f ↦ t.targets i u d f a
      | inr same ↦ ap (λ (z : Instance). has_type w h (types.Class d) z.target) same ∙ fits d (ap (λ (z : Instance). w.is_a z.class (keys.Proxy d)) (sym same) ∙ a)
    ]);
  }
    where
      up : (ty : ValueType) (v : Value) → has_type w h ty v ≡ true → has_type w (with_one w k target h) ty v ≡ true
      up ty v e = type_later h (with_one w k target h) (one_more_stays w k target h) ty v e

  -- nothing yet is typed
  pub nothing_typed : AreTyped w (record { objects = []; statics = λ k. zeros w })
  nothing_typed = record {
    classes = λ i t e. absurd (none-some t e);
    variables = λ i t k n e. absurd (none-some t e);
    statics = λ c k n. zero_typed (record { objects = []; statics = λ x. zeros w }) (w.variable k n);
    targets = λ i t k e a. absurd (none-some t e);
  }
