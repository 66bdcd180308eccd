-- Calls keep the objects well typed and answer values of the types of their results, where what becomes of them does.
use Rattle.std.proofs.Common.{◌≡◌, ℕ, inl, inr, Bool, true, false, ◌&&◌, if◌then◌else◌, List, [], ◌∷◌, ◌++◌, length, Option, Some, None, slice_get, Ok, Err, refl, sym, ap, ◌∙◌, subst, true≢false}
use Rattle.std.specs.Prelude.{is_some}
use Rattle.som_model.specs.declared.key.ClassKey.{ClassKey}
use Rattle.som_model.specs.declared.key.ClassKey.TheVariants as keys
use Rattle.som_model.specs.declared.key.MethodRef.{MethodRef}
use Rattle.som_model.specs.declared.key.ValueType.{ValueType}
use Rattle.som_model.specs.declared.key.ValueType.TheVariants as types
use Rattle.som_model.specs.declared.class.Sig.{Sig}
use Rattle.som_model.specs.declared.program.Fault.{Fault}
use Rattle.som_model.specs.declared.program.Fault.TheVariants as faults
use Rattle.som_model.specs.Lists.{Mem}
use Rattle.som_model.specs.Kernel.{som_object, som_class, som_new, som_dispatch_name, an_object}
use Rattle.som_semantics.specs.World.{World}
use Rattle.som_semantics.specs.State.{Value, Long, Boolean, Str, Nil, To, Ref, Object, ClassObject, Heap, Instance, Place, Manner, Offset, Dispatch, Used, Tried, class_of, is_live, receiver}
use Rattle.som_semantics.specs.Runs.{Act, IsLater}
use Rattle.som_semantics.specs.Acts.{◌>>=◌, ◌>>◌, pure, tried, asked, emit, take_unit, make, with_one, new_instance, later_on}
use Rattle.som_semantics.specs.Values.{cast, isa, fits, all_fit, serves, sig_fits, text_of}
use Rattle.som_semantics.specs.Calls.{Calls, Request, Here, found, offset_call, named_call, dispatch_call, parent_call, parents_calls}
use Rattle.som_semantics.specs.Expressions.{new_on, proxy_on, class_object}
use Rattle.som_model.specs.Typing.{ExprType, Of, PlainNil}
use Rattle.som_model.proofs.KeyLaws.{both}
use Rattle.som_type_soundness.specs.Values.{is_there, has_type, have_types}
use Rattle.som_type_soundness.specs.Preserving.{IsOf}
use Rattle.som_type_soundness.proofs.Keeping.{Answers, Any, Keeps, bind_keeps, pure_keeps, tried_keeps, asked_keeps, emit_keeps, unit_keeps, weaker_keeps}
use Rattle.som_type_soundness.proofs.Heaps.{both_true, last_is, made_typed, there_later, type_later, types_later}
use Rattle.som_type_soundness.proofs.Facts.{IsSound, IsMethod}
use Rattle.som_type_soundness.proofs.Values.{AreOf, class_object_is, class_up}
use Rattle.som_type_soundness.proofs.Operators.{answers_if}

-- a value of a type
abbrev pub Has : World → ValueType → Value → Heap → Type 0
Has w t v h = has_type w h t v ≡ true

-- a parent call is of a class above self's, and below the method's
abbrev pub AtParent : World → Heap → Ref → MethodRef → Option ClassKey → Type 0
AtParent w h self r None = Unit {0}
AtParent w h self r (Some p) = (has_type w h (types.Class p) (To self) ≡ true) × (w.is_a p r.class ≡ true)

-- what becomes of calls answers a value of the result's type, where self has the method and the arguments are as the signature says
abbrev pub CallsKeep : World → Calls → Calls → Type 0
CallsKeep w call checked = (h : Heap) (q : Request) (s : Sig) → w.sig q.method ≡ Some s → has_type w h (types.Class q.method.class) (To q.self) ≡ true → have_types w h s.params q.args ≡ true
    → AtParent w h q.self q.method q.parent → Keeps w h (call q) (checked q) (Has w s.result)

-- what is answered where a test holds
pub answers_where : {A : Type 0} (b : Bool) (a : A) (f : Fault) (P : A → Type 0) → (b ≡ true → P a) → Answers (if b then Ok a else Err f) P
answers_where true a f P p = p refl
answers_where false a f P p = tt

-- self as it is, freed or not
abbrev self_ref : Value → Tried Ref
self_ref (To r) = Ok r
self_ref _ = Err faults.Nil

-- a value that refers to nothing, or to what is there
abbrev pub Exists : World → Value → Heap → Type 0
Exists w (To r) h = is_there w h r ≡ true
Exists w v h = Unit {0}

abbrev pub AllExist : World → List Value → Heap → Type 0
AllExist w [] h = Unit {0}
AllExist w (v ∷ vs) h = Exists w v h × AllExist w vs h

module _ (w : World) where
  pub typed_exists : (h : Heap) (t : ValueType) (v : Value) → has_type w h t v ≡ true → Exists w v h
  typed_exists h (types.Class c) (To r) e = (both (is_there w h r) (w.is_a (class_of w h r) c) e).0
  typed_exists h types.Void (To r) e = absurd (true≢false (sym e))
  typed_exists h types.Long (To r) e = absurd (true≢false (sym e))
  typed_exists h types.Boolean (To r) e = absurd (true≢false (sym e))
  typed_exists h types.Str (To r) e = absurd (true≢false (sym e))
  typed_exists h t (Long z) e = tt
  typed_exists h t (Boolean z) e = tt
  typed_exists h t (Str z) e = tt
  typed_exists h t Nil e = tt

  value_exists : (h : Heap) (t : ExprType) (v : Value) → IsOf w t v h → Exists w v h
  value_exists h (Of t) v i = typed_exists h t v i
  value_exists h PlainNil v i = subst (λ z. Exists w z h) (sym i) tt

  pub values_exist : (h : Heap) (ts : List ExprType) (vs : List Value) → AreOf w ts vs h → AllExist w vs h
  values_exist h [] [] i = tt
  values_exist h (t ∷ ts) (v ∷ vs) i = (value_exists h t v i.0, values_exist h ts vs i.1)
  values_exist h [] (v ∷ vs) i = absurd i
  values_exist h (t ∷ ts) [] i = absurd i

  exists_later : (h g : Heap) (v : Value) → IsLater h g → Exists w v h → Exists w v g
  exists_later h g (To r) le e = there_later w h g le r e
  exists_later h g (Long z) le e = tt
  exists_later h g (Boolean z) le e = tt
  exists_later h g (Str z) le e = tt
  exists_later h g Nil le e = tt

  pub all_later : (h g : Heap) (vs : List Value) → IsLater h g → AllExist w vs h → AllExist w vs g
  all_later h g [] le e = tt
  all_later h g (v ∷ vs) le e = (exists_later h g v le e.0, all_later h g vs le e.1)

  -- what fits a type is of it
  fits_typed : (h : Heap) (t : ValueType) (v : Value) → fits w h t v ≡ true → Exists w v h → has_type w h t v ≡ true
  fits_typed h types.Long (Long z) e x = refl
  fits_typed h types.Boolean (Boolean b) e x = refl
  fits_typed h types.Str (Str s) e x = refl
  fits_typed h (types.Class c) Nil e x = refl
  fits_typed h (types.Class c) (To r) e x = both_true (is_there w h r) (w.is_a (class_of w h r) c) x (both (is_live h r) (w.is_a (class_of w h r) c) e).1
  fits_typed h types.Void v e x = absurd (true≢false (sym e))
  fits_typed h types.Long (Boolean b) e x = absurd (true≢false (sym e))
  fits_typed h types.Long (Str s) e x = absurd (true≢false (sym e))
  fits_typed h types.Long Nil e x = absurd (true≢false (sym e))
  fits_typed h types.Long (To r) e x = absurd (true≢false (sym e))
  fits_typed h types.Boolean (Long z) e x = absurd (true≢false (sym e))
  fits_typed h types.Boolean (Str s) e x = absurd (true≢false (sym e))
  fits_typed h types.Boolean Nil e x = absurd (true≢false (sym e))
  fits_typed h types.Boolean (To r) e x = absurd (true≢false (sym e))
  fits_typed h types.Str (Long z) e x = absurd (true≢false (sym e))
  fits_typed h types.Str (Boolean b) e x = absurd (true≢false (sym e))
  fits_typed h types.Str Nil e x = absurd (true≢false (sym e))
  fits_typed h types.Str (To r) e x = absurd (true≢false (sym e))
  fits_typed h (types.Class c) (Long z) e x = absurd (true≢false (sym e))
  fits_typed h (types.Class c) (Boolean b) e x = absurd (true≢false (sym e))
  fits_typed h (types.Class c) (Str s) e x = absurd (true≢false (sym e))

  all_typed : (h : Heap) (ts : List ValueType) (vs : List Value) → all_fit w h ts vs ≡ true → AllExist w vs h → have_types w h ts vs ≡ true
  all_typed h [] [] e x = refl
  all_typed h (t ∷ ts) (v ∷ vs) e x =
      let p = both (fits w h t v) (all_fit w h ts vs) e in
      both_true (has_type w h t v) (have_types w h ts vs) (fits_typed h t v p.0 x.0) (all_typed h ts vs p.1 x.1)
  all_typed h [] (v ∷ vs) e x = absurd (true≢false (sym e))
  all_typed h (t ∷ ts) [] e x = absurd (true≢false (sym e))

  -- a receiver is of the class that the value is of
  receives : (h : Heap) (k : ClassKey) (on : Value) → has_type w h (types.Class k) on ≡ true → Answers (receiver h on) (λ self. has_type w h (types.Class k) (To self) ≡ true)
  receives h k (To r) e = answers_if (is_live h r) r faults.Freed (λ self. has_type w h (types.Class k) (To self) ≡ true) e
  receives h k Nil e = tt
  receives h k (Long z) e = tt
  receives h k (Boolean z) e = tt
  receives h k (Str z) e = tt

  refers : (h : Heap) (k : ClassKey) (v : Value) → has_type w h (types.Class k) v ≡ true → Answers (self_ref v) (λ self. has_type w h (types.Class k) (To self) ≡ true)
  refers h k (To r) e = e
  refers h k Nil e = tt
  refers h k (Long z) e = tt
  refers h k (Boolean z) e = tt
  refers h k (Str z) e = tt

  pub casts : (h : Heap) (k : ClassKey) (v : Value) → has_type w h an_object v ≡ true → Answers (cast w k h v) (λ u. has_type w h (types.Class k) u ≡ true)
  casts h k (To r) e = by (is_live h r)
    where
      by : (b : Bool) → Answers (if b then (if w.is_a (class_of w h r) k then Ok (To r) else Err faults.Cast) else Err faults.Freed) (λ u. has_type w h (types.Class k) u ≡ true)
      by true = answers_where (w.is_a (class_of w h r) k) (To r) faults.Cast (λ u. has_type w h (types.Class k) u ≡ true)
          (λ f. both_true (is_there w h r) (w.is_a (class_of w h r) k) (both (is_there w h r) (w.is_a (class_of w h r) som_object) e).0 f)
      by false = tt
  casts h k Nil e = refl
  casts h k (Long z) e = absurd (true≢false (sym e))
  casts h k (Boolean z) e = absurd (true≢false (sym e))
  casts h k (Str z) e = absurd (true≢false (sym e))

  pub isas : (h : Heap) (k : ClassKey) (v : Value) → Answers (isa w k h v) (λ u. has_type w h types.Boolean u ≡ true)
  isas h k (To r) = answers_if (is_live h r) (Boolean (w.is_a (class_of w h r) k)) faults.Freed (λ u. has_type w h types.Boolean u ≡ true) refl
  isas h k Nil = refl
  isas h k (Long z) = refl
  isas h k (Boolean z) = refl
  isas h k (Str z) = refl

module _ (w : World) (known : ClassKey → Bool) (sound : IsSound w known) where
  -- a result that serves is of the wanted type
  served : (h : Heap) (s t : ValueType) (v : Value) → serves w s t ≡ true → has_type w h s v ≡ true → has_type w h t v ≡ true
  served h types.Void types.Void v e i = i
  served h types.Long types.Long v e i = i
  served h types.Boolean types.Boolean v e i = i
  served h types.Str types.Str v e i = i
  served h (types.Class a) (types.Class b) v e i = class_up w known sound h a b v e i
  served h types.Void types.Long v e i = absurd (true≢false (sym e))
  served h types.Void types.Boolean v e i = absurd (true≢false (sym e))
  served h types.Void types.Str v e i = absurd (true≢false (sym e))
  served h types.Void (types.Class b) v e i = absurd (true≢false (sym e))
  served h types.Long types.Void v e i = absurd (true≢false (sym e))
  served h types.Long types.Boolean v e i = absurd (true≢false (sym e))
  served h types.Long types.Str v e i = absurd (true≢false (sym e))
  served h types.Long (types.Class b) v e i = absurd (true≢false (sym e))
  served h types.Boolean types.Void v e i = absurd (true≢false (sym e))
  served h types.Boolean types.Long v e i = absurd (true≢false (sym e))
  served h types.Boolean types.Str v e i = absurd (true≢false (sym e))
  served h types.Boolean (types.Class b) v e i = absurd (true≢false (sym e))
  served h types.Str types.Void v e i = absurd (true≢false (sym e))
  served h types.Str types.Long v e i = absurd (true≢false (sym e))
  served h types.Str types.Boolean v e i = absurd (true≢false (sym e))
  served h types.Str (types.Class b) v e i = absurd (true≢false (sym e))
  served h (types.Class a) types.Void v e i = absurd (true≢false (sym e))
  served h (types.Class a) types.Long v e i = absurd (true≢false (sym e))
  served h (types.Class a) types.Boolean v e i = absurd (true≢false (sym e))
  served h (types.Class a) types.Str v e i = absurd (true≢false (sym e))

  -- an object more is of its class
  pub make_keeps : (h : Heap) (k : ClassKey) (target : Value) → w.is_a k som_object ≡ true → ((g : Heap) → IsLater h g → (c : ClassKey) → w.is_a k (keys.Proxy c) ≡ true → has_type w g (types.Class c) target ≡ true)
      → Keeps w h (make w k target) (make w k target) (λ r g. has_type w g (types.Class k) (To r) ≡ true)
  make_keeps h k target class fits = record {
    same = λ s le t. refl;
    left = λ s le t. (
      made_typed w k target s.heap t class (fits s.heap le),
      (let last = last_is s.heap.objects (new_instance w k target) in
          both_true (is_some (slice_get (s.heap.objects ++ new_instance w k target ∷ []) (length s.heap.objects))) (w.is_a (class_of w (with_one w k target s.heap) (Object (length s.heap.objects))) k)
          (ap is_some last)
          (ap (λ (o : Option Instance). w.is_a (elim o [ None ↦ som_object | Some z ↦ z.class ]) k) last ∙ sound.itself k)),
    );
  }

  pub class_keeps : (h : Heap) (k : ClassKey) → w.is_a k som_object ≡ true → Keeps w h (class_object k) (class_object k) (Has w (types.Class (w.meta k)))
  class_keeps h k e = bind_keeps w h (Any w) (Has w (types.Class (w.meta k))) (λ x. pure (To (ClassObject k))) (λ x. pure (To (ClassObject k)))
      (λ x g le ty u. pure_keeps w g (Has w (types.Class (w.meta k))) (To (ClassObject k)) (λ l lf tf. class_object_is w known sound l k (w.meta k) e (sound.itself (w.meta k))))
      (emit (Used k)) (emit (Used k)) (emit_keeps w h (Used k))

  pub proxy_keeps : (h : Heap) (at : Place) (k : ClassKey) (v : Value) → known k ≡ true → has_type w h (types.Class k) v ≡ true → Keeps w h (proxy_on w at k v) (proxy_on w at k v) (Has w (types.Class k))
  proxy_keeps h at k v e i =
      let P = Has w (types.Class k) in
      let last : Ref → Act Value = λ r. emit (Used (keys.Proxy k)) >> pure (To r) in
      let made : Act Value = make w (keys.Proxy k) v >>= last in
      bind_keeps w h (Any w) P (λ x. take_unit >> made) (λ x. take_unit >> made)
      (λ x g le ty u. bind_keeps w g (Any w) P (λ y. made) (λ y. made)
      (λ y g2 le2 ty2 u2. bind_keeps w g2 (λ r l. has_type w l (types.Class (keys.Proxy k)) (To r) ≡ true) P last last
      (λ r g3 le3 ty3 is. bind_keeps w g3 (Any w) P (λ z. pure (To r)) (λ z. pure (To r))
      (λ z g4 le4 ty4 u4. pure_keeps w g4 P (To r) (λ l lf tf. class_up w known sound l (keys.Proxy k) k (To r) (sound.proxy k) (type_later w g3 l (later_on g3 g4 l le4 lf) (types.Class (keys.Proxy k)) (To r) is)))
      (emit (Used (keys.Proxy k))) (emit (Used (keys.Proxy k))) (emit_keeps w g3 (Used (keys.Proxy k))))
      (make w (keys.Proxy k) v) (make w (keys.Proxy k) v)
      (make_keeps g2 (keys.Proxy k) v (sound.through (keys.Proxy k) k som_object (sound.proxy k) (sound.class k e))
      (λ l lf c d. subst (λ z. has_type w l (types.Class z) v ≡ true) (sound.proxied k c e d) (type_later w h l (later_on h g l le (later_on g g2 l le2 lf)) (types.Class k) v i))))
      take_unit take_unit (unit_keeps w g))
      (asked at (λ g. receiver g v)) (asked at (λ g. receiver g v)) (asked_keeps w h (Any w) at (λ g. receiver g v) (λ g le ty. anything (receiver g v)))
    where
      anything : (x : Tried Ref) → Answers x (λ r. Unit {0})
      anything (Ok r) = tt
      anything (Err f) = tt

  module _ (call checked : Calls) (keep : CallsKeep w call checked) where
    pub offset_keeps : (h : Heap) (at : Place) (way : Manner) (r : MethodRef) (on : Value) (args : List Value) (s : Sig) → w.sig (w.owner r) ≡ Some s → has_type w h (types.Class r.class) on ≡ true → have_types w h s.params args ≡ true
        → Keeps w h (offset_call w call at way r on args) (offset_call w checked at way r on args) (Has w s.result)
    offset_keeps h at way r on args s e i a =
        bind_keeps w h (λ self g. has_type w g (types.Class r.class) (To self) ≡ true) (Has w s.result)
        (λ self. call (record { from = at; way = way; self = self; parent = None; method = w.owner r; args = args })) (λ self. checked (record { from = at; way = way; self = self; parent = None; method = w.owner r; args = args }))
        (λ self g le ty f. keep g (record { from = at; way = way; self = self; parent = None; method = w.owner r; args = args }) s e
        (class_up w known sound g r.class (w.owner r).class (To self) (sound.owner r s e) f) (types_later w h g le s.params args a) tt)
        (asked at (λ g. receiver g on)) (asked at (λ g. receiver g on))
        (asked_keeps w h (λ self g. has_type w g (types.Class r.class) (To self) ≡ true) at (λ g. receiver g on) (λ g le ty. receives w g r.class on (type_later w h g le (types.Class r.class) on i)))

    -- a method of the kernel's, called by its own reference
    pub own_keeps : (h : Heap) (at : Place) (way : Manner) (r : MethodRef) (on : Value) (args : List Value) (s : Sig) → IsMethod w r s → has_type w h (types.Class r.class) on ≡ true → have_types w h s.params args ≡ true
        → Keeps w h (offset_call w call at way r on args) (offset_call w checked at way r on args) (Has w s.result)
    own_keeps h at way r on args s m i a = offset_keeps h at way r on args s (ap w.sig m.owner ∙ m.sig) i a

    finds : (h : Heap) (self : Ref) (name : List ℕ) (o : Option MethodRef) → w.byname (class_of w h self) name ≡ o → has_type w h an_object (To self) ≡ true
        → Answers (found o) (λ m. (has_type w h (types.Class m.class) (To self) ≡ true) × ((s : Sig) × (w.sig m ≡ Some s)))
    finds h self name None e i = tt
    finds h self name (Some m) e i =
        let f = sound.byname (class_of w h self) name m e in
        (both_true (is_there w h self) (w.is_a (class_of w h self) m.class) (both (is_there w h self) (w.is_a (class_of w h self) som_object) i).0 f.0, f.1)

    fits_sig : (h : Heap) (o : Option Sig) (s : Sig) (wanted : ValueType) (args : List Value) → o ≡ Some s → AllExist w args h
        → Answers (sig_fits w h o wanted args) (λ x. (have_types w h s.params args ≡ true) × (serves w s.result wanted ≡ true))
    fits_sig h o s wanted args e x = subst (λ z. Answers (sig_fits w h z wanted args) (λ x. (have_types w h s.params args ≡ true) × (serves w s.result wanted ≡ true))) (sym e)
        (answers_where (all_fit w h s.params args && serves w s.result wanted) tt faults.BadArguments (λ x. (have_types w h s.params args ≡ true) × (serves w s.result wanted ≡ true))
        (λ b. let p = both (all_fit w h s.params args) (serves w s.result wanted) b in (all_typed w h s.params args p.0 x, p.1)))

    pub named_keeps : (h : Heap) (at : Place) (way : Manner) (wanted : ValueType) (name : List ℕ) (on : Value) (args : List Value) → has_type w h an_object on ≡ true → AllExist w args h
        → Keeps w h (named_call w call at way wanted name on args) (named_call w checked at way wanted name on args) (Has w wanted)
    named_keeps h at way wanted name on args i x =
        let asks : Calls → Ref → MethodRef → Act Value = λ c self m. c (record { from = at; way = way; self = self; parent = None; method = m; args = args }) in
        let fit : Calls → Ref → MethodRef → Act Value = λ c self m. asked at (λ g. sig_fits w g (w.sig m) wanted args) >>= λ u. asks c self m in
        let find : Calls → Ref → Act Value = λ c self. asked at (λ g. found (w.byname (class_of w g self) name)) >>= fit c self in
        bind_keeps w h (λ self g. has_type w g an_object (To self) ≡ true) (Has w wanted) (find call) (find checked)
        (λ self g le ty f. bind_keeps w g (λ m l. (has_type w l (types.Class m.class) (To self) ≡ true) × ((s : Sig) × (w.sig m ≡ Some s))) (Has w wanted) (fit call self) (fit checked self)
        (λ m g2 le2 ty2 p. bind_keeps w g2 (λ u l. (have_types w l p.1.0.params args ≡ true) × (serves w p.1.0.result wanted ≡ true)) (Has w wanted) (λ u. asks call self m) (λ u. asks checked self m)
        (λ u g3 le3 ty3 q. weaker_keeps w g3 (Has w p.1.0.result) (Has w wanted) (asks call self m) (asks checked self m) (λ v l lf tf has. served l p.1.0.result wanted v q.1 has)
        (keep g3 (record { from = at; way = way; self = self; parent = None; method = m; args = args }) p.1.0 p.1.1 (type_later w g2 g3 le3 (types.Class m.class) (To self) p.0) q.0 tt))
        (asked at (λ l. sig_fits w l (w.sig m) wanted args)) (asked at (λ l. sig_fits w l (w.sig m) wanted args))
        (asked_keeps w g2 (λ u l. (have_types w l p.1.0.params args ≡ true) × (serves w p.1.0.result wanted ≡ true)) at (λ l. sig_fits w l (w.sig m) wanted args)
        (λ l lf tf. fits_sig l (w.sig m) p.1.0 wanted args p.1.1 (all_later w h l args (later_on h g l le (later_on g g2 l le2 lf)) x))))
        (asked at (λ l. found (w.byname (class_of w l self) name))) (asked at (λ l. found (w.byname (class_of w l self) name)))
        (asked_keeps w g (λ m l. (has_type w l (types.Class m.class) (To self) ≡ true) × ((s : Sig) × (w.sig m ≡ Some s))) at (λ l. found (w.byname (class_of w l self) name))
        (λ l lf tf. finds l self name (w.byname (class_of w l self) name) refl (type_later w g l lf an_object (To self) f))))
        (asked at (λ g. receiver g on)) (asked at (λ g. receiver g on))
        (asked_keeps w h (λ self g. has_type w g an_object (To self) ≡ true) at (λ g. receiver g on) (λ g le ty. receives w g som_object on (type_later w h g le an_object on i)))

    pub dispatch_keeps : (h : Heap) (at : Place) (wanted : ValueType) (name : List ℕ) (on : Value) (args : List Value) → has_type w h an_object on ≡ true → AllExist w args h
        → Keeps w h (dispatch_call w call at wanted name on args) (dispatch_call w checked at wanted name on args) (Has w wanted)
    dispatch_keeps h at wanted name on args i x =
        bind_keeps w h (Has w types.Str) (Has w wanted) (λ v. named_call w call at Dispatch wanted (text_of v) on args) (λ v. named_call w checked at Dispatch wanted (text_of v) on args)
        (λ v g le ty f. named_keeps g at Dispatch wanted (text_of v) on args (type_later w h g le an_object on i) (all_later w h g args le x))
        (offset_call w call at Offset som_dispatch_name on (Str name ∷ [])) (offset_call w checked at Offset som_dispatch_name on (Str name ∷ []))
        (own_keeps h at Offset som_dispatch_name on (Str name ∷ []) _ sound.dispatch i refl)

    pub parent_keeps : (h : Heap) (here : Here) (k p : ClassKey) (r : MethodRef) (args : List Value) (s : Sig) → has_type w h (types.Class k) here.me ≡ true → w.is_a k p ≡ true → w.sig (w.owner r) ≡ Some s → w.is_a p (w.owner r).class ≡ true
        → have_types w h s.params args ≡ true → Keeps w h (parent_call w call here p r args) (parent_call w checked here p r args) (Has w s.result)
    parent_keeps h here k p r args s i d e b a =
        let of : Ref → Request = λ self. record { from = here.place; way = _; self = self; parent = Some p; method = w.owner r; args = args } in
        bind_keeps w h (λ self g. has_type w g (types.Class k) (To self) ≡ true) (Has w s.result) (λ self. call (of self)) (λ self. checked (of self))
        (λ self g le ty f.
        let at_p = class_up w known sound g k p (To self) d f in
        keep g (of self) s e (class_up w known sound g p (w.owner r).class (To self) b at_p) (types_later w h g le s.params args a) (at_p, b))
        (tried here.place (self_ref here.me)) (tried here.place (self_ref here.me))
        (tried_keeps w h (λ self g. has_type w g (types.Class k) (To self) ≡ true) here.place (self_ref here.me) (λ g le ty. refers w g k here.me (type_later w h g le (types.Class k) here.me i)))

    if_known : (h : Heap) (P : Value → Heap → Type 0) (b : Bool) (x m y n : Act Value) → (b ≡ true → Keeps w h x m P) → Keeps w h y n P → Keeps w h (if b then x else y) (if b then m else n) P
    if_known h P true x m y n p q = p refl
    if_known h P false x m y n p q = q

    pub parents_keeps : (h : Heap) (here : Here) (k : ClassKey) (ps : List ClassKey) (r : MethodRef) (args : List Value) (s : Sig) → has_type w h (types.Class k) here.me ≡ true → ((p : ClassKey) → Mem p ps → w.is_a k p ≡ true) → w.sig (w.owner r) ≡ Some s
        → have_types w h s.params args ≡ true → Keeps w h (parents_calls w call here ps r args) (parents_calls w checked here ps r args) (Has w types.Void)
    parents_keeps h here k [] r args s i d e a = pure_keeps w h (Has w types.Void) Nil (λ g le ty. refl)
    parents_keeps h here k (p ∷ ps) r args s i d e a =
        if_known h (Has w types.Void) (w.is_a p (w.owner r).class) (parent_call w call here p r args >> parents_calls w call here ps r args) (parent_call w checked here p r args >> parents_calls w checked here ps r args)
        (parents_calls w call here ps r args) (parents_calls w checked here ps r args)
        (λ b. bind_keeps w h (Has w s.result) (Has w types.Void) (λ v. parents_calls w call here ps r args) (λ v. parents_calls w checked here ps r args)
        (λ v g le ty f. parents_keeps g here k ps r args s (type_later w h g le (types.Class k) here.me i) (λ q m. d q (inr m)) e (types_later w h g le s.params args a))
        (parent_call w call here p r args) (parent_call w checked here p r args) (parent_keeps h here k p r args s i (d p (inl refl)) e b a))
        (parents_keeps h here k ps r args s i (λ q m. d q (inr m)) e a)

    pub new_keeps : (h : Heap) (at : Place) (k : ClassKey) → w.is_a k som_object ≡ true → Keeps w h (new_on w call at k) (new_on w checked at k) (Has w (types.Class k))
    new_keeps h at k e =
        let P = Has w (types.Class k) in
        let castv : Value → Act Value = λ v. asked at (λ g. cast w k g v) in
        let mk : Calls → Act Value = λ c. offset_call w c at Offset som_new (To (ClassObject k)) [] in
        bind_keeps w h (Any w) P (λ x. mk call >>= castv) (λ x. mk checked >>= castv)
        (λ x g le ty u. bind_keeps w g (Has w an_object) P castv castv
        (λ v g2 le2 ty2 f. asked_keeps w g2 P at (λ l. cast w k l v) (λ l lf tf. casts w l k v (type_later w g2 l lf an_object v f)))
        (mk call) (mk checked) (own_keeps g at Offset som_new (To (ClassObject k)) [] _ sound.new (class_object_is w known sound g k som_class e (sound.meta k)) refl))
        (emit (Used k)) (emit (Used k)) (emit_keeps w h (Used k))
