-- The acts, each with its laws.
use Rattle.std.proofs.Common.{◌≡◌, ℕ, zero, suc, ◌+◌, ◌-◌, ◌≤◌, List, [], ◌∷◌, ◌++◌, Some, slice_get, refl, sym, ap, ◌∙◌, subst, append_assoc, append-nil, arith}
use Rattle.std.proofs.lemmas.Option.{none-some, same_Some}
use Rattle.std.specs.Prelude.{Ok, Err, length, true}
use Rattle.som_model.specs.declared.program.Fault.{Fault}
use Rattle.som_model.specs.declared.key.ClassKey.{ClassKey}
use Rattle.som_semantics.specs.World.{World}
use Rattle.som_semantics.specs.State.{Instance, Value, Heap, Ref, Object, ClassObject, Manager, zeros, Place, Tried, Event, State, changed, with_variable, no_longer_live, write, freed}
use Rattle.som_semantics.specs.Runs.{Faulted, Spent, Ran, Goes, Ends, end_of, follow, IsPrefix, Stays, IsLater, with_more, IsResumed, IsMore, Lawful, Act, after, moved, Out, Adds, added, Told, Kept, KGoes, KEnds, as_told, kept, kept_on, fresh}

-- ---- orders

pub prefix_self : (a : List Event) → IsPrefix a a
prefix_self a = ([], sym (append-nil a))

pub prefix_on : (a b c : List Event) → IsPrefix a b → IsPrefix b c → IsPrefix a c
prefix_on a b c p q = (p.0 ++ q.0, q.1 ∙ ap (λ l. l ++ q.0) p.1 ∙ append_assoc a p.0 q.0)

pub self_le : (n : ℕ) → n ≤ n
self_le n = omega arith

pub le_on : (a b c : ℕ) → a ≤ b → b ≤ c → a ≤ c
le_on a b c p q = omega (arith, p, q)

pub stays_self : (t : Instance) → Stays t t
stays_self t = record { class = refl; target = refl; freed = λ e. e }

pub stays_on : (t u v : Instance) → Stays t u → Stays u v → Stays t v
stays_on t u v p q = record { class = q.class ∙ p.class; target = q.target ∙ p.target; freed = λ e. q.freed (p.freed e) }

pub later_self : (h : Heap) → IsLater h h
later_self h = record { by = λ i t e. (t, e, stays_self t) }

pub later_on : (h h' h'' : Heap) → IsLater h h' → IsLater h' h'' → IsLater h h''
later_on h h' h'' p q = record { by = λ i t e. let u = p.by i t e in let v = q.by i u.0 u.1 in (v.0, v.1, stays_on t u.0 v.0 u.2 v.2) }

-- ---- one act after another

module _ {A B : Type 0} (k : A → State → Ran B) (law : (a : A) → Lawful (k a)) where
  pub follow_grows : (es : List Event) (r : Ran A) → IsPrefix es (end_of r).events → IsPrefix es (end_of (follow r k)).events
  follow_grows es (Goes a s) p = prefix_on es s.events (end_of (k a s)).events p ((law a).grows s)
  follow_grows es (Ends c s) p = p

  pub follow_falls : (n : ℕ) (r : Ran A) → (end_of r).fuel ≤ n → (end_of (follow r k)).fuel ≤ n
  follow_falls n (Goes a s) p = le_on _ _ _ ((law a).falls s) p
  follow_falls n (Ends c s) p = p

  pub follow_later : (h : Heap) (r : Ran A) → IsLater h (end_of r).heap → IsLater h (end_of (follow r k)).heap
  follow_later h (Goes a s) p = later_on h s.heap (end_of (k a s)).heap p ((law a).later s)
  follow_later h (Ends c s) p = p

  pub follow_apart : (es : List Event) (r : Ran A) → follow (moved es r) k ≡ moved es (follow r k)
  follow_apart es (Goes a s) = (law a).apart es s
  follow_apart es (Ends c s) = refl

  pub follow_resumed : (n : ℕ) (s : State) (r : Ran A) → IsResumed n s (end_of r) → IsResumed n s (end_of (follow r k))
  follow_resumed n s r p = record {
    nothing_left = p.nothing_left;
    takes = follow_falls (n - 1) r p.takes;
    events = follow_grows s.events r p.events;
    objects = follow_later s.heap r p.objects;
  }

  pub follow_more : (n : ℕ) (r r' : Ran A) → IsMore n r r' → IsMore n (follow r k) (follow r' k)
  follow_more n (Goes a s) r' h = subst (λ z. IsMore n (k a s) (follow z k)) (sym h) ((law a).more n s)
  follow_more n (Ends (Faulted f at) s) r' h = ap (λ z. follow z k) h
  follow_more n (Ends Spent s) r' h = follow_resumed n s r' h

  pub bind_law : (m : State → Ran A) → Lawful m → Lawful (λ s. follow (m s) k)
  bind_law m l = record {
    grows = λ s. follow_grows s.events (m s) (l.grows s);
    falls = λ s. follow_falls s.fuel (m s) (l.falls s);
    later = λ s. follow_later s.heap (m s) (l.later s);
    apart = λ es s. ap (λ r. follow r k) (l.apart es s) ∙ follow_apart es (m s);
    more = λ n s. follow_more n (m s) (m (with_more n s)) (l.more n s);
  }

module _ (add : Adds) where
  pub added_on : (o : Out) (es fs : List Event) → added add o (es ++ fs) ≡ added add (added add o es) fs
  added_on o [] fs = refl
  added_on o (e ∷ es) fs = added_on (add o e) es fs

  kept_moved : {A : Type 0} (o : Out) (es : List Event) (r : Ran A) → kept add o (moved es r) ≡ kept add (added add o es) r
  kept_moved o es (Goes a s) = ap (λ z. KGoes a (record { fuel = s.fuel; out = z; heap = s.heap })) (added_on o es s.events)
  kept_moved o es (Ends c s) = ap (λ z. KEnds c (record { fuel = s.fuel; out = z; heap = s.heap })) (added_on o es s.events)

  pub bind_link : {A B : Type 0} (r : Ran A) (t : Kept A) (o : Out) (k : A → Act B) → t ≡ kept add o r → kept_on t (λ a. (k a).told add) ≡ kept add o (follow r (λ a. (k a).does))
  bind_link (Goes a s) t o k h =
      let e : s.events ++ [] ≡ s.events = append-nil s.events in
      ap (λ z. kept_on z (λ x. (k x).told add)) h ∙ (k a).link add (as_told add o s)
      ∙ sym (ap (λ l. kept add o ((k a).does (record { fuel = s.fuel; events = l; heap = s.heap }))) (sym e) ∙ ap (kept add o) ((k a).law.apart s.events (record { fuel = s.fuel; events = []; heap = s.heap })) ∙ kept_moved o s.events ((k a).does (record { fuel = s.fuel; events = []; heap = s.heap })))
  bind_link (Ends c s) t o k h = ap (λ z. kept_on z (λ x. (k x).told add)) h

infixl 10 ◌>>=◌
abbrev pub ◌>>=◌ : {A B : Type 0} → Act A → (A → Act B) → Act B
m >>= k = record {
  does = λ s. follow (m.does s) (λ a. (k a).does);
  told = λ add t. kept_on (m.told add t) (λ a. (k a).told add);
  law = bind_law (λ a. (k a).does) (λ a. (k a).law) m.does m.law;
  link = λ add t. bind_link add (m.does (fresh t)) (m.told add t) t.out k (m.link add t);
}

infixl 10 ◌>>◌
abbrev pub ◌>>◌ : {A B : Type 0} → Act A → Act B → Act B
m >> k = m >>= λ _. k

-- ---- values and faults

pub pure_law : {A : Type 0} (a : A) → Lawful (λ s. Goes a s)
pure_law a = record { grows = λ s. prefix_self s.events; falls = λ s. self_le s.fuel; later = λ s. later_self s.heap; apart = λ es s. refl; more = λ k s. refl }

pub fault_law : {A : Type 0} (f : Fault) (at : Place) → Lawful {A = A} (λ s. Ends (Faulted f at) s)
fault_law f at = record { grows = λ s. prefix_self s.events; falls = λ s. self_le s.fuel; later = λ s. later_self s.heap; apart = λ es s. refl; more = λ k s. refl }

abbrev pub pure : {A : Type 0} → A → Act A
pure a = record { does = λ s. Goes a s; told = λ add t. KGoes a t; law = pure_law a; link = λ add t. refl }

abbrev pub fault : {A : Type 0} → Fault → Place → Act A
fault f at = record { does = λ s. Ends (Faulted f at) s; told = λ add t. KEnds (Faulted f at) t; law = fault_law f at; link = λ add t. refl }

abbrev pub tried : {A : Type 0} → Place → Tried A → Act A
tried at (Ok a) = pure a
tried at (Err f) = fault f at

-- ---- events

abbrev pub emits : Event → State → Ran (Unit {0})
emits e s = Goes tt (record { fuel = s.fuel; events = s.events ++ e ∷ []; heap = s.heap })

pub emit_law : (e : Event) → Lawful (emits e)
emit_law e = record { grows = λ s. (e ∷ [], refl); falls = λ s. self_le s.fuel; later = λ s. later_self s.heap; apart = λ es s. ap (λ l. Goes tt (record { fuel = s.fuel; events = l; heap = s.heap })) (append_assoc es s.events (e ∷ [])); more = λ k s. refl }

-- one event more is seen
abbrev pub emit : Event → Act (Unit {0})
emit e = record { does = emits e; told = λ add t. KGoes tt (record { fuel = t.fuel; out = add t.out e; heap = t.heap }); law = emit_law e; link = λ add t. refl }

-- ---- fuel

-- a unit from so much fuel
abbrev pub unit_from : ℕ → State → Ran (Unit {0})
unit_from zero s = Ends Spent (record { fuel = zero; events = s.events; heap = s.heap })
unit_from (suc n) s = Goes tt (record { fuel = n; events = s.events; heap = s.heap })

unit_grows : (n : ℕ) (s : State) → IsPrefix s.events (end_of (unit_from n s)).events
unit_grows zero s = prefix_self s.events
unit_grows (suc n) s = prefix_self s.events

unit_falls : (n : ℕ) (s : State) → (end_of (unit_from n s)).fuel ≤ n
unit_falls zero s = omega arith
unit_falls (suc n) s = omega arith

-- a unit is taken where there is one
pub unit_takes : (n : ℕ) (s : State) → (end_of (unit_from n s)).fuel ≤ n - 1
unit_takes zero s = omega arith
unit_takes (suc n) s = omega arith

unit_later : (n : ℕ) (s : State) → IsLater s.heap (end_of (unit_from n s)).heap
unit_later zero s = later_self s.heap
unit_later (suc n) s = later_self s.heap

unit_apart : (es : List Event) (n : ℕ) (s : State) → unit_from n (after es s) ≡ moved es (unit_from n s)
unit_apart es zero s = refl
unit_apart es (suc n) s = refl

unit_more : (k n : ℕ) (s : State) → IsMore k (unit_from n s) (unit_from (n + k) (with_more k s))
unit_more k zero s =
    let e : 0 + k ≡ k = omega arith in
    subst (λ z. IsResumed k (record { fuel = zero; events = s.events; heap = s.heap }) (end_of (unit_from z (with_more k s)))) (sym e)
    (record { nothing_left = refl; takes = unit_takes k (with_more k s); events = unit_grows k (with_more k s); objects = unit_later k (with_more k s) })
unit_more k (suc n) s = let e : suc n + k ≡ suc (n + k) = omega arith in ap (λ z. unit_from z (with_more k s)) e

pub unit_law : Lawful (λ s. unit_from s.fuel s)
unit_law = record { grows = λ s. unit_grows s.fuel s; falls = λ s. unit_falls s.fuel s; later = λ s. unit_later s.fuel s; apart = λ es s. unit_apart es s.fuel s; more = λ k s. unit_more k s.fuel s }

abbrev pub told_unit : ℕ → Told → Kept (Unit {0})
told_unit zero t = KEnds Spent (record { fuel = zero; out = t.out; heap = t.heap })
told_unit (suc n) t = KGoes tt (record { fuel = n; out = t.out; heap = t.heap })

pub unit_link : (add : Adds) (n : ℕ) (t : Told) → told_unit n t ≡ kept add t.out (unit_from n (fresh t))
unit_link add zero t = refl
unit_link add (suc n) t = refl

-- a unit of fuel is taken, or the run is spent
abbrev pub take_unit : Act (Unit {0})
take_unit = record { does = λ s. unit_from s.fuel s; told = λ add t. told_unit t.fuel t; law = unit_law; link = λ add t. unit_link add t.fuel t }

-- ---- objects

-- what is done may depend on the objects
pub reading_law : {A : Type 0} (m : Heap → Act A) → Lawful (λ s. (m s.heap).does s)
reading_law m = record { grows = λ s. (m s.heap).law.grows s; falls = λ s. (m s.heap).law.falls s; later = λ s. (m s.heap).law.later s; apart = λ es s. (m s.heap).law.apart es s; more = λ k s. (m s.heap).law.more k s }

abbrev pub reading : {A : Type 0} → (Heap → Act A) → Act A
reading m = record { does = λ s. (m s.heap).does s; told = λ add t. (m t.heap).told add t; law = reading_law m; link = λ add t. (m t.heap).link add t }

-- what a test of the objects answers
abbrev pub asked : {A : Type 0} → Place → (Heap → Tried A) → Act A
asked at test = reading (λ h. tried at (test h))

abbrev becomes : (Heap → Heap) → State → Ran (Unit {0})
becomes f s = Goes tt (record { fuel = s.fuel; events = s.events; heap = f s.heap })

pub become_law : (f : Heap → Heap) → ((h : Heap) → IsLater h (f h)) → Lawful (becomes f)
become_law f stays = record { grows = λ s. prefix_self s.events; falls = λ s. self_le s.fuel; later = λ s. stays s.heap; apart = λ es s. refl; more = λ k s. refl }

-- the heap becomes a later one
abbrev pub become : (f : Heap → Heap) → ((h : Heap) → IsLater h (f h)) → Act (Unit {0})
become f stays = record { does = becomes f; told = λ add t. KGoes tt (record { fuel = t.fuel; out = t.out; heap = f t.heap }); law = become_law f stays; link = λ add t. refl }

-- one object that is changed stays what it was where the change keeps it, and so do all others
changed_by : (f : Instance → Instance) → ((t : Instance) → Stays t (f t)) → (ts : List Instance) (j i : ℕ) (t : Instance)
    → slice_get ts i ≡ Some t → (u : Instance) × (slice_get (changed f ts j) i ≡ Some u) × Stays t u
changed_by f stays [] j i t e = absurd (none-some t e)
changed_by f stays (x ∷ xs) zero zero t e = let s = same_Some x t e in (f t, ap (λ z. Some (f z)) s, stays t)
changed_by f stays (x ∷ xs) zero (suc i) t e = (t, e, stays_self t)
changed_by f stays (x ∷ xs) (suc j) zero t e = (t, e, stays_self t)
changed_by f stays (x ∷ xs) (suc j) (suc i) t e = changed_by f stays xs j i t e

pub write_stays : (r : Ref) (k : ClassKey) (n : ℕ) (v : Value) (h : Heap) → IsLater h (write r k n v h)
write_stays (Object j) k n v h = record { by = λ i t e. changed_by (with_variable k n v) (λ x. record { class = refl; target = refl; freed = λ d. d }) h.objects j i t e }
write_stays (ClassObject c) k n v h = record { by = λ i t e. (t, e, stays_self t) }
write_stays Manager k n v h = later_self h

pub freed_stays : (r : Ref) (h : Heap) → IsLater h (freed r h)
freed_stays (Object j) h = record { by = λ i t e. changed_by no_longer_live (λ x. record { class = refl; target = refl; freed = λ d. refl }) h.objects j i t e }
freed_stays (ClassObject c) h = later_self h
freed_stays Manager h = later_self h

-- a new object of a class, with its variables at zero
abbrev pub new_instance : World → ClassKey → Value → Instance
new_instance w k target = record { class = k; live = true; target = target; variables = zeros w }

-- the objects, and one more
abbrev pub with_one : World → ClassKey → Value → Heap → Heap
with_one w k target h = record { objects = h.objects ++ new_instance w k target ∷ []; statics = h.statics }

front_stays : (ts us : List Instance) (i : ℕ) (t : Instance) → slice_get ts i ≡ Some t → slice_get (ts ++ us) i ≡ Some t
front_stays [] us i t e = absurd (none-some t e)
front_stays (x ∷ xs) us zero t e = e
front_stays (x ∷ xs) us (suc i) t e = front_stays xs us i t e

pub one_more_stays : (w : World) (k : ClassKey) (target : Value) (h : Heap) → IsLater h (with_one w k target h)
one_more_stays w k target h = record { by = λ i t e. (t, front_stays h.objects (new_instance w k target ∷ []) i t e, stays_self t) }

-- one object more is made
abbrev pub make : World → ClassKey → Value → Act Ref
make w k target = reading (λ h. become (with_one w k target) (one_more_stays w k target) >> pure (Object (length h.objects)))

-- ---- more fuel, more turns

-- from at most b units on, m', with n units more, does what m does and more
pub record Extends {A : Type 0} (b n : ℕ) (m m' : Act A) : Type 0 where
  pub by : (s : State) → s.fuel ≤ b → IsMore n (m.does s) (m'.does (with_more n s))

pub itself : {A : Type 0} (b n : ℕ) (m : Act A) → Extends b n m m
itself b n m = record { by = λ s le. m.law.more n s }

follow_extends : {A B : Type 0} (b n : ℕ) (r r' : Ran A) (k k' : A → Act B) → (end_of r).fuel ≤ b → IsMore n r r' → ((a : A) → Extends b n (k a) (k' a)) → IsMore n (follow r (λ a. (k a).does)) (follow r' (λ a. (k' a).does))
follow_extends b n (Goes a s) r' k k' le h e = subst (λ z. IsMore n ((k a).does s) (follow z (λ x. (k' x).does))) (sym h) ((e a).by s le)
follow_extends b n (Ends (Faulted f at) s) r' k k' le h e = ap (λ z. follow z (λ x. (k' x).does)) h
follow_extends b n (Ends Spent s) r' k k' le h e = follow_resumed (λ x. (k' x).does) (λ x. (k' x).law) n s r' h

pub bind_extends : {A B : Type 0} (b n : ℕ) (m m' : Act A) (k k' : A → Act B) → Extends b n m m' → ((a : A) → Extends b n (k a) (k' a)) → Extends b n (m >>= k) (m' >>= k')
bind_extends b n m m' k k' g e = record { by = λ s le. follow_extends b n (m.does s) (m'.does (with_more n s)) k k' (le_on _ _ _ (m.law.falls s) le) (g.by s le) e }

-- what follows a unit has one unit less
unit_then : {A : Type 0} (b n f : ℕ) (s : State) (m m' : Act A) → f ≤ b → ((s' : State) → suc s'.fuel ≤ b → IsMore n (m.does s') (m'.does (with_more n s')))
    → IsMore n (follow (unit_from f s) (λ x. m.does)) (follow (unit_from (f + n) (with_more n s)) (λ x. m'.does))
unit_then b n zero s m m' le e = follow_resumed (λ x. m'.does) (λ x. m'.law) n _ (unit_from (0 + n) (with_more n s)) (unit_more n zero s)
unit_then b n (suc f) s m m' le e =
    let d : suc f + n ≡ suc (f + n) = omega arith in
    subst (λ z. IsMore n (m.does (record { fuel = f; events = s.events; heap = s.heap })) (follow (unit_from z (with_more n s)) (λ x. m'.does))) (sym d)
    (e (record { fuel = f; events = s.events; heap = s.heap }) le)

-- with no fuel nothing follows a unit
pub after_no_unit : {A : Type 0} (n : ℕ) (m m' : Act A) → Extends 0 n (take_unit >> m) (take_unit >> m')
after_no_unit n m m' = record { by = λ s le. unit_then 0 n s.fuel s m m' le (λ s' l. absurd (omega (arith, l))) }

pub after_unit : {A : Type 0} (b n : ℕ) (m m' : Act A) → Extends b n m m' → Extends (suc b) n (take_unit >> m) (take_unit >> m')
after_unit b n m m' e = record { by = λ s le. unit_then (suc b) n s.fuel s m m' le (λ s' l. let d : s'.fuel ≤ b = omega (arith, l) in e.by s' d) }

-- what is done for each number of turns: from so much fuel on, more turns do what fewer did, and more, where there is as much fuel more
pub record Grown {A : Type 0} (m : ℕ → Act A) : Type 0 where
  pub by : (k n : ℕ) → Extends n k (m n) (m (n + k))

pub bounded_law : {A : Type 0} (m : ℕ → Act A) → Grown m → Lawful (λ s. (m s.fuel).does s)
bounded_law m g = record {
  grows = λ s. (m s.fuel).law.grows s;
  falls = λ s. (m s.fuel).law.falls s;
  later = λ s. (m s.fuel).law.later s;
  apart = λ es s. (m s.fuel).law.apart es s;
  more = λ k s. (g.by k s.fuel).by s (self_le s.fuel);
}

-- at most as many turns as there is fuel
abbrev pub bounded : {A : Type 0} (m : ℕ → Act A) → Grown m → Act A
bounded m g = record { does = λ s. (m s.fuel).does s; told = λ add t. (m t.fuel).told add t; law = bounded_law m g; link = λ add t. (m t.fuel).link add t }
