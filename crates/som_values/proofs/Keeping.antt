-- The heap's objects stay those of the store where one is made, changed or freed in both; and what is known stays known.
use Rattle.std.proofs.Common.{◌≡◌, ◌≢◌, ℕ, zero, suc, ◌+◌, ◌-◌, ◌<◌, ◌≤◌, ◌==◌, ◌⊎◌, inl, inr, Bool, true, false, if◌then◌else◌, List, [], ◌∷◌, ◌++◌, length, Option, Some, None, slice_get, slice_set, refl, sym, ap, subst, ◌∙◌, arith, length-append}
use Rattle.std.proofs.lemmas.Bool.{cases_eq}
use Rattle.som_model.specs.declared.key.ClassKey.{ClassKey}
use Rattle.som_semantics.specs.State.{Instance, Value, Heap, Object, changed, with_variable, no_longer_live, write, freed}
use Rattle.som_model.proofs.KeyLaws.{exact_numbers}
use Rattle.som_objects.specs.declared.cell.Cell.{Cell}
use Rattle.som_objects.specs.declared.cell.Cell.TheVariants as cells
use Rattle.som_objects.specs.declared.object_ref.ObjRef.{ObjRef}
use Rattle.som_objects.specs.Objects.{Live, Objects, live_at, KeepsKnown, Makes, Writes, Frees}
use Rattle.som_objects.proofs.Known.{live_within, live_before, live_last, live_changed, live_else}
use Rattle.som_values.specs.Shown.{Showing, key_of, place_of, IsNumbered, IsMade, IsSeen, showing}
use Rattle.som_values.specs.Stored.{IsOne, Holds, IsKept}
use Rattle.som_values.proofs.Places.{same_places, place_later}

-- ---- lists

pub no_some : {A : Type 0} {x : A} → None ≡ Some x → ⊥
no_some e = cc

pub same_some : {A : Type 0} {x y : A} → Some x ≡ Some y → x ≡ y
same_some e = cc

pub get_left : {X : Type 0} (xs ys : List X) (i : ℕ) → i < length xs → slice_get (xs ++ ys) i ≡ slice_get xs i
get_left [] ys i p = absurd (let f : ⊥ = omega (arith, p) in f)
get_left (x ∷ xs) ys zero p = refl
get_left (x ∷ xs) ys (suc i) p = get_left xs ys i (omega (arith, p))

pub get_last : {X : Type 0} (xs : List X) (y : X) → slice_get (xs ++ y ∷ []) (length xs) ≡ Some y
get_last [] y = refl
get_last (x ∷ xs) y = get_last xs y

-- ---- places

-- different serials of a task have different places
pub places_apart : (xs : List ℕ) (m n : ℕ) → IsMade xs m → IsMade xs n → m ≢ n → place_of xs m ≢ place_of xs n
places_apart xs m n p q ne e =
    let same : (place_of xs m == place_of xs n) ≡ true = subst (λ k. (place_of xs m == k) ≡ true) e (exact_numbers.one (place_of xs m)) in
    ne (exact_numbers.two m n (same_places xs m n p q ∙ same))

added_first : (x n j : ℕ) (b : Bool) → (x == n) ≡ b → (if b then 0 else suc j) < 1 → (0 < 0) ⊎ (((if b then 0 else suc j) ≡ 0) × (n ≡ x))
added_first x n j true e p = inr (refl, sym (exact_numbers.two x n e))
added_first x n j false e p = absurd (let f : ⊥ = omega (arith, p) in f)

added_front : (n x i j k m : ℕ) (b : Bool) → (if b then 0 else suc j) < suc m → (j < m → (i < k) ⊎ ((j ≡ k) × (n ≡ x)))
    → ((if b then 0 else suc i) < suc k) ⊎ (((if b then 0 else suc j) ≡ suc k) × (n ≡ x))
added_front n x i j k m true p h = inl (omega arith)
added_front n x i j k m false p h = elim (h (omega (arith, p))) [ inl l ↦ inl (omega (arith, l)) | inr e ↦ inr (ap suc e.0, e.1) ]

-- a serial that is made where one was added is one of those before it, or that one, which has the last place
pub place_added : (xs : List ℕ) (x n : ℕ) → IsMade (xs ++ x ∷ []) n → IsMade xs n ⊎ ((place_of (xs ++ x ∷ []) n ≡ length xs) × (n ≡ x))
place_added [] x n p = added_first x n 0 (x == n) refl p
place_added (y ∷ xs) x n p = added_front n x (place_of xs n) (place_of (xs ++ x ∷ []) n) (length xs) (length (xs ++ x ∷ [])) (y == n) p (place_added xs x n)

-- ---- what is known stays known

pub made_later : (xs ys : List ℕ) (n : ℕ) → IsMade xs n → IsMade (xs ++ ys) n
made_later xs ys n p =
    let e : place_of (xs ++ ys) n ≡ place_of xs n = place_later xs ys n p in
    omega (arith, e, p, length-append xs ys)

pub seen_later : (keys : List ClassKey) (xs ys : List ℕ) (c : Cell) → IsSeen (showing keys xs) c → IsSeen (showing keys (xs ++ ys)) c
seen_later keys xs ys (cells.Long z) p = p
seen_later keys xs ys (cells.Boolean b) p = p
seen_later keys xs ys (cells.Str t) p = p
seen_later keys xs ys cells.EmptyStr p = p
seen_later keys xs ys cells.Nil p = p
seen_later keys xs ys (cells.Object r) p = made_later xs ys r.serial p
seen_later keys xs ys (cells.Class n) p = p
seen_later keys xs ys cells.Manager p = p

pub kept_later : (os os' : Objects) (c : Cell) → KeepsKnown os os' → IsKept os c → IsKept os' c
kept_later os os' (cells.Long z) k p = p
kept_later os os' (cells.Boolean b) k p = p
kept_later os os' (cells.Str t) k p = p
kept_later os os' cells.EmptyStr k p = p
kept_later os os' cells.Nil k p = p
kept_later os os' (cells.Object r) k p = k r p
kept_later os os' (cells.Class n) k p = p
kept_later os os' cells.Manager k p = p

-- ---- the heap's objects

pub changed_at : (f : Instance → Instance) (ts : List Instance) (i : ℕ) (t : Instance) → slice_get ts i ≡ Some t → slice_get (changed f ts i) i ≡ Some (f t)
changed_at f [] zero t e = absurd (no_some e)
changed_at f [] (suc i) t e = absurd (no_some e)
changed_at f (x ∷ xs) zero t e = ap (λ u. Some (f u)) (same_some e)
changed_at f (x ∷ xs) (suc i) t e = changed_at f xs i t e

pub changed_else : (f : Instance → Instance) (ts : List Instance) (i j : ℕ) → i ≢ j → slice_get (changed f ts i) j ≡ slice_get ts j
changed_else f [] i j ne = refl
changed_else f (x ∷ xs) zero zero ne = absurd (ne refl)
changed_else f (x ∷ xs) zero (suc j) ne = refl
changed_else f (x ∷ xs) (suc i) zero ne = refl
changed_else f (x ∷ xs) (suc i) (suc j) ne = changed_else f xs i j (λ e. ne (ap suc e))

pub length_changed : (f : Instance → Instance) (ts : List Instance) (i : ℕ) → length (changed f ts i) ≡ length ts
length_changed f [] i = refl
length_changed f (x ∷ xs) zero = refl
length_changed f (x ∷ xs) (suc i) = ap suc (length_changed f xs i)

one_by : (keys : List ClassKey) (o o' : Option Live) (t t' : Option Instance) → o' ≡ o → t' ≡ t → IsOne keys o t → IsOne keys o' t'
one_by keys o o' t t' e f p = subst (λ x. IsOne keys x t') (sym e) (subst (λ y. IsOne keys o y) (sym f) p)

-- where the store has an object, the heap has one at its place
pub one_there : (keys : List ClassKey) (o : Option Live) (t : Option Instance) → IsOne keys o t → (u : Instance) × (t ≡ Some u)
one_there keys (Some o) (Some u) p = (u, refl)
one_there keys None (Some u) p = (u, refl)
one_there keys (Some o) None p = absurd p
one_there keys None None p = absurd p

-- an object is changed in the store and in the heap
holds_at : (s : Showing) (os : Objects) (h : Heap) (n : ℕ) (o : Live) (v : Option Live) (f : Instance → Instance) → live_at os n ≡ Some o → IsMade s.serials n → Holds s os h
    → ((u : Instance) → IsOne s.keys (Some o) (Some u) → IsOne s.keys v (Some (f u)))
    → (m : ℕ) → IsMade s.serials m → IsOne s.keys (live_at (slice_set os (n - 1) v) m) (slice_get (changed f h.objects (place_of s.serials n)) (place_of s.serials m))
holds_at s os h n o v f is made holds keeps m p =
    let w : (0 < n) × (n ≤ length os) = live_within os n o is in
    let one : IsOne s.keys (Some o) (slice_get h.objects (place_of s.serials n)) = subst (λ x. IsOne s.keys x (slice_get h.objects (place_of s.serials n))) is (holds.by n made) in
    let u : (u : Instance) × (slice_get h.objects (place_of s.serials n) ≡ Some u) = one_there s.keys (Some o) (slice_get h.objects (place_of s.serials n)) one in
    let there : IsOne s.keys (Some o) (Some u.0) = subst (λ x. IsOne s.keys (Some o) x) u.1 one in
    elim (cases_eq m n) [
      | inl at ↦ subst (λ k. IsOne s.keys (live_at (slice_set os (n - 1) v) k) (slice_get (changed f h.objects (place_of s.serials n)) (place_of s.serials k))) (sym at)
          (one_by s.keys _ _ _ _ (live_changed os v n w.0 w.1) (changed_at f h.objects (place_of s.serials n) u.0 u.1) (keeps u.0 there))
      | inr ne ↦ one_by s.keys _ _ _ _ (live_else os v n m w.0 ne) (changed_else f h.objects (place_of s.serials n) (place_of s.serials m) (places_apart s.serials n m made p (λ e. ne (sym e)))) (holds.by m p)
    ]

-- an object is freed in both
pub holds_freed : (s : Showing) (os os' : Objects) (h : Heap) (r : ObjRef) → Frees os os' r → IsMade s.serials r.serial → Holds s os h → Holds s os' (freed (Object (place_of s.serials r.serial)) h)
holds_freed s os os' h r f made holds =
    subst (λ x. Holds s x (freed (Object (place_of s.serials r.serial)) h)) (sym f.2)
    (record { many = length_changed no_longer_live h.objects (place_of s.serials r.serial) ∙ holds.many; by = holds_at s os h r.serial f.0 None no_longer_live f.1 made holds (λ u p. refl) })

-- a variable of an object is written in both
pub holds_written : (s : Showing) (os os' : Objects) (h : Heap) (r : ObjRef) (place : ℕ) (cell : Cell) (k : ClassKey) (n : ℕ) (v : Value)
    → Writes os os' r place cell → IsMade s.serials r.serial → Holds s os h → Holds s os' (write (Object (place_of s.serials r.serial)) k n v h)
holds_written s os os' h r place cell k n v w made holds =
    subst (λ x. Holds s x (write (Object (place_of s.serials r.serial)) k n v h)) (sym w.2)
    (record { many = length_changed (with_variable k n v) h.objects (place_of s.serials r.serial) ∙ holds.many; by = holds_at s os h r.serial w.0 _ (with_variable k n v) w.1 made holds (λ u p. p) })

-- an object of a class is made in both, at the end
pub holds_made : (keys : List ClassKey) (xs : List ℕ) (os os' : Objects) (h h' : Heap) (r : ObjRef) (class : ℕ) (cs : List Cell) (t : Instance)
    → Makes os os' r class cs → h'.objects ≡ h.objects ++ t ∷ [] → t.live ≡ true → t.class ≡ key_of keys class → IsNumbered keys class
    → ((n : ℕ) → IsMade xs n → n ≤ length os) → Holds (showing keys xs) os h → Holds (showing keys (xs ++ r.serial ∷ [])) os' h'
holds_made keys xs os os' h h' r class cs t m added live of numbered within holds = record {
  many = ap (λ (l : List Instance). length l) added ∙ length-append h.objects (t ∷ []) ∙ ap (λ n. n + 1) holds.many ∙ sym (length-append xs (r.serial ∷ []));
  by = λ n p. elim (place_added xs r.serial n p) [
    | inl old ↦ one_by keys _ _ _ _
        (ap (λ x. live_at x n) m.added ∙ live_before os _ n (within n old))
        (ap (λ l. slice_get l (place_of (xs ++ r.serial ∷ []) n)) added ∙ ap (λ i. slice_get (h.objects ++ t ∷ []) i) (place_later xs (r.serial ∷ []) n old) ∙ get_left h.objects (t ∷ []) (place_of xs n) (omega (arith, old, holds.many)))
        (holds.by n old)
    | inr new ↦ one_by keys _ _ _ _
        (ap (λ x. live_at x n) m.added ∙ live_last os _ n (new.1 ∙ m.serial))
        (ap (λ l. slice_get l (place_of (xs ++ r.serial ∷ []) n)) added ∙ ap (λ i. slice_get (h.objects ++ t ∷ []) i) (new.0 ∙ sym holds.many) ∙ get_last h.objects t)
        (live, of, numbered)
  ];
}
