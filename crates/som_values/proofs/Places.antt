-- Serials are told apart by their places, and class numbers by their keys.
use Rattle.std.proofs.Common.{◌≡◌, ℕ, suc, ◌<◌, ◌==◌, Bool, true, false, if◌then◌else◌, List, [], ◌∷◌, ◌++◌, length, refl, sym, ap, subst, ◌∙◌, arith}
use Rattle.som_model.specs.declared.key.ClassKey.{ClassKey}
use Rattle.som_model.specs.Keys.{same_key}
use Rattle.som_semantics.specs.State.{same_value, To, Object}
use Rattle.som_model.proofs.KeyLaws.{exact_numbers, exact_keys}
use Rattle.som_objects.specs.declared.cell.Cell.{Cell}
use Rattle.som_objects.specs.declared.cell.Cell.TheVariants as cells
use Rattle.som_objects.specs.declared.object_ref.ObjRef.{ObjRef}
use Rattle.som_values.specs.Shown.{Showing, key_of, place_of, shown, IsNumbered, IsMade, IsSeen, AreApart, showing}

-- one serial more in front of others
in_front : (x m n i j k : ℕ) (b c : Bool) → (x == m) ≡ b → (x == n) ≡ c → (i < k → j < k → (m == n) ≡ (i == j))
    → (if b then 0 else suc i) < suc k → (if c then 0 else suc j) < suc k → (m == n) ≡ ((if b then 0 else suc i) == (if c then 0 else suc j))
in_front x m n i j k true true e f h p q = grind (arith, e, f)
in_front x m n i j k true false e f h p q = grind (arith, e, f)
in_front x m n i j k false true e f h p q = grind (arith, e, f)
in_front x m n i j k false false e f h p q =
    let l : i < k = omega (arith, p) in
    let r : j < k = omega (arith, q) in
    h l r ∙ grind arith

pub same_places : (xs : List ℕ) (m n : ℕ) → place_of xs m < length xs → place_of xs n < length xs → (m == n) ≡ (place_of xs m == place_of xs n)
same_places [] m n p q = absurd (let f : ⊥ = omega (arith, p) in f)
same_places (x ∷ xs) m n p q = in_front x m n (place_of xs m) (place_of xs n) (length xs) (x == m) (x == n) refl refl (same_places xs m n) p q

-- two tests are one where each holds when the other does
one_test : (b c : Bool) → (b ≡ true → c ≡ true) → (c ≡ true → b ≡ true) → b ≡ c
one_test true true f g = refl
one_test false false f g = refl
one_test true false f g = sym (f refl)
one_test false true f g = g refl

pub same_keys : (keys : List ClassKey) (m n : ℕ) → AreApart keys → IsNumbered keys m → IsNumbered keys n → (m == n) ≡ same_key (key_of keys m) (key_of keys n)
same_keys keys m n apart p q = one_test (m == n) (same_key (key_of keys m) (key_of keys n))
    (λ e. subst (λ k. same_key (key_of keys m) (key_of keys k) ≡ true) (exact_numbers.two m n e) (exact_keys.one (key_of keys m)))
    (λ e. let h : m ≡ n = apart m n p q (exact_keys.two (key_of keys m) (key_of keys n) e) in subst (λ k. (m == k) ≡ true) h (exact_numbers.one m))

-- references to objects, and to class objects, are one where serials or numbers are
pub same_objects : (s : Showing) (a b : Cell) (x y : ObjRef) → a ≡ cells.Object x → b ≡ cells.Object y → IsSeen s a → IsSeen s b → (x.serial == y.serial) ≡ same_value (shown s a) (shown s b)
same_objects s a b x y ea eb p q =
    rw ea (rw eb (same_places s.serials x.serial y.serial (subst (IsSeen s) ea p) (subst (IsSeen s) eb q)))

pub same_classes : (s : Showing) (a b : Cell) (m n : ℕ) → a ≡ cells.Class m → b ≡ cells.Class n → AreApart s.keys → IsSeen s a → IsSeen s b → (m == n) ≡ same_value (shown s a) (shown s b)
same_classes s a b m n ea eb apart p q =
    rw ea (rw eb (same_keys s.keys m n apart (subst (IsSeen s) ea p) (subst (IsSeen s) eb q)))

-- ---- serials that are added leave those that were there at their places

later_place : (x n : ℕ) (i j : ℕ) (b : Bool) (k : ℕ) → (if b then 0 else suc i) < suc k → (i < k → j ≡ i) → (if b then 0 else suc j) ≡ (if b then 0 else suc i)
later_place x n i j true k p h = refl
later_place x n i j false k p h = let l : i < k = omega (arith, p) in ap suc (h l)

pub place_later : (xs ys : List ℕ) (n : ℕ) → IsMade xs n → place_of (xs ++ ys) n ≡ place_of xs n
place_later [] ys n p = absurd (let f : ⊥ = omega (arith, p) in f)
place_later (x ∷ xs) ys n p = later_place x n (place_of xs n) (place_of (xs ++ ys) n) (x == n) (length xs) p (place_later xs ys n)

-- a cell that is seen stands for the same value when more objects are made
pub shown_later : (keys : List ClassKey) (xs ys : List ℕ) (c : Cell) → IsSeen (showing keys xs) c → shown (showing keys (xs ++ ys)) c ≡ shown (showing keys xs) c
shown_later keys xs ys (cells.Long z) p = refl
shown_later keys xs ys (cells.Boolean b) p = refl
shown_later keys xs ys (cells.Str t) p = refl
shown_later keys xs ys cells.EmptyStr p = refl
shown_later keys xs ys cells.Nil p = refl
shown_later keys xs ys (cells.Object r) p = ap (λ i. To (Object i)) (place_later xs ys r.serial p)
shown_later keys xs ys (cells.Class n) p = refl
shown_later keys xs ys cells.Manager p = refl
