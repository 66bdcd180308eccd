-- The bases of classes, one after the other: which token has which place, and that none stands twice.
use Rattle.std.proofs.Common.{◌≡◌, ◌≢◌, ◌==◌, ◌&&◌, ℕ, zero, suc, ◌+◌, ◌<◌, ◌≤◌, inl, inr, Bool, true, false, if◌then◌else◌, List, [], ◌∷◌, ◌++◌, length, map, flat_map, take, get_or, Option, Some, None, IsNone, refl, sym, ap, ◌∙◌, subst, arith, append-nil, append_assoc, length-append}
use Rattle.std.proofs.lemmas.Bool.{cases_eq}
use Rattle.std.proofs.lemmas.List.{take_all, take_more}
use Rattle.std.specs.List.{AllByRecursion}
use Rattle.som_model.specs.Lists.{Mem}
use Rattle.som_model_laws.proofs.Members.{Apart}
use Rattle.som_class_layout_laws.specs.Places.{before, less}
use Rattle.som_tables.specs.Rows.{AreDistinct, replaced_at, same_token}
use Rattle.som_class_variables.specs.Variables.{cell_count}
use Rattle.som_class_variables.specs.Placed.{base_of, bases_from}

eq_false : (a b : ℕ) → a ≢ b → (a == b) ≡ false
eq_false a b f = grind (arith, f)

eq_true : (a b : ℕ) → a ≡ b → (a == b) ≡ true
eq_true a b f = grind (arith, f)

-- a class introduces a cell where it has variables, and then one

pub one_at_most : (n : ℕ) → cell_count n ≤ 1
one_at_most zero = omega arith
one_at_most (suc n) = omega arith

pub has_variables : (n i : ℕ) → i < cell_count n → (0 < n) × (i ≡ 0)
has_variables zero i lt = absurd (omega (arith, lt))
has_variables (suc n) i lt = (omega arith, omega (arith, lt))

pub has_cell : (n : ℕ) → 0 < n → 0 < cell_count n
has_cell zero lt = absurd (omega (arith, lt))
has_cell (suc n) lt = omega arith

-- the token of another class, and of this

other_base : (m place count : ℕ) (rest : List ((ℕ × ℕ) × ℕ)) (t : ℕ × ℕ) → (t.0 ≡ m → ⊥) → replaced_at (base_of m place count ++ rest) t ≡ replaced_at rest t
other_base m place zero rest t f = refl
other_base m place (suc count) rest t f =
    let no : same_token (m, 0) t ≡ false = ap (λ b. b && (0 == t.1)) (eq_false m t.0 (λ e. f (sym e))) in
    ap (λ (b : Bool). if b then Some place else replaced_at rest t) no

own_base : (m place count : ℕ) (rest : List ((ℕ × ℕ) × ℕ)) → 0 < count → replaced_at (base_of m place count ++ rest) (m, 0) ≡ Some place
own_base m place zero rest lt = absurd (omega (arith, lt))
own_base m place (suc count) rest lt =
    let yes : same_token (m, 0) (m, 0) ≡ true = ap (λ b. b && (0 == 0)) (eq_true m m refl) ∙ eq_true 0 0 refl in
    ap (λ (b : Bool). if b then Some place else replaced_at rest (m, 0)) yes

-- of all classes of a list

pub none_over : (count : ℕ → ℕ) (shift place : ℕ) (ns : List ℕ) (t : ℕ × ℕ) → (Mem t.0 ns → ⊥) → replaced_at (bases_from count shift place ns) t ≡ None
none_over count shift place [] t f = refl
none_over count shift place (n ∷ ns) t f = other_base n (less shift place) (count n) (bases_from count shift (place + count n) ns) t (λ e. f (inl e)) ∙ none_over count shift (place + count n) ns t (λ m. f (inr m))

distinct_base : (m place count : ℕ) (rest : List ((ℕ × ℕ) × ℕ)) → replaced_at rest (m, 0) ≡ None → AreDistinct rest → AreDistinct (base_of m place count ++ rest)
distinct_base m place zero rest none distinct = distinct
distinct_base m place (suc count) rest none distinct = (subst (λ (o : Option ℕ). IsNone o) (sym none) refl, distinct)

pub distinct_over : (count : ℕ → ℕ) (shift place : ℕ) (ns : List ℕ) → Apart ns → AreDistinct (bases_from count shift place ns)
distinct_over count shift place [] apart = tt
distinct_over count shift place (n ∷ ns) apart =
    distinct_base n (less shift place) (count n) (bases_from count shift (place + count n) ns) (none_over count shift (place + count n) ns (n, 0) apart.0) (distinct_over count shift (place + count n) ns apart.1)

all_of_base : (P : (ℕ × ℕ) × ℕ → Type 0) (m place count : ℕ) (rest : List ((ℕ × ℕ) × ℕ)) → (0 < count → P ((m, 0), place)) → AllByRecursion P rest → AllByRecursion P (base_of m place count ++ rest)
all_of_base P m place zero rest f all = all
all_of_base P m place (suc count) rest f all = (f (omega arith), all)

pub all_over : (P : (ℕ × ℕ) × ℕ → Type 0) (count : ℕ → ℕ) (shift place : ℕ) (ns : List ℕ) → ((n p : ℕ) → Mem n ns → 0 < count n → P ((n, 0), p)) → AllByRecursion P (bases_from count shift place ns)
all_over P count shift place [] f = tt
all_over P count shift place (n ∷ ns) f =
    all_of_base P n (less shift place) (count n) (bases_from count shift (place + count n) ns) (λ lt. f n (less shift place) (inl refl) lt) (all_over P count shift (place + count n) ns (λ m p k. f m p (inr k)))

-- a base is what stands before its class

module _ {K V : Type 0} (same : K → K → Bool) (own : K → List V) (key : ℕ → K) (n : ℕ) (known : ℕ → Type 0)
    (one : (m : ℕ) → known m → n ≡ m → same (key n) (key m) ≡ true) (other : (m : ℕ) → known m → (n ≡ m → ⊥) → same (key n) (key m) ≡ false) (some : 0 < length (own (key n))) where
  abbrev count : ℕ → ℕ
  count m = length (own (key m))

  pub base_over : (shift place : ℕ) (ns : List ℕ) → ((m : ℕ) → Mem m ns → known m) → Mem n ns → replaced_at (bases_from count shift place ns) (n, 0) ≡ Some (less shift (place + before same own (key n) (map key ns)))
  base_over shift place [] all m = absurd m
  base_over shift place (x ∷ ns) all m = elim (cases_eq n x) [
    | inl is ↦ (
        let yes : same (key n) (key x) ≡ true = one x (all x (inl refl)) is in
        let sum : place ≡ place + 0 = omega arith in
        ap (λ (z : ℕ). replaced_at (base_of x (less shift place) (count x) ++ bases_from count shift (place + count x) ns) (z, 0)) is
        ∙ own_base x (less shift place) (count x) (bases_from count shift (place + count x) ns) (subst (λ (z : ℕ). 0 < count z) is some)
        ∙ ap (λ z. Some (less shift z)) sum ∙ sym (ap (λ (b : Bool). Some (less shift (place + (if b then 0 else count x + before same own (key n) (map key ns))))) yes))
    | inr away ↦ (
        let no : same (key n) (key x) ≡ false = other x (all x (inl refl)) away in
        let sum : (place + count x) + before same own (key n) (map key ns) ≡ place + (count x + before same own (key n) (map key ns)) = omega arith in
        other_base x (less shift place) (count x) (bases_from count shift (place + count x) ns) (n, 0) away
        ∙ base_over shift (place + count x) ns (λ z k. all z (inr k)) (later x ns m away)
        ∙ ap (λ z. Some (less shift z)) sum ∙ sym (ap (λ (b : Bool). Some (less shift (place + (if b then 0 else count x + before same own (key n) (map key ns))))) no))
  ]
    where
      later : (x : ℕ) (ns : List ℕ) → Mem n (x ∷ ns) → (n ≡ x → ⊥) → Mem n ns
      later x ns (inl e) f = absurd (f e)
      later x ns (inr k) f = k

-- one class more at the end

-- where the variables of the next class begin
abbrev pub after_all : (ℕ → ℕ) → ℕ → List ℕ → ℕ
after_all count place [] = place
after_all count place (n ∷ ns) = after_all count (place + count n) ns

after_end : (count : ℕ → ℕ) (place : ℕ) (ns : List ℕ) (n : ℕ) → after_all count place (ns ++ n ∷ []) ≡ after_all count place ns + count n
after_end count place [] n = refl
after_end count place (x ∷ ns) n = after_end count (place + count x) ns n

bases_end : (count : ℕ → ℕ) (shift place : ℕ) (ns : List ℕ) (n : ℕ) → bases_from count shift place (ns ++ n ∷ []) ≡ bases_from count shift place ns ++ base_of n (less shift (after_all count place ns)) (count n)
bases_end count shift place [] n = append-nil (base_of n (less shift place) (count n))
bases_end count shift place (x ∷ ns) n =
    ap (λ l. base_of x (less shift place) (count x) ++ l) (bases_end count shift (place + count x) ns n)
    ∙ sym (append_assoc (base_of x (less shift place) (count x)) (bases_from count shift (place + count x) ns) (base_of n (less shift (after_all count (place + count x) ns)) (count n)))

pub bases_more : (count : ℕ → ℕ) (shift start : ℕ) (ns : List ℕ) (i n c place : ℕ) (bases : List ((ℕ × ℕ) × ℕ)) → i < length ns → n ≡ get_or ns i n → c ≡ count n → bases ≡ bases_from count shift start (take i ns)
    → place ≡ after_all count start (take i ns) → bases ++ base_of n (less shift place) c ≡ bases_from count shift start (take (i + 1) ns)
bases_more count shift start ns i n c place bases lt is many so at =
    ap (λ l. l ++ base_of n (less shift place) c) so ∙ ap (λ z. bases_from count shift start (take i ns) ++ base_of n (less shift z) c) at
    ∙ ap (λ z. bases_from count shift start (take i ns) ++ base_of n (less shift (after_all count start (take i ns))) z) many
    ∙ sym (bases_end count shift start (take i ns) n) ∙ ap (bases_from count shift start) (ap (λ z. take i ns ++ z ∷ []) is ∙ sym (take_more ns i n lt))

pub next_more : (count : ℕ → ℕ) (start : ℕ) (ns : List ℕ) (i n c place next : ℕ) → i < length ns → n ≡ get_or ns i n → c ≡ count n → place ≡ after_all count start (take i ns) → next ≡ place + c → next ≡ after_all count start (take (i + 1) ns)
next_more count start ns i n c place next lt is many at sum =
    sum ∙ ap (λ z. z + c) at ∙ ap (λ z. after_all count start (take i ns) + z) many ∙ sym (after_end count start (take i ns) n) ∙ ap (after_all count start) (ap (λ z. take i ns ++ z ∷ []) is ∙ sym (take_more ns i n lt))

-- the place after all is that of as many variables as they have
pub after_total : {K V : Type 0} (own : K → List V) (key : ℕ → K) (place : ℕ) (ns : List ℕ) → after_all (λ m. length (own (key m))) place ns ≡ place + length (flat_map own (map key ns))
after_total own key place [] = (let s : place ≡ place + 0 = omega arith in s)
after_total own key place (n ∷ ns) =
    let rest = flat_map own (map key ns) in
    let sum : (place + length (own (key n))) + length rest ≡ place + (length (own (key n)) + length rest) = omega arith in
    after_total own key (place + length (own (key n))) ns ∙ sum ∙ ap (λ z. place + z) (sym (length-append (own (key n)) rest))

pub place_at_end : {K V : Type 0} (own : K → List V) (key : ℕ → K) (start : ℕ) (ns : List ℕ) (i place : ℕ) → length ns ≤ i → place ≡ after_all (λ m. length (own (key m))) start (take i ns)
    → place ≡ start + length (flat_map own (map key ns))
place_at_end own key start ns i place le at = at ∙ ap (after_all (λ m. length (own (key m))) start) (take_all i ns le) ∙ after_total own key start ns
