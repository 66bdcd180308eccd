-- W's number is the least with which its name is no class name.
use Rattle.std.proofs.Common.{◌≡◌, ℕ, zero, suc, ◌+◌, ◌<◌, ◌≤◌, ◌^◌, inl, inr, Bool, true, false, if◌then◌else◌, List, [], ◌∷◌, length, map, refl, sym, ap, ◌∙◌, arith}
use Rattle.std.specs.Fmt.{decimal}
use Rattle.std.specs.Str.{bytes_eq}
use Rattle.std.proofs.lemmas.Bool.{cases_lt}
use Rattle.std.proofs.lemmas.Fmt.{decimal_injective}
use Rattle.som_model.specs.declared.class.ClassFace.{ClassFace}
use Rattle.som_model.specs.declared.program.Interface.{Interface}
use Rattle.som_model.specs.Lists.{Mem, among, without}
use Rattle.som_model.proofs.KeyLaws.{exact_bytes}
use Rattle.som_model_laws.proofs.Laws.{among_mem}
use Rattle.som_model_laws.proofs.Members.{mem_without, not_true}
use Rattle.som_witness.specs.Program.{IsW, class_names, free_from, numbered_w, w_name}

one_number : (i j : ℕ) → i < 2 ^ 64 → j < 2 ^ 64 → numbered_w i ≡ numbered_w j → i ≡ j
one_number i j p q e = let same : decimal i ≡ decimal j = cc in decimal_injective i j p q same

shorter_by : {A : Type 0} (b : Bool) (x : A) (ys xs : List A) → length ys ≤ length xs → length (if b then ys else x ∷ ys) ≤ suc (length xs)
shorter_by true x ys xs le = omega (arith, le)
shorter_by false x ys xs le = omega (arith, le)

no_longer : {A : Type 0} (test : A → Bool) (xs : List A) → length (without test xs) ≤ length xs
no_longer test [] = omega arith
no_longer test (x ∷ xs) = shorter_by (test x) x (without test xs) xs (no_longer test xs)

less_by : {A : Type 0} (b : Bool) (x : A) (ys xs : List A) → length ys < length xs → length (if b then ys else x ∷ ys) < suc (length xs)
less_by true x ys xs lt = omega (arith, lt)
less_by false x ys xs lt = omega (arith, lt)

-- without a member it is shorter
shorter : {A : Type 0} (test : A → Bool) (a : A) (xs : List A) → Mem a xs → test a ≡ true → length (without test xs) < length xs
shorter test a [] m t = absurd m
shorter test a (x ∷ xs) (inl is) t =
    let here : test x ≡ true = ap test (sym is) ∙ t in
    let le = no_longer test xs in
    rw here (omega (arith, le))
shorter test a (x ∷ xs) (inr m) t = less_by (test x) x (without test xs) xs (shorter test a xs m t)

-- the names with a number from n on that are taken are among these
abbrev Covers : List (List ℕ) → List (List ℕ) → ℕ → Type 0
Covers names rest n = (i : ℕ) → n ≤ i → i < 2 ^ 64 → among (numbered_w i) names ≡ true → Mem (numbered_w i) rest

empty : {A : Type 0} (xs : List A) → length xs ≤ 0 → (a : A) → Mem a xs → ⊥
empty [] le a m = m
empty (x ∷ xs) le a m = absurd (omega (arith, le))

covers_less : (names rest : List (List ℕ)) (n : ℕ) → n < 2 ^ 64 → Covers names rest n → Covers names (without (bytes_eq (numbered_w n)) rest) (suc n)
covers_less names rest n small f i le lt t =
    mem_without (bytes_eq (numbered_w n)) (numbered_w i) rest (λ same. (let is = one_number n i small lt (exact_bytes.two (numbered_w n) (numbered_w i) same) in omega (arith, is, le))) (f i (omega (arith, le)) lt t)

free_by : (names : List (List ℕ)) (left n : ℕ) (b : Bool) → among (numbered_w n) names ≡ b → (b ≡ true → among (numbered_w (free_from names left (suc n))) names ≡ false) → among (numbered_w (if b then free_from names left (suc n) else n)) names ≡ false
free_by names left n true t f = f refl
free_by names left n false t f = t

is_free : (names : List (List ℕ)) (left n : ℕ) (rest : List (List ℕ)) → length rest ≤ left → n + left < 2 ^ 64 → Covers names rest n → among (numbered_w (free_from names left n)) names ≡ false
is_free names zero n rest le lt f = not_true (among (numbered_w n) names) (λ t. empty rest le (numbered_w n) (f n (omega arith) (omega (arith, lt)) t))
is_free names (suc left) n rest le lt f = free_by names left n (among (numbered_w n) names) refl (λ t.
    let small : n < 2 ^ 64 = omega (arith, lt) in
    let more : suc n + left < 2 ^ 64 = omega (arith, lt) in
    let less = shorter (bytes_eq (numbered_w n)) (numbered_w n) rest (f n (omega arith) small t) (exact_bytes.one (numbered_w n)) in
    is_free names left (suc n) (without (bytes_eq (numbered_w n)) rest) (omega (arith, less, le)) more (covers_less names rest n small f))

least_by : (names : List (List ℕ)) (left n i : ℕ) (b : Bool) → among (numbered_w n) names ≡ b → n ≤ i → i < (if b then free_from names left (suc n) else n)
    → (suc n ≤ i → i < free_from names left (suc n) → among (numbered_w i) names ≡ true) → among (numbered_w i) names ≡ true
least_by names left n i false t le lt f = absurd (omega (arith, le, lt))
least_by names left n i true t le lt f = elim (cases_lt n i) [
  | inl less ↦ f (omega (arith, less)) lt
  | inr more ↦ (let is : i ≡ n = omega (arith, le, more) in ap (λ z. among (numbered_w z) names) is ∙ t)
]

is_least : (names : List (List ℕ)) (left n i : ℕ) → n ≤ i → i < free_from names left n → among (numbered_w i) names ≡ true
is_least names zero n i le lt = absurd (omega (arith, le, lt))
is_least names (suc left) n i le lt = least_by names left n i (among (numbered_w n) names) refl le lt (λ a b. is_least names left (suc n) i a b)

map_length : (fs : List ClassFace) → length (map (λ (f : ClassFace). f.name) fs) ≤ length fs
map_length [] = omega arith
map_length (f ∷ fs) = let r = map_length fs in omega (arith, r)

pub w_is : (old : Interface) → length old.classes < 2 ^ 64 → IsW old (w_name old)
unfolding w_name
w_is old small = record {
  number = free_from (class_names old) (length old.classes) 0;
  is = refl;
  free = is_free (class_names old) (length old.classes) 0 (class_names old) (map_length old.classes) (omega (arith, small)) (λ i le lt t. (among_mem (numbered_w i) (class_names old)).0 t);
  least = λ i lt. is_least (class_names old) (length old.classes) 0 i (omega arith) lt;
}
