-- The parameters of an overridden method in W's text: their names differ, and each is found by its name.
use Rattle.std.proofs.Common.{◌≡◌, ℕ, zero, suc, ◌+◌, ◌<◌, ◌≤◌, ◌^◌, inl, inr, Bool, true, false, if◌then◌else◌, List, [], ◌∷◌, ◌++◌, length, Some, is_some, refl, sym, ap, ◌∙◌, arith}
use Rattle.std.specs.Prelude.{codes}
use Rattle.std.specs.Fmt.{decimal}
use Rattle.std.specs.Str.{bytes_eq}
use Rattle.std.proofs.lemmas.Fmt.{decimal_injective}
use Rattle.som_model.specs.declared.key.ValueType.{ValueType}
use Rattle.som_model.specs.Lists.{Mem, doubles, first, place_from}
use Rattle.som_model.proofs.KeyLaws.{exact_bytes}
use Rattle.som_model_laws.proofs.Members.{Apart, apart_doubles, not_true}
use Rattle.som_sema_scope.specs.Words.{words}
use Rattle.som_elab_body.specs.Locals.{kinds_of, local_of, names_of}
use Rattle.som_elab_body.specs.MethodBody.{parameters}
use Rattle.som_witness.specs.Wording.{parameters as parameter_names}
use Rattle.som_witness_texts.specs.Trees.{parameter_words}

abbrev pub parameter : ℕ → List ℕ
parameter n = codes "p" ++ decimal n

one_parameter : (i j : ℕ) → i < 2 ^ 64 → j < 2 ^ 64 → parameter i ≡ parameter j → i ≡ j
one_parameter i j p q e = let same : decimal i ≡ decimal j = cc in decimal_injective i j p q same

-- ---- the words, and what is in scope

pub texts_are : (place n : ℕ) (ts : List ValueType) → words (parameter_words place n ts) ≡ parameter_names n ts
texts_are place n [] = refl
texts_are place n (t ∷ ts) = ap (λ (z : List (List ℕ)). parameter n ∷ z) (texts_are (place + 2) (suc n) ts)

pub names_are : (place n : ℕ) (ts : List ValueType) → names_of (parameters (parameter_words place n ts) ts) ≡ parameter_names n ts
names_are place n [] = refl
names_are place n (t ∷ ts) = ap (λ (z : List (List ℕ)). parameter n ∷ z) (names_are (place + 2) (suc n) ts)

pub kinds_are : (place n : ℕ) (ts : List ValueType) → kinds_of (parameters (parameter_words place n ts) ts) ≡ ts
kinds_are place n [] = refl
kinds_are place n (t ∷ ts) = ap (λ (z : List ValueType). t ∷ z) (kinds_are (place + 2) (suc n) ts)

pub as_many : (place n : ℕ) (ts : List ValueType) → length (parameter_words place n ts) ≡ length ts
as_many place n [] = refl
as_many place n (t ∷ ts) = ap suc (as_many (place + 2) (suc n) ts)

-- ---- no two are the same

-- the name of a parameter with a number from n on
pub record IsNumbered (n : ℕ) (x : List ℕ) (count : ℕ) : Type 0 where
  pub number : ℕ
  pub low : n ≤ number
  pub high : number < n + count
  pub is : x ≡ parameter number

numbered : (n : ℕ) (ts : List ValueType) (x : List ℕ) → Mem x (parameter_names n ts) → IsNumbered n x (length ts)
numbered n [] x m = absurd m
numbered n (t ∷ ts) x (inl e) = record { number = n; low = omega arith; high = omega arith; is = e }
numbered n (t ∷ ts) x (inr m) =
    let r = numbered (suc n) ts x m in
    let a = r.low in
    let b = r.high in
    record { number = r.number; low = omega (arith, a); high = omega (arith, b); is = r.is }

apart : (n : ℕ) (ts : List ValueType) → n + length ts < 2 ^ 64 → Apart (parameter_names n ts)
apart n [] small = tt
apart n (t ∷ ts) small = (
  (λ m. (
      let r = numbered (suc n) ts (parameter n) m in
      let a = r.low in
      let b = r.high in
      let same = one_parameter n r.number (omega (arith, small)) (omega (arith, b, small)) r.is in
      omega (arith, same, a))),
  apart (suc n) ts (omega (arith, small)),
)

pub none_twice : (place : ℕ) (ts : List ValueType) → length ts < 2 ^ 64 → is_some (first (doubles bytes_eq [] (words (parameter_words place 0 ts)))) ≡ false
none_twice place ts small =
    ap (λ (z : List (List ℕ)). is_some (first (doubles bytes_eq [] z))) (texts_are place 0 ts)
    ∙ ap (λ (z : List (List ℕ)). is_some (first z)) (apart_doubles bytes_eq exact_bytes.two [] (parameter_names 0 ts) (λ a m n. m) (apart 0 ts (omega (arith, small))))

-- ---- each is found

found_from : (k n i : ℕ) (ts : List ValueType) → i < length ts → n + length ts < 2 ^ 64 → place_from k (bytes_eq (parameter (n + i))) (parameter_names n ts) ≡ Some (k + i)
found_from k n i [] lt small = absurd (omega (arith, lt))
found_from k n zero (t ∷ ts) lt small =
    let here : bytes_eq (parameter (n + 0)) (parameter n) ≡ true = (let e : n + 0 ≡ n = omega arith in ap (λ z. bytes_eq (parameter z) (parameter n)) e ∙ exact_bytes.one (parameter n)) in
    let e : k ≡ k + 0 = omega arith in
    ap (λ (b : Bool). if b then Some k else place_from (suc k) (bytes_eq (parameter (n + 0))) (parameter_names (suc n) ts)) here ∙ ap (λ z. Some z) e
found_from k n (suc i) (t ∷ ts) lt small =
    let other : bytes_eq (parameter (n + suc i)) (parameter n) ≡ false = not_true (bytes_eq (parameter (n + suc i)) (parameter n)) (λ same. (
    let is = one_parameter (n + suc i) n (omega (arith, lt, small)) (omega (arith, small)) (exact_bytes.two (parameter (n + suc i)) (parameter n) same) in
    omega (arith, is))) in
    let e : n + suc i ≡ suc n + i = omega arith in
    let f : suc k + i ≡ k + suc i = omega arith in
    ap (λ (b : Bool). if b then Some k else place_from (suc k) (bytes_eq (parameter (n + suc i))) (parameter_names (suc n) ts)) other
    ∙ ap (λ z. place_from (suc k) (bytes_eq (parameter z)) (parameter_names (suc n) ts)) e
    ∙ found_from (suc k) (suc n) i ts (omega (arith, lt)) (omega (arith, small))
    ∙ ap (λ z. Some z) f

pub local_here : (place j : ℕ) (ts : List ValueType) → j < length ts → length ts < 2 ^ 64 → local_of (parameters (parameter_words place 0 ts) ts) (parameter j) ≡ Some j
local_here place j ts lt small =
    let e : 0 + j ≡ j = omega arith in
    ap (λ (z : List (List ℕ)). place_from 0 (bytes_eq (parameter j)) z) (names_are place 0 ts)
    ∙ ap (λ z. place_from 0 (bytes_eq (parameter z)) (parameter_names 0 ts)) (sym e)
    ∙ found_from 0 0 j ts lt (omega (arith, small))
    ∙ ap (λ z. Some z) e
