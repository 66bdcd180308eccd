-- The words of the texts: W's name, the names of parameters, and what the grammars take them for.
use Rattle.std.proofs.Common.{◌≡◌, ℕ, ◌+◌, ◌%◌, ◌/◌, ◌<◌, ◌≤◌, ◌^◌, nat_le, Bool, true, false, ◌&&◌, ◌==◌, List, [], ◌∷◌, ◌++◌, length, refl, ◌∙◌, le-leb, arith}
use Rattle.std.specs.Fmt.{decimal}
use Rattle.std.specs.List.{list_all}
use Rattle.std.proofs.lemmas.Fmt.{decimal_by_steps, length-decimal-le}
use Rattle.std.proofs.lemmas.Grind.{common_steps}
use Rattle.std.proofs.lemmas.List.Folds.{list_all-append}
use Rattle.som_model.specs.declared.limits.TheConstants.{MAX_NAME}
use Rattle.som_lex.specs.Alphabet.{is_digit, is_letter, is_word_byte}
use Rattle.som_lex.specs.Spelling.{is_word}
use Rattle.som_lex_laws.proofs.FirstToken.{both, next_passes}
use Rattle.som_parse.specs.Words.{key_of, is_refused_declaration, is_refused_type, is_refused_modifier, interface_word, statement_word, expression_word, type_word}
use Rattle.som_parse.specs.declared.token.Key.TheVariants as key

pub two_true : (x y : Bool) → x ≡ true → y ≡ true → (x && y) ≡ true
two_true x y e f = rw (e, f) refl

three_true : (x y z : Bool) → x ≡ true → y ≡ true → z ≡ true → (x && y && z) ≡ true
three_true x y z e f g = rw (e, f, g) refl

-- ---- digits

digit : (m : ℕ) → m < 10 → is_digit (48 + m) ≡ true
digit m lt = grind (arith, common_steps)

abbrev AreDigits : ℕ → List ℕ → Type 0
AreDigits m ds = (list_all is_digit ds ≡ true) × (next_passes is_digit ds ≡ true)

first_more : (ds xs : List ℕ) → next_passes is_digit ds ≡ true → next_passes is_digit (ds ++ xs) ≡ true
first_more [] xs e = absurd (cc)
first_more (d ∷ ds) xs e = e

one_digit : (b : ℕ) → is_digit b ≡ true → list_all is_digit (b ∷ []) ≡ true
one_digit b e = two_true (is_digit b) true e refl

more_digits : (m : ℕ) (ds : List ℕ) → 10 ≤ m → AreDigits (m / 10) ds → AreDigits m (ds ++ (48 + m % 10) ∷ [])
more_digits m ds le h =
    let last = one_digit (48 + m % 10) (digit (m % 10) (omega arith)) in
    (list_all-append is_digit ds ((48 + m % 10) ∷ []) ∙ two_true (list_all is_digit ds) (list_all is_digit ((48 + m % 10) ∷ [])) h.0 last, first_more ds ((48 + m % 10) ∷ []) h.1)

pub digits : (n : ℕ) → n < 2 ^ 64 → AreDigits n (decimal n)
digits = decimal_by_steps AreDigits (λ m lt. (one_digit (48 + m) (digit m lt), digit m lt)) more_digits

digit_in_word : (b : ℕ) → is_digit b ≡ true → is_word_byte b ≡ true
digit_in_word b e = grind (arith, common_steps)

all_in_word : (ds : List ℕ) → list_all is_digit ds ≡ true → list_all is_word_byte ds ≡ true
all_in_word [] e = refl
all_in_word (d ∷ ds) e =
    let h = both (is_digit d) (list_all is_digit ds) e in
    two_true (is_word_byte d) (list_all is_word_byte ds) (digit_in_word d h.0) (all_in_word ds h.1)

-- a letter and a number are a word
pub numbered : (b n : ℕ) → is_letter b ≡ true → n < 2 ^ 64 → is_word (b ∷ decimal n) ≡ true
numbered b n l lt =
    let few = length-decimal-le 20 n (omega arith) (omega arith) lt in
    let short : length (b ∷ decimal n) ≤ MAX_NAME = omega (arith, few) in
    three_true (is_letter b) (list_all is_word_byte (decimal n)) (nat_le (length (b ∷ decimal n)) MAX_NAME) l (all_in_word (decimal n) (digits n lt).0) (le-leb (length (b ∷ decimal n)) MAX_NAME short)

-- ---- plain words

pub plain_w : (ds : List ℕ) → key_of (87 ∷ ds) ≡ key.Plain
unfolding is_refused_declaration is_refused_type is_refused_modifier type_word interface_word statement_word expression_word
plain_w ds = refl

no_a : (d : ℕ) → is_digit d ≡ true → (d == 97) ≡ false
no_a d e = grind (arith, common_steps)

no_r : (d : ℕ) → is_digit d ≡ true → (d == 114) ≡ false
no_r d e = grind (arith, common_steps)

plain_p_by : (d : ℕ) (ds : List ℕ) → (d == 97) ≡ false → (d == 114) ≡ false → key_of (112 ∷ d ∷ ds) ≡ key.Plain
unfolding is_refused_declaration is_refused_type is_refused_modifier type_word interface_word statement_word expression_word
plain_p_by d ds e f = rw (e, f) refl

pub plain_p : (ds : List ℕ) → next_passes is_digit ds ≡ true → key_of (112 ∷ ds) ≡ key.Plain
plain_p [] e = absurd (cc)
plain_p (d ∷ ds) e = plain_p_by d ds (no_a d e) (no_r d e)
