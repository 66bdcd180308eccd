-- A word asks for fuel where it is the decimal spelling of a number.
use Rattle.std.proofs.Common.{◌≡◌, ℕ, zero, suc, ◌^◌, ◌<◌, ◌≤◌, ◌==◌, Bool, true, false, not, ◌&&◌, if◌then◌else◌, List, [], ◌∷◌, length, Some, None, refl, sym, ap, ◌∙◌, subst, arith, true≢false}
use Rattle.std.specs.Prelude.{nat_le, get_or}
use Rattle.std.specs.Fmt.{decimal}
use Rattle.std.specs.Int.{IsInRange}
use Rattle.std.proofs.lemmas.Bool.{le-leb, leb-true, eq-eqb, ne_eqb, and_parts, and_from}
use Rattle.std.proofs.lemmas.Fmt.{decimal-digits_value, digits_decimal, digits_value-decimal, decimal_nonempty, decimal_digit, first_decimal}
use Rattle.std.proofs.lemmas.Str.Parse.{IsDigitsTest, FoldsDigits, IsNumeralModel, numerals_by_fold}
use Rattle.som_model.specs.declared.limits.TheConstants.{MAX_FUEL}
use Rattle.som_model.specs.Lists.{every}
use Rattle.som_cmd.specs.Words.{is_digit, value_after, leads_with_zero, is_number, fuel_of}

abbrev AreDigits : List ℕ → Type 0
AreDigits word = every is_digit word ≡ true

in_range : (d : ℕ) → is_digit d ≡ true → IsInRange 48 57 d
in_range d e = let p = and_parts (nat_le 48 d) (nat_le d 57) e in (leb-true 48 d p.0, leb-true d 57 p.1)

from_range : (d : ℕ) → IsInRange 48 57 d → is_digit d ≡ true
from_range d r = and_from (nat_le 48 d) (nat_le d 57) (le-leb 48 d r.0) (le-leb d 57 r.1)

both : (b c : Bool) → (if b then c else false) ≡ true → (b ≡ true) × (c ≡ true)
both true c e = (refl, e)
both false c e = absurd (true≢false (sym e))

both_from : (b c : Bool) → b ≡ true → c ≡ true → (if b then c else false) ≡ true
both_from true c e f = f
both_from false c e f = absurd (true≢false (sym e))

tests : IsDigitsTest AreDigits
tests = record {
  empty = refl;
  parts = λ c cs p. (let q = both (is_digit c) (every is_digit cs) p in (in_range c q.0, q.1));
  more = λ c cs r p. both_from (is_digit c) (every is_digit cs) (from_range c r) p;
}

folds : FoldsDigits value_after
folds = record { empty = λ n. refl; more = λ n c cs r. refl }

numerals : IsNumeralModel AreDigits (value_after 0)
numerals = numerals_by_fold AreDigits tests value_after folds

is_some : (b : Bool) (v n : ℕ) → (if b then Some v else None) ≡ Some n → (b ≡ true) × (v ≡ n)
is_some true v n e = (refl, cc)
is_some false v n e = absurd cc

not_empty : (n : ℕ) → not (n == 0) ≡ true → 0 < n
not_empty zero e = absurd (true≢false (sym e))
not_empty (suc n) e = omega arith

-- a zero stands alone
alone : (word : List ℕ) → not (leads_with_zero word) ≡ true → get_or word 0 0 ≡ 48 → 0 < length word → length word ≡ 1
alone [] e f lt = absurd (omega arith)
alone (d ∷ []) e f lt = refl
alone (d ∷ c ∷ ds) e f lt =
    let zero_first : (d == 48) ≡ true = eq-eqb d 48 f in
    let more : not (length (c ∷ ds) == 0) ≡ true = ap not (ne_eqb (length (c ∷ ds)) 0 (λ z. (let long : 0 < length (c ∷ ds) = omega arith in omega (arith, z, long)))) in
    let leads : leads_with_zero (d ∷ c ∷ ds) ≡ true = and_from (d == 48) (not (length (c ∷ ds) == 0)) zero_first more in
    absurd (true≢false (sym e ∙ ap not leads))

pub spelled : (word : List ℕ) (n : ℕ) → fuel_of word ≡ Some n → (word ≡ decimal n) × (n ≤ MAX_FUEL)
spelled word n e =
    let p = is_some (is_number word && nat_le (value_after 0 word) MAX_FUEL) (value_after 0 word) n e in
    let q = and_parts (is_number word) (nat_le (value_after 0 word) MAX_FUEL) p.0 in
    let r = and_parts (not (length word == 0) && not (leads_with_zero word)) (every is_digit word) q.0 in
    let s = and_parts (not (length word == 0)) (not (leads_with_zero word)) r.0 in
    let some = not_empty (length word) s.0 in
    let small = leb-true (value_after 0 word) MAX_FUEL q.1 in
    (sym (decimal-digits_value numerals word r.1 some (λ f. alone word s.1 f some) (omega (arith, small))) ∙ ap decimal p.1, subst (λ (v : ℕ). v ≤ MAX_FUEL) p.1 small)

no_zero : (word : List ℕ) → 48 < get_or word 0 0 → not (leads_with_zero word) ≡ true
no_zero [] lt = absurd (omega arith)
no_zero (d ∷ ds) lt = ap (λ (b : Bool). not (b && not (length ds == 0))) (ne_eqb d 48 (λ e. omega (arith, e, lt)))

decimal_alone : (n : ℕ) → n ≤ MAX_FUEL → not (leads_with_zero (decimal n)) ≡ true
decimal_alone zero le = ap (λ (w : List ℕ). not (leads_with_zero w)) (decimal_digit 0 (omega arith))
decimal_alone (suc n) le = no_zero (decimal (suc n)) (first_decimal (suc n) (omega arith) (omega (arith, le)))

some_there : (n : ℕ) → 0 < n → not (n == 0) ≡ true
some_there zero lt = absurd (omega arith)
some_there (suc n) lt = ap not (ne_eqb (suc n) 0 (λ z. omega (arith, z)))

pub asks : (word : List ℕ) (n : ℕ) → (word ≡ decimal n) × (n ≤ MAX_FUEL) → fuel_of word ≡ Some n
asks word n (is, le) =
    let small : n < 2 ^ 64 = omega (arith, le) in
    let value : value_after 0 (decimal n) ≡ n = digits_value-decimal numerals n small in
    let number : is_number (decimal n) ≡ true =
    and_from (not (length (decimal n) == 0) && not (leads_with_zero (decimal n))) (every is_digit (decimal n))
    (and_from (not (length (decimal n) == 0)) (not (leads_with_zero (decimal n))) (some_there (length (decimal n)) (decimal_nonempty n small)) (decimal_alone n le))
    (digits_decimal numerals n small) in
    let within : nat_le (value_after 0 (decimal n)) MAX_FUEL ≡ true = ap (λ (v : ℕ). nat_le v MAX_FUEL) value ∙ le-leb n MAX_FUEL le in
    ap fuel_of is
    ∙ ap (λ (b : Bool). if b then Some (value_after 0 (decimal n)) else None) (and_from (is_number (decimal n)) (nat_le (value_after 0 (decimal n)) MAX_FUEL) number within)
    ∙ ap (λ (v : ℕ). Some v) value
