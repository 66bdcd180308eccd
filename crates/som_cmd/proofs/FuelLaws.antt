-- The fuel that is asked for, digit by digit.
use Rattle.std.proofs.Common.{◌≡◌, ℕ, ◌+◌, ◌-◌, ◌*◌, ◌<◌, ◌≤◌, Bool, true, false, ◌&&◌, if◌then◌else◌, List, [], ◌∷◌, drop, Some, None, refl, sym, arith, true≢false}
use Rattle.std.specs.Prelude.{nat_le}
use Rattle.std.proofs.lemmas.Bool.{leb-true}
use Rattle.som_model.specs.declared.limits.TheConstants.{MAX_FUEL}
use Rattle.som_model.specs.Lists.{every}
use Rattle.som_cmd.specs.Words.{is_digit, value_after, is_number, fuel_of}

-- the digits so far are digits, and their value is this
pub record DigitsSoFar (word : List ℕ) (i value : ℕ) : Type 0 where
  pub digits : every is_digit (drop i word) ≡ every is_digit word
  pub value_is : value_after value (drop i word) ≡ value_after 0 word

grows : (n : ℕ) (ds : List ℕ) → n ≤ value_after n ds
grows n [] = omega arith
grows n (d ∷ ds) = let more = grows (n * 10 + (d - 48)) ds in omega (arith, more)

too_great : (a b : Bool) (n : ℕ) → b ≡ false → (if a && b then Some n else None) ≡ None
too_great a true n e = absurd (true≢false e)
too_great true false n e = refl
too_great false false n e = refl

above : (a b : ℕ) → b < a → nat_le a b ≡ false
above a b lt = by (nat_le a b) refl
  where
    by : (t : Bool) → nat_le a b ≡ t → t ≡ false
    by true e = (let le = leb-true a b e in absurd (omega (arith, le, lt)))
    by false e = refl

-- the value is too great
pub too_much : (word : List ℕ) (i value : ℕ) → DigitsSoFar word i value → MAX_FUEL < value → None ≡ fuel_of word
too_much word i value so gt =
    let more = grows value (drop i word) in
    let great : nat_le (value_after 0 word) MAX_FUEL ≡ false = above (value_after 0 word) MAX_FUEL (omega (arith, more, so.value_is, gt)) in
    sym (too_great (is_number word) (nat_le (value_after 0 word) MAX_FUEL) (value_after 0 word) great)
