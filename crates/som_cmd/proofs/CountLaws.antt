-- A word asks for so many classes where it is the decimal spelling of a number that is at least one, and so many can be generated.
use Rattle.std.proofs.Common.{◌≡◌, ℕ, ◌≤◌, Bool, true, false, ◌&&◌, if◌then◌else◌, List, Option, Some, None, refl, ap, subst, ◌∙◌, arith}
use Rattle.std.specs.Prelude.{nat_le}
use Rattle.std.specs.Fmt.{decimal}
use Rattle.std.proofs.lemmas.Bool.{le-leb, leb-true, and_parts, and_from}
use Rattle.som_model.specs.declared.limits.TheConstants.{MAX_FUEL}
use Rattle.som_generator.specs.declared.limits.TheConstants.{MAX_CLASSES}
use Rattle.som_cmd.specs.Words.{count_of, from_one_to, fuel_of}
use Rattle.som_cmd.proofs.FuelSpelled.{asks, spelled}

abbrev IsCount : Option ℕ → ℕ → Type 0
IsCount o n = (o ≡ Some n) × (1 ≤ n) × (n ≤ MAX_CLASSES)

is_some : (b : Bool) (v n : ℕ) → (if b then Some v else None) ≡ Some n → (b ≡ true) × (v ≡ n)
is_some true v n e = (refl, cc)
is_some false v n e = absurd cc

is_count : (o : Option ℕ) (n : ℕ) → from_one_to MAX_CLASSES o ≡ Some n → IsCount o n
is_count None n e = absurd cc
is_count (Some v) n e =
    let p = is_some (nat_le 1 v && nat_le v MAX_CLASSES) v n e in
    let q = and_parts (nat_le 1 v) (nat_le v MAX_CLASSES) p.0 in
    (ap (λ (k : ℕ). Some k) p.1, subst (λ (k : ℕ). 1 ≤ k) p.1 (leb-true 1 v q.0), subst (λ (k : ℕ). k ≤ MAX_CLASSES) p.1 (leb-true v MAX_CLASSES q.1))

pub count_spelled : (word : List ℕ) (n : ℕ) → count_of word ≡ Some n → (word ≡ decimal n) × (1 ≤ n) × (n ≤ MAX_CLASSES)
count_spelled word n e = let c = is_count (fuel_of word) n e in ((spelled word n c.0).0, c.1, c.2)

pub asks_count : (word : List ℕ) (n : ℕ) → (word ≡ decimal n) × (1 ≤ n) × (n ≤ MAX_CLASSES) → count_of word ≡ Some n
asks_count word n is =
    let few : n ≤ MAX_FUEL = (let most = is.2 in omega (arith, most)) in
    let within : (nat_le 1 n && nat_le n MAX_CLASSES) ≡ true = and_from (nat_le 1 n) (nat_le n MAX_CLASSES) (le-leb 1 n is.1) (le-leb n MAX_CLASSES is.2) in
    ap (from_one_to MAX_CLASSES) (asks word n (is.0, few)) ∙ ap (λ (b : Bool). if b then Some n else None) within
