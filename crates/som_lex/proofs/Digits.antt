-- The value of digits, cut as it is read.
use Rattle.std.proofs.Common.{◌≡◌, ℕ, ◌+◌, ◌-◌, ◌*◌, min, List, [], ◌∷◌, refl, ◌∙◌, ap, arith}
use Rattle.std.specs.Prelude.{fold}
use Rattle.som_lex.specs.Values.{number_of}

abbrev pub capped_step : ℕ → ℕ → ℕ → ℕ
capped_step most n d = min (10 * n + (d - 48)) most

abbrev step : ℕ → ℕ → ℕ
step n d = 10 * n + (d - 48)

once : (most n e : ℕ) → min (10 * min n most + e) most ≡ min (10 * n + e) most
once most n e = omega arith

from : (most n : ℕ) (ds : List ℕ) → fold (capped_step most) (min n most) ds ≡ min (fold step n ds) most
from most n [] = refl
from most n (d ∷ ds) = ap (λ m. fold (capped_step most) m ds) (once most n (d - 48)) ∙ from most (step n d) ds

none : (most : ℕ) → 0 ≡ min 0 most
none most = omega arith

-- cut at each digit, or once at the end
pub capped_number : (most : ℕ) (ds : List ℕ) → fold (capped_step most) 0 ds ≡ min (number_of ds) most
capped_number most ds = ap (λ m. fold (capped_step most) m ds) (none most) ∙ from most 0 ds
