-- Rows that are filled, one more.
use Rattle.std.proofs.Common.{◌≡◌, ◌≢◌, ℕ, zero, suc, ◌<◌, false, List, [], ◌∷◌, length, Option, Some, None, is_some, refl, sym, ap, ◌∙◌, arith, true≢false}
use Rattle.som_tables.specs.Rows.{Added, HasRow, IsDeclared, row_at}
use Rattle.som_class_loaded.specs.Made.{KeepsFilled}

-- a class that has a number and no row
pub declared : (rows : List (Option (Added ℕ))) (n : ℕ) → n < length rows → is_some (row_at rows n) ≡ false → IsDeclared rows n
declared [] n lt e = absurd (omega arith)
declared (None ∷ rows) zero lt e = refl
declared (Some a ∷ rows) zero lt e = absurd (true≢false e)
declared (r ∷ rows) (suc n) lt e = declared rows n (omega arith) e

-- where only this class's row changed, and it had none, each row that there was is as it was
pub keeps_filled : (old new : List (Option (Added ℕ))) (n : ℕ) → is_some (row_at old n) ≡ false → ((m : ℕ) → m ≢ n → row_at new m ≡ row_at old m) → KeepsFilled old new
keeps_filled old new n none others m has = others m (λ same. true≢false (sym has ∙ ap (λ z. is_some (row_at old z)) same ∙ none))

pub still_filled : (old new : List (Option (Added ℕ))) → KeepsFilled old new → (n : ℕ) → HasRow old n → HasRow new n
still_filled old new kept n has = ap (λ o. is_some o) (kept n has) ∙ has
