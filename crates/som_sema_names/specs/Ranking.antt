-- Lists of places with the rank of each place.
use Rattle.std.specs.Prelude.{◌≡◌, ℕ, suc, ◌<◌, ◌==◌, Bool, if◌then◌else◌, List, [], ◌∷◌, length, slice_index_or}
use Rattle.som_model.specs.Class.{Class}
use Rattle.som_model.specs.Lists.{Mem}
use Rattle.som_sema_names.specs.Introducers.{AreIntroducers}
use Rattle.som_sema_names.specs.declared.ranking.Ranking.{Ranking}

-- the rank, counted from n, of the first on a list that passes a test, and past the end where none does
abbrev pub rank_from : ℕ → (ℕ → Bool) → List ℕ → ℕ
rank_from n test [] = n
rank_from n test (x ∷ xs) = if test x then n else rank_from (suc n) test xs

-- the rank of each place below a limit
pub record AreRanks (list : List ℕ) (limit : ℕ) (ranks : List ℕ) : Type 0 where
  pub long : length ranks ≡ limit
  pub by : (p : ℕ) → p < limit → slice_index_or ranks p 0 ≡ rank_from 0 (λ x. p == x) list

-- the classes that introduce each name, and a list of places with the rank of each
pub record IsRanking (cs : List Class) (list : List ℕ) (r : Ranking) : Type 0 where
  pub introducers : AreIntroducers cs r.introducers.now
  pub on : r.list.now ≡ list
  pub low : (p : ℕ) → Mem p list → p < length cs
  pub ranks : AreRanks list (length cs) r.ranks.items
