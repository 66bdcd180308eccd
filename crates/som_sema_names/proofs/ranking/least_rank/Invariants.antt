use Rattle.std.proofs.Common.{◌≡◌, take}
use Rattle.som_sema_names.specs.Introducers.{stands}
use Rattle.som_sema_names.specs.Ranking.{rank_from}
use Rattle.som_sema_names.proofs.ranking.least_rank.Given as goal

abbrev pub invariant-loop-place : goal.invariant-loop-place
invariant-loop-place l = l.least ≡ rank_from 0 (λ x. stands x (take l.place-index l.places)) l.list
