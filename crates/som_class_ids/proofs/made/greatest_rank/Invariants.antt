use Rattle.std.proofs.Common.{◌≡◌, drop, map, max, slice_index_or}
use Rattle.som_model.specs.Classes.{greatest}
use Rattle.som_class_ids.specs.Positions.{rank_list}
use Rattle.som_class_ids.proofs.made.greatest_rank.Given as goal

abbrev pub invariant-loop-class : goal.invariant-loop-class
invariant-loop-class l = max l.rank (greatest (map (λ n. slice_index_or (rank_list l.positions) n 0) (drop l.class-index l.classes))) ≡ greatest (map (λ n. slice_index_or (rank_list l.positions) n 0) l.classes)
