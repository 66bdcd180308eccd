use Rattle.std.proofs.Common.{◌≡◌, ◌+◌, drop}
use Rattle.som_levels.specs.Places.{level_at}
use Rattle.som_levels.proofs.places.level_at.Given as goal

abbrev pub invariant-loop-level : goal.invariant-loop-level
invariant-loop-level l = level_at l.sizes l.place ≡ l.level + level_at (drop l.level l.sizes) l.left
