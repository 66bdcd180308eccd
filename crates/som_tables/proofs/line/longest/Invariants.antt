use Rattle.std.proofs.Common.{ℕ, ◌≤◌, drop}
use Rattle.som_tables.specs.Layout.{EndBefore}
use Rattle.som_tables.proofs.line.longest.Given as goal

abbrev pub invariant-loop-class : goal.invariant-loop-class
invariant-loop-class l = (count : ℕ) → l.most ≤ count → EndBefore l.lines count (drop l.class-index l.classes) → EndBefore l.lines count l.classes
