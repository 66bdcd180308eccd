use Rattle.std.proofs.Common.{◌≡◌, drop}
use Rattle.som_tables.specs.Layout.{first_start_of}
use Rattle.som_tables.proofs.starts.first_start.Given as goal

abbrev pub invariant-loop-parent : goal.invariant-loop-parent
invariant-loop-parent l = first_start_of l.lines l.starts (drop l.parent-index l.parents) l.of ≡ first_start_of l.lines l.starts l.parents l.of
