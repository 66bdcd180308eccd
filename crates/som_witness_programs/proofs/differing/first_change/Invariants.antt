use Rattle.std.proofs.Common.{◌≡◌, ◌≤◌, ◌+◌, length}
use Rattle.som_witness.specs.Showings.{first_change}
use Rattle.som_witness_programs.proofs.differing.first_change.Given as goal

abbrev pub invariant-loop-olds : goal.invariant-loop-olds
invariant-loop-olds l = record {
  same : first_change l.place l.olds l.news ≡ first_change 0 l.before l.after;
  few : l.place + length l.olds ≤ 16;
}

abbrev pub decreases-loop-olds : goal.decreases-loop-olds
decreases-loop-olds l = length l.olds
