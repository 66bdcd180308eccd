use Rattle.std.proofs.Common.{◌≡◌, replicate}
use Rattle.som_interp_task.specs.declared.advanced.Advanced.TheVariants as answers
use Rattle.som_tasks.proofs.starting.going_ends.Given as goal

-- so many ends are there
abbrev pub invariant-loop-number : goal.invariant-loop-number
invariant-loop-number l = l.ends.items ≡ replicate l._number answers.Going
