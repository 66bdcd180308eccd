use Rattle.som_machine_laws.specs.Step.{next_parent}
use Rattle.som_interp_calls.specs.Parents.{AreCalls, parents_from}
use Rattle.som_interp_calls.proofs.parents.first_parent.Given as goal

-- no parent that was passed descends from the owner
abbrev pub invariant-loop-place : goal.invariant-loop-place
invariant-loop-place g l = AreCalls (g.R.Classes.keys l.runtime) (g.R.Classes.world l.runtime) l.fn.class l.fn.owner l.fn.from
    (λ levels here r args ks. next_parent (g.R.Classes.world l.runtime) levels here (parents_from (g.R.Classes.keys l.runtime) (g.R.Classes.world l.runtime) l.fn.class l.fn.owner l.fn.from l.place) r args ks)
