use Rattle.som_interp_task.proofs.Sparing.{spares_same, stands_still}
use Rattle.som_interp_task.proofs.laws.standing_law.Goals as goal

pub returns-clause-spared : goal.returns-clause-spared
returns-clause-spared c d new spares stands = stands_still d new d.made spares (λ k is. is) stands

pub returns-clause-more : goal.returns-clause-more
returns-clause-more c d made grows stands = stands_still d d.objects made (spares_same d.task.serials d.objects) grows stands
