use Rattle.som_classmgr.proofs.Reached.{first_made}
use Rattle.som_classmgr.proofs.kernel.kernel_of.Goals as goal

pub returns-clause-all : goal.returns-clause-all
returns-clause-all c = first_made c.in_ok-stage.stage c.classes-classes.ensures.linked c.classes-classes.ensures.loaded c.in_ok-stage.ensures.made
