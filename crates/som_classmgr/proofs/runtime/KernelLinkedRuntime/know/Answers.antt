use Rattle.som_classmgr.proofs.Asking.{agree, closed, have_numbers}
use Rattle.som_classmgr.proofs.runtime.KernelLinkedRuntime.know.Goals as goal

pub returns-clause-agree : goal.returns-clause-agree
returns-clause-agree c = agree c.args.self.now c.classes-classes.ensures.linked c.classes-classes.ensures.loaded

pub returns-clause-closed : goal.returns-clause-closed
returns-clause-closed c = closed c.args.self.now c.classes-classes.ensures.linked c.classes-classes.ensures.loaded

pub returns-clause-numbers : goal.returns-clause-numbers
returns-clause-numbers c = have_numbers c.args.self.now c.classes-classes.ensures.linked c.classes-classes.ensures.loaded
