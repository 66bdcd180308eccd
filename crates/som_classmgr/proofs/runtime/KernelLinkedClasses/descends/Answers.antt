use Rattle.std.proofs.Common.{sym}
use Rattle.som_classmgr.proofs.Asking.{not_below}
use Rattle.som_classmgr.proofs.runtime.KernelLinkedClasses.descends.Goals as goal

pub returns-in-None : goal.returns-in-None
returns-in-None c = sym (not_below c.args.self.now c.classes-classes.ensures.linked c.classes-classes.ensures.loaded c.args.class c.args.ancestor.now c.requires c.in-None.ensures.none)
