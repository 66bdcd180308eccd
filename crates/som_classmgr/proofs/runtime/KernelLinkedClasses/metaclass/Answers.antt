use Rattle.som_classmgr.proofs.Asking.{made_number}
use Rattle.som_classmgr.proofs.runtime.KernelLinkedClasses.metaclass.Goals as goal

pub metaclass-requires-clause-made : goal.metaclass-requires-clause-made
metaclass-requires-clause-made c = made_number c.args.self.now c.classes-classes.ensures.linked c.classes-classes.ensures.loaded c.args.class c.requires.numbered c.requires.made
