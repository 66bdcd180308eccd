use Rattle.som_classmgr.proofs.Asking.{made_number}
use Rattle.som_classmgr.proofs.runtime.KernelLinkedRuntime.hooks.Goals as goal

pub hooks-requires : goal.hooks-requires
hooks-requires c = made_number c.args.self.now c.classes-classes.ensures.linked c.classes-classes.ensures.loaded c.args.class c.requires.numbered c.requires.made
