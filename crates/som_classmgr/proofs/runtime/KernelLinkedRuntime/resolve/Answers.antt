use Rattle.som_meta.specs.Numbering.{key_at}
use Rattle.som_classmgr.proofs.Asking.{below_told, made_number}
use Rattle.som_classmgr.proofs.runtime.KernelLinkedRuntime.resolve.Goals as goal

pub resolve-body-requires-clause-made : goal.resolve-body-requires-clause-made
resolve-body-requires-clause-made g c = made_number c.args.self.now c.classes-classes.ensures.linked c.classes-classes.ensures.loaded c.args.class c.requires.numbered c.requires.made

pub resolve-body-requires-clause-below : goal.resolve-body-requires-clause-below
resolve-body-requires-clause-below g c =
    below_told c.args.self.now.classes c.classes-classes.ensures.loaded (key_at c.args.self.now.classes c.args.class) (key_at c.args.self.now.classes c.args.method.0) c.requires.below
