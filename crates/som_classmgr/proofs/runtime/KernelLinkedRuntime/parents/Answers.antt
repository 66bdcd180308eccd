use Rattle.std.proofs.Common.{◌∙◌}
use Rattle.som_model.proofs.NamedLaws.{hierarchy_parents}
use Rattle.som_meta.specs.Numbering.{key_at}
use Rattle.som_classmgr.proofs.runtime.KernelLinkedRuntime.parents.Goals as goal

pub returns-clause-keys : goal.returns-clause-keys
returns-clause-keys c = c.parents.ensures.keys ∙ hierarchy_parents c.args.self.now.classes.classes (key_at c.args.self.now.classes c.args.class)
