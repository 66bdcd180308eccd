use Rattle.std.proofs.Common.{◌∙◌, ap, subst, sym}
use Rattle.som_meta.specs.Numbering.{IsNumbered, key_at}
use Rattle.som_classmgr.proofs.Asking.{key_2, numbered_2}
use Rattle.som_classmgr.proofs.runtime.KernelLinkedClasses.manager.Goals as goal

pub returns-clause-numbered : goal.returns-clause-numbered
returns-clause-numbered c = subst (IsNumbered c.args.self.now.classes) (sym c.new.ensures) (numbered_2 c.args.self.now.classes c.classes-classes.ensures.loaded)

pub returns-clause-key : goal.returns-clause-key
returns-clause-key c = ap (key_at c.args.self.now.classes) c.new.ensures ∙ key_2 c.args.self.now.classes c.classes-classes.ensures.loaded
