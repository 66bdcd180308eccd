use Rattle.som_classmgr.proofs.Asking.{only_made, reached_made, still_made}
use Rattle.som_classmgr.proofs.runtime.KernelLinkedRuntime.reach.Goals as goal

pub returns-clause-keeps : goal.returns-clause-keeps
returns-clause-keeps c = still_made c.args.self.now c.reach.new.self c.reach.ensures.classes c.reach.ensures.keeps.made

pub returns-clause-made : goal.returns-clause-made
returns-clause-made c = reached_made c.args.self.now c.reach.new.self c.reach.ensures.classes c.reach.result c.args.class c.requires c.reach.ensures.made

pub returns-clause-only : goal.returns-clause-only
returns-clause-only c = only_made c.args.self.now c.reach.new.self c.reach.ensures.classes c.args.class c.reach.ensures.only
