use Rattle.std.proofs.Common.{◌+◌, ap, ◌∙◌}
use Rattle.som_meta.specs.Numbering.{key_at}
use Rattle.som_model.specs.Classes.{ancestors}
use Rattle.som_model.specs.Owner.{introduces}
use Rattle.som_classmgr.proofs.Asking.{made_number}
use Rattle.som_classmgr.proofs.Searching.{asked_same}
use Rattle.som_classmgr.proofs.runtime.KernelLinkedRuntime.find.Goals as goal

pub find-requires : goal.find-requires
find-requires g c = made_number c.args.self.now c.classes-classes.ensures.linked c.classes-classes.ensures.loaded c.args.class c.requires.numbered c.requires.made

pub returns-clause-cost : goal.returns-clause-cost
returns-clause-cost g c =
    let k = c.args.self.now.classes in
    c.find.ensures.cost ∙ ap (λ n. c.args.steps.now + n) (asked_same (introduces k.classes c.args.name.now) (ancestors k.classes (key_at k c.args.class)))
