use Rattle.som_elab_body.specs.Code.{classes_at}
use Rattle.som_elab_body.proofs.NameLaws.{local_found, local_missing}
use Rattle.som_elab_body.proofs.leaves.local.Goals as goal

pub returns-in-None : goal.returns-in-None
returns-in-None c = local_missing (classes_at c.args.context.now) c.args.locals.now c.args.name.now c.in-None.ensures.is

pub returns-in_ok-new-in-Some : goal.returns-in_ok-new-in-Some
returns-in_ok-new-in-Some c = rw c.in_ok-new-in-Some.ensures (local_found (classes_at c.args.context.now) c.args.locals.now c.args.name.now c.in-Some.place _ c.requires c.in-Some.ensures.is c.in-Some.ensures.within)
