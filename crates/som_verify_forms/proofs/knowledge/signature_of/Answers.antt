use Rattle.som_order.specs.Names.{texts}
use Rattle.som_verify_classes.specs.Modules.{classes_of}
use Rattle.som_verify_forms.proofs.KnownLaws.{signed_nowhere}
use Rattle.som_verify_forms.proofs.knowledge.signature_of.Goals as goal

pub returns-in-None-clause-is : goal.returns-in-None-clause-is
returns-in-None-clause-is c =
    let known = c.args.known.now in
    signed_nowhere (classes_of known.classes.now) (texts known.table.now.keys) c.requires.table c.args.method.now c.in-None.ensures.finds
