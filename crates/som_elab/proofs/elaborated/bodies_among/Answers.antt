use Rattle.som_verify_classes.specs.Modules.{classes_of}
use Rattle.som_elab.proofs.ContextLaws.{names_kept}
use Rattle.som_elab.proofs.elaborated.bodies_among.Goals as goal

pub parts_of-requires : goal.parts_of-requires
parts_of-requires c = names_kept (classes_of c.args.classes.now) c.requires.rules.0 c.requires.rules.1
