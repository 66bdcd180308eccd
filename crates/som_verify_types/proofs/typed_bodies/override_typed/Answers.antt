use Rattle.som_verify_forms.specs.Knowing.{all_of}
use Rattle.som_verify_classes.specs.Modules.{class_of}
use Rattle.som_verify_types.proofs.BodySteps.{signed, unsigned}
use Rattle.som_verify_types.proofs.typed_bodies.override_typed.Goals as goal

pub returns-in-None : goal.returns-in-None
returns-in-None c = unsigned (all_of c.args.known.now) (class_of c.args.class.now) c.args.item.now c.in-None.ensures.is

pub returns-in-Some : goal.returns-in-Some
returns-in-Some c = signed (all_of c.args.known.now) (class_of c.args.class.now) c.args.item.now c.in-Some.sig.now c.method_typed.result c.in-Some.ensures.is c.method_typed.ensures
