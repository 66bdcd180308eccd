use Rattle.som_image_classes.proofs.NamedInterfaces.{interface_forth, interface_back}
use Rattle.som_image_classes.proofs.class_laws.named_faces_are_spelled.Goals as goal

pub returns-clause-forth : goal.returns-clause-forth
returns-clause-forth c = interface_forth

pub returns-clause-back : goal.returns-clause-back
returns-clause-back c = interface_back
