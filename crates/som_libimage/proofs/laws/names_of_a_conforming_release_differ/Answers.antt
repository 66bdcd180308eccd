use Rattle.som_image_classes.proofs.Conforming.{conforming_names}
use Rattle.som_libimage.proofs.laws.names_of_a_conforming_release_differ.Goals as goal

pub returns : goal.returns
returns c = conforming_names
