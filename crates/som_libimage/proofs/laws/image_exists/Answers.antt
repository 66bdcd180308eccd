use Rattle.som_libimage.proofs.Encoded.{image_there}
use Rattle.som_libimage.proofs.laws.image_exists.Goals as goal

pub returns : goal.returns
returns c = image_there
