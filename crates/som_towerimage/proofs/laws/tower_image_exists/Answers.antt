use Rattle.som_towerimage.proofs.Encoded.{image_there}
use Rattle.som_towerimage.proofs.laws.tower_image_exists.Goals as goal

pub returns : goal.returns
returns c = image_there
