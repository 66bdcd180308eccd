use Rattle.som_cliimage.proofs.Encoded.{image_there}
use Rattle.som_cliimage.proofs.laws.image_exists.Goals as goal

pub returns : goal.returns
returns c = image_there
