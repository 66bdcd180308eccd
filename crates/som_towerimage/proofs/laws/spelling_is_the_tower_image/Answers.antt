use Rattle.som_towerimage.proofs.Decoded.{spelled_is, image_spells}
use Rattle.som_towerimage.proofs.laws.spelling_is_the_tower_image.Goals as goal

pub returns-clause-forth : goal.returns-clause-forth
returns-clause-forth c = spelled_is

pub returns-clause-back : goal.returns-clause-back
returns-clause-back c = image_spells
