use Rattle.som_libimage.proofs.Decoded.{spelled_image}
use Rattle.som_libimage.proofs.NamedReleases.{release_back}
use Rattle.som_libimage.proofs.laws.spelling_is_the_image.Goals as goal

pub returns-clause-forth : goal.returns-clause-forth
returns-clause-forth c = spelled_image

pub returns-clause-back : goal.returns-clause-back
returns-clause-back c = release_back
