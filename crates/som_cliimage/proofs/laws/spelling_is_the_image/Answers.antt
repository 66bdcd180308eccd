use Rattle.som_cliimage.proofs.Decoded.{spelled_image}
use Rattle.som_cliimage.proofs.NamedPrograms.{program_back}
use Rattle.som_cliimage.proofs.laws.spelling_is_the_image.Goals as goal

pub returns-clause-forth : goal.returns-clause-forth
returns-clause-forth c = spelled_image

pub returns-clause-back : goal.returns-clause-back
returns-clause-back c = program_back
