use Rattle.som_cliimage.proofs.Encoded.{conforming_names}
use Rattle.som_cliimage.proofs.laws.names_of_a_conforming_program_differ.Goals as goal

pub returns : goal.returns
returns c = conforming_names
