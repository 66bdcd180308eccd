use Rattle.som_cliimage.proofs.Decoded.{one_program}
use Rattle.som_cliimage.proofs.laws.bytes_spell_one_program.Goals as goal

pub returns : goal.returns
returns c = one_program
