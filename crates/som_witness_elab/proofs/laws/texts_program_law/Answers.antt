use Rattle.som_witness_elab.proofs.Texts.{texts_stand}
use Rattle.som_witness_elab.proofs.laws.texts_program_law.Goals as goal

pub returns : goal.returns
returns c = texts_stand
