use Rattle.som_witness_elab.proofs.Texts.{texts_conform}
use Rattle.som_witness_elab.proofs.laws.texts_conform_law.Goals as goal

pub returns : goal.returns
returns c = texts_conform
