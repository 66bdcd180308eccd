use Rattle.som_witness_texts.proofs.Few.{few_parameters}
use Rattle.som_witness_texts.proofs.reading.few_parameters_law.Goals as goal

pub returns : goal.returns
returns c = few_parameters
