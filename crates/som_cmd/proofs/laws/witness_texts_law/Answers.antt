use Rattle.som_cmd.proofs.WitnessLaws.{compiled, same_image, words_are}
use Rattle.som_cmd.proofs.laws.witness_texts_law.Goals as goal

pub returns-clause-compiled : goal.returns-clause-compiled
returns-clause-compiled c = compiled

pub returns-clause-words : goal.returns-clause-words
returns-clause-words c = words_are

pub returns-clause-same : goal.returns-clause-same
returns-clause-same c = same_image
