use Rattle.som_lex.proofs.Words.{word_spelled}
use Rattle.som_lex.proofs.laws.word_law.Goals as goal

pub returns : goal.returns
returns c = word_spelled
