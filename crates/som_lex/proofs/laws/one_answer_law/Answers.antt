use Rattle.som_lex.proofs.OneCut.{one_cut, one_fault, cut_apart}
use Rattle.som_lex.proofs.Lexed.{lexed}
use Rattle.som_lex.proofs.laws.one_answer_law.Goals as goal

pub returns-clause-tokens : goal.returns-clause-tokens
returns-clause-tokens c = one_cut

pub returns-clause-fault : goal.returns-clause-fault
returns-clause-fault c = one_fault

pub returns-clause-apart : goal.returns-clause-apart
returns-clause-apart c = cut_apart

pub returns-clause-some : goal.returns-clause-some
returns-clause-some c = lexed
