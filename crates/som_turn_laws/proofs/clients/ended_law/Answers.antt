use Rattle.som_turn_laws.proofs.Ending.{end_stays, none_added}
use Rattle.som_turn_laws.proofs.clients.ended_law.Goals as goal

pub returns-clause-end : goal.returns-clause-end
returns-clause-end c = λ client is n k ended. end_stays client is n k ended

pub returns-clause-lines : goal.returns-clause-lines
returns-clause-lines c = λ client is n k ended. none_added client is n k ended
