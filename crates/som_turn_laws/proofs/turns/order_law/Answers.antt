use Rattle.std.proofs.Common.{[], map}
use Rattle.std.specs.List.{concat}
use Rattle.som_turn_laws.specs.Turns.{line_shown, lines_after}
use Rattle.som_turn_laws.proofs.Taking.{in_order, one_later, one_shown, text_on}
use Rattle.som_turn_laws.proofs.turns.order_law.Goals as goal

pub returns-clause-lines : goal.returns-clause-lines
returns-clause-lines c = λ clients turns more. in_order clients [] turns more

pub returns-clause-next : goal.returns-clause-next
returns-clause-next c = λ clients turns i. one_later clients turns i

pub returns-clause-next_text : goal.returns-clause-next_text
returns-clause-next_text c = λ clients turns i. one_shown clients turns i

pub returns-clause-text : goal.returns-clause-text
returns-clause-text c = λ clients turns more. (concat (map line_shown (lines_after clients turns more)), text_on clients turns more)
