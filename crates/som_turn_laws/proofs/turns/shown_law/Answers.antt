use Rattle.std.proofs.Common.{[], map, ap, ◌∙◌}
use Rattle.som_turn_laws.specs.Turns.{alone_lines, line_shown, turns_of}
use Rattle.som_turn_laws.proofs.Taking.{among, shown_tagged}
use Rattle.som_turn_laws.proofs.turns.shown_law.Goals as goal

pub returns : goal.returns
returns c = λ clients i is turns. ap (map line_shown) (among clients i is [] turns) ∙ shown_tagged i (alone_lines (clients i) (turns_of i turns))
