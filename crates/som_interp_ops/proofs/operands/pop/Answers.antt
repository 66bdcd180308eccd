use Rattle.std.proofs.Common.{◌++◌, ap, ◌∙◌}
use Rattle.std.specs.Option.{option_to_list}
use Rattle.som_interp_ops.proofs.Tops.{popped}
use Rattle.som_interp_ops.proofs.operands.pop.Goals as goal

pub returns-in-Some-clause-cell : goal.returns-in-Some-clause-cell
returns-in-Some-clause-cell c = (popped c.args.operands.now.items c.pop.new.self.items c.pop.result c.in-Some.cell c.in-Some.is (c.pop.ensures.items ∙ ap (λ o. c.pop.new.self.items ++ option_to_list o) c.in-Some.is)).0

pub returns-in-Some-clause-rest : goal.returns-in-Some-clause-rest
returns-in-Some-clause-rest c = (popped c.args.operands.now.items c.pop.new.self.items c.pop.result c.in-Some.cell c.in-Some.is (c.pop.ensures.items ∙ ap (λ o. c.pop.new.self.items ++ option_to_list o) c.in-Some.is)).1
