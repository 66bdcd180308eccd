use Rattle.std.proofs.Common.{ap, ◌∙◌}
use Rattle.som_model.specs.Lists.{among}
use Rattle.som_order.specs.Names.{texts}
use Rattle.som_witness_programs.proofs.Taken.{taken}
use Rattle.som_witness_programs.proofs.naming.is_taken.Goals as goal

pub returns : goal.returns
returns c = λ i is. c.is_some.ensures ∙ c.find_name.ensures.among ∙ ap (λ name. among name (texts c.args.olds.now.table.now.keys)) (c.as_slice.ensures ∙ c.requires) ∙ taken i c.args.olds.now c.args.number is
