use Rattle.std.proofs.Common.{◌∙◌}
use Rattle.som_witness_programs.specs.Lent.{shown}
use Rattle.som_witness_programs.proofs.Open.{says_is}
use Rattle.som_witness_programs.proofs.saying.has_text.Goals as goal

pub returns : goal.returns
returns c = λ i io. c.says.ensures i io ∙ says_is i c.args.method.now (shown c.args.showing.now)
