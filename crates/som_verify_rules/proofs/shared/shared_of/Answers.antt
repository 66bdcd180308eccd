use Rattle.std.proofs.Common.{◌∙◌, ap}
use Rattle.som_model.specs.Class.{introduced}
use Rattle.som_order.specs.Names.{texts}
use Rattle.som_verify_rules.proofs.SharedRows.{none_kept}
use Rattle.som_verify_rules.proofs.shared.shared_of.Goals as goal

pub returns-then-is_empty : goal.returns-then-is_empty
returns-then-is_empty c = ap texts c.new.ensures ∙ none_kept c.args.shared.now.keys (introduced c.args.entries.now) (c.is_empty.ensures.0 c.if-is_empty.true)
