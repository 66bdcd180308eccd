use Rattle.std.proofs.Common.{sym, ◌∙◌}
use Rattle.som_model.proofs.SameLaws.{exact_interfaces}
use Rattle.som_compat_levels.proofs.same_levels.is_same.Goals as goal

pub returns : goal.returns
returns c = λ e. exact_interfaces.two c.args.old.now c.args.new.now (sym c.is.ensures ∙ e)
