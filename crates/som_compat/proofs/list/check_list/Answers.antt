use Rattle.std.proofs.Common.{◌∙◌, ap}
use Rattle.som_model.specs.Lists.{first}
use Rattle.som_model.specs.Compatible.{list_breaks}
use Rattle.som_compat.proofs.Listing.{along}
use Rattle.som_compat.proofs.list.check_list.Goals as goal

pub returns-clause-along : goal.returns-clause-along
returns-clause-along c = along c.args.list.now c.requires c.check_each.result (c.check_each.ensures ∙ ap (λ z. first (list_breaks 1 z)) c.as_slice.ensures)
