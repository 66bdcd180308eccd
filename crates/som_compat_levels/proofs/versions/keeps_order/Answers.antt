use Rattle.std.proofs.Common.{sym}
use Rattle.som_compat.specs.Views.{shown}
use Rattle.som_compat.proofs.Ending.{k4_none, k4_some}
use Rattle.som_compat_levels.proofs.versions.keeps_order.Goals as goal

pub returns-in-None : goal.returns-in-None
returns-in-None c = sym (k4_none (shown c.args.class.now) (shown c.args.other.now) (sym c.in-None.ensures))

pub returns-in-Some : goal.returns-in-Some
returns-in-Some c = sym (k4_some (shown c.args.class.now) (shown c.args.other.now) c.in-Some.place _ (sym c.in-Some.ensures) c.entry_name_at.ensures)
