use Rattle.std.proofs.Common.{sym, ◌∙◌}
use Rattle.som_sema_names.specs.Noted.{counted}
use Rattle.som_sema_names.proofs.Noting.{counted_at, counted_none}
use Rattle.som_sema_names.proofs.entries.entry_named.Goals as goal

pub returns-in-None : goal.returns-in-None
returns-in-None c = sym (counted_none 0 c.args.entries.now c.args.name.now (sym (c.in-None.ensures (counted 0 c.args.entries.now) c.requires)))

pub returns-in-Some : goal.returns-in-Some
returns-in-Some c = c.entry_in.ensures ∙ counted_at c.args.entries.now c.args.name.now c.in-Some.place (c.in-Some.ensures (counted 0 c.args.entries.now) c.requires)
