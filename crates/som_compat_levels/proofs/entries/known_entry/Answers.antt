use Rattle.som_compat_levels.proofs.Owning.{missing_entry}
use Rattle.som_compat_levels.proofs.entries.known_entry.Goals as goal

pub returns-in-None : goal.returns-in-None
returns-in-None c = absurd (missing_entry c.args.entries.now c.args.name.now c.requires c.in-None.ensures)
