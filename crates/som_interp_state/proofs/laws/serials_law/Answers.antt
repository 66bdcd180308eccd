use Rattle.som_interp_state.proofs.Objects.{spares_made, spares_written, spares_freed, serials_spared, serials_added}
use Rattle.som_interp_state.proofs.laws.serials_law.Goals as goal

pub returns-clause-made : goal.returns-clause-made
returns-clause-made c xs os new r class cs a m = spares_made xs os new r class cs a m

pub returns-clause-written : goal.returns-clause-written
returns-clause-written c xs os new r p cell other w = spares_written xs os new r p cell other w

pub returns-clause-freed : goal.returns-clause-freed
returns-clause-freed c xs os new r other f = spares_freed xs os new r other f

pub returns-clause-spared : goal.returns-clause-spared
returns-clause-spared c xs os new spared a = serials_spared xs os new spared a

pub returns-clause-added : goal.returns-clause-added
returns-clause-added c xs os new r class cs a m = serials_added xs os new r class cs a m
