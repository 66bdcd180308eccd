use Rattle.som_interp_state.proofs.Classes.{statics_later, statics_written}
use Rattle.som_interp_state.proofs.laws.statics_law.Goals as goal

pub returns-clause-later : goal.returns-clause-later
returns-clause-later c k xs ys os new statics h i keeps same held = statics_later k xs ys os new statics h i keeps same held

pub returns-clause-written : goal.returns-clause-written
returns-clause-written c k xs os old new h n d m p cs cell linked numbered at others place own before held =
    statics_written k linked xs os old new h n d m p cs cell numbered at others place own before held
