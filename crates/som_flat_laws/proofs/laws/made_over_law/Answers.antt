use Rattle.som_flat_laws.proofs.MadeOver.{level_made, lowest_made, some_levels, stacked_made}
use Rattle.std.proofs.Common.{[], ◌∷◌, arith}
use Rattle.som_flat_laws.proofs.laws.made_over_law.Goals as goal

pub returns-clause-lowest : goal.returns-clause-lowest
returns-clause-lowest c = lowest_made

pub returns-clause-level : goal.returns-clause-level
returns-clause-level c below l s library few = level_made l library (some_levels below l s few) below s

pub returns-clause-levels : goal.returns-clause-levels
returns-clause-levels c i ls e s = (lowest_made i e, stacked_made (i ∷ []) ls (omega arith) s)
