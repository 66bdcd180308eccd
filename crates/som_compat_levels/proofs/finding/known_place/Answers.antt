use Rattle.som_compat_levels.specs.Standing.{classes_of}
use Rattle.som_compat_levels.proofs.Keyed.{missing_known}
use Rattle.som_compat_levels.proofs.finding.known_place.Goals as goal

pub returns-in-None-clause-below : goal.returns-in-None-clause-below
returns-in-None-clause-below c = absurd (missing_known (classes_of c.args.classes.now) c.args.key.now c.requires c.in-None.ensures.finds)

pub returns-in-None-clause-is : goal.returns-in-None-clause-is
returns-in-None-clause-is c = absurd (missing_known (classes_of c.args.classes.now) c.args.key.now c.requires c.in-None.ensures.finds)
