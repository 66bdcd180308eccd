use Rattle.std.proofs.Common.{◌+◌}
use Rattle.som_semantics.specs.Runs.{end_of}
use Rattle.som_semantics.specs.Means.{means}
use Rattle.som_semantics.proofs.FuelLaws.{more_events, more_objects, over_more, used_more}
use Rattle.som_semantics.proofs.Runs.{more}
use Rattle.som_semantics.proofs.laws.more_fuel_law.Goals as goal

pub returns-clause-over : goal.returns-clause-over
returns-clause-over c r p fuel k over = over_more k (means r p fuel) (means r p (fuel + k)) over (more r p fuel k)

pub returns-clause-events : goal.returns-clause-events
returns-clause-events c r p fuel k = more_events k (means r p fuel) (means r p (fuel + k)) (more r p fuel k)

pub returns-clause-objects : goal.returns-clause-objects
returns-clause-objects c r p fuel k = more_objects k (means r p fuel) (means r p (fuel + k)) (more r p fuel k)

pub returns-clause-used : goal.returns-clause-used
returns-clause-used c r p fuel k =
    used_more (end_of (means r p fuel)).events (end_of (means r p (fuel + k))).events (more_events k (means r p fuel) (means r p (fuel + k)) (more r p fuel k))
