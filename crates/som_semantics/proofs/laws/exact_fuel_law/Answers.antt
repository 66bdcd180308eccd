use Rattle.som_semantics.specs.Means.{main_act, beginning}
use Rattle.som_semantics.proofs.FuelLaws.{exact_same, exact_less}
use Rattle.som_semantics.proofs.Runs.{w, law, either}
use Rattle.som_semantics.proofs.laws.exact_fuel_law.Goals as goal

pub returns-clause-same : goal.returns-clause-same
returns-clause-same c r p fuel over = exact_same (main_act (w r p) p.main).does (law r p) fuel (beginning (w r p) fuel) over

pub returns-clause-less : goal.returns-clause-less
returns-clause-less c r p fuel over m less = exact_less (main_act (w r p) p.main).does (law r p) fuel (beginning (w r p) fuel) over m less

pub returns-clause-either : goal.returns-clause-either
returns-clause-either c r p fuel = either r p fuel
