use Rattle.som_model.specs.Classes.{classes}
use Rattle.som_semantics.specs.World.{world}
use Rattle.som_semantics.proofs.MadeLaws.{main_within}
use Rattle.som_semantics.proofs.laws.objects_law.Goals as goal

pub returns : goal.returns
returns c r p fuel = main_within (world (classes r p)) p.main fuel
