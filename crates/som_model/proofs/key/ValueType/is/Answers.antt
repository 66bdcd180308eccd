use Rattle.som_model.specs.Same.{same_type}
use Rattle.som_model.proofs.SameLaws.{by_equality}
use Rattle.som_model.proofs.SameLaws.{exact_types}
use Rattle.som_model.proofs.key.ValueType.is.Goals as goal

pub returns : goal.returns
returns c = by_equality same_type exact_types c.args.self.now c.args.other.now c.are_one_type.result c.are_one_type.ensures
