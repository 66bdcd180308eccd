use Rattle.som_model.specs.Keys.{same_key}
use Rattle.som_model.proofs.SameLaws.{by_equality}
use Rattle.som_model.proofs.KeyLaws.{exact_keys}
use Rattle.som_model.proofs.key.ClassKey.is.Goals as goal

pub returns : goal.returns
returns c = by_equality same_key exact_keys c.args.self.now c.args.other.now c.are_one_key.result c.are_one_key.ensures
