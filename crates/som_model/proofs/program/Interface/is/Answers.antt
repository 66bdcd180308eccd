use Rattle.som_model.specs.Same.{same_interface}
use Rattle.som_model.proofs.SameLaws.{by_equality}
use Rattle.som_model.proofs.SameLaws.{exact_interfaces}
use Rattle.som_model.proofs.program.Interface.is.Goals as goal

pub returns : goal.returns
returns c = by_equality same_interface exact_interfaces c.args.self.now c.args.other.now c.are_one_interface.result c.are_one_interface.ensures
