use Rattle.som_model.specs.Same.{same_sig}
use Rattle.som_model.proofs.SameLaws.{by_equality}
use Rattle.som_model.proofs.SameLaws.{exact_sigs}
use Rattle.som_model.proofs.class.Sig.is.Goals as goal

pub returns : goal.returns
returns c = by_equality same_sig exact_sigs c.args.self.now c.args.other.now c.are_one_sig.result c.are_one_sig.ensures
