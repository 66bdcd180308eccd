use Rattle.som_witness.proofs.Numbers.{w_is}
use Rattle.som_witness.proofs.refusals.w_name_law.Goals as goal

pub returns : goal.returns
returns c = w_is
