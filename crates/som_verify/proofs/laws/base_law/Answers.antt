use Rattle.som_verify.proofs.BaseAlone.{base_keeps}
use Rattle.som_verify.proofs.laws.base_law.Goals as goal

pub returns : goal.returns
returns c = base_keeps
