use Rattle.som_elab_methods.proofs.LimitLaws as laws
use Rattle.som_elab_methods.proofs.laws.limits_law.Goals as goal

pub returns : goal.returns
returns c = laws.limits_law
