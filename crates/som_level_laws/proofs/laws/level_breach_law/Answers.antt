use Rattle.som_level_laws.proofs.Breaks.{kept_none, none_kept}
use Rattle.som_level_laws.proofs.laws.level_breach_law.Goals as goal

pub returns : goal.returns
returns c = λ olds news oo on. (kept_none olds news oo on, none_kept olds news oo on)
