use Rattle.std.proofs.Common.{[], refl}
use Rattle.som_tower.proofs.Unbroken.{none_stacked, stacked_none}
use Rattle.som_tower.proofs.laws.standing_law.Goals as goal

pub returns : goal.returns
returns c = λ base uppers ok. (none_stacked base uppers ok [] uppers refl tt, stacked_none base uppers ok [] uppers refl tt)
