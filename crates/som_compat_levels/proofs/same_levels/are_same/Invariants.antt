use Rattle.std.proofs.Common.{◌≡◌, take}
use Rattle.som_compat_levels.proofs.same_levels.are_same.Given as goal

abbrev pub invariant-loop-i : goal.invariant-loop-i
invariant-loop-i l = take l.i l.olds ≡ take l.i l.news
