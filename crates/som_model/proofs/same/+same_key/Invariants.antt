use Rattle.std.proofs.Common.{◌≡◌, take}
use Rattle.som_model.proofs.same.+same_key.Given as goal

abbrev pub invariant-are_one_keys-loop-i : goal.invariant-are_one_keys-loop-i
invariant-are_one_keys-loop-i l = take l.i l.a ≡ take l.i l.b
