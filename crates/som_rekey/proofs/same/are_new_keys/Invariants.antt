use Rattle.std.proofs.Common.{◌≡◌, map, take}
use Rattle.som_rekey_laws.specs.Rekeying.{rekey}
use Rattle.som_rekey.proofs.same.are_new_keys.Given as goal

abbrev pub invariant-loop-i : goal.invariant-loop-i
invariant-loop-i g l = take l.i l.news ≡ map (rekey (g.C.NewModules.change l.change)) (take l.i l.olds)
