use Rattle.std.proofs.Common.{◌≡◌, map, take}
use Rattle.som_rekey_laws.specs.Rekeying.{rekey_type}
use Rattle.som_rekey.proofs.same.are_new_types.Given as goal

abbrev pub invariant-loop-i : goal.invariant-loop-i
invariant-loop-i g l = take l.i l.news ≡ map (rekey_type (g.C.NewModules.change l.change)) (take l.i l.olds)
