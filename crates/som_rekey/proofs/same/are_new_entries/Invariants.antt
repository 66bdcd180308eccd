use Rattle.std.proofs.Common.{◌≡◌, map, take}
use Rattle.som_rekey_laws.specs.Rekeying.{rekey_entry}
use Rattle.som_rekey.proofs.same.are_new_entries.Given as goal

abbrev pub invariant-loop-i : goal.invariant-loop-i
invariant-loop-i g l = take l.i l.news ≡ map (rekey_entry (g.C.NewModules.change l.change)) (take l.i l.olds)
