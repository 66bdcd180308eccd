use Rattle.std.proofs.Common.{◌≡◌, map, take}
use Rattle.som_rekey_laws.specs.Rekeying.{rekey_select}
use Rattle.som_rekey.proofs.classes.rekey_selects.Given as goal

abbrev pub invariant-loop-select : goal.invariant-loop-select
invariant-loop-select g l = l.copies ≡ map (rekey_select (g.C.NewModules.change l.change)) (take l.select-index l.selects)
