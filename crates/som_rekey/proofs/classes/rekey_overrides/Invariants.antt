use Rattle.std.proofs.Common.{◌≡◌, map, take}
use Rattle.som_rekey_laws.specs.Rekeying.{rekey_override}
use Rattle.som_rekey.proofs.classes.rekey_overrides.Given as goal

abbrev pub invariant-loop-replaced : goal.invariant-loop-replaced
invariant-loop-replaced g l = l.copies ≡ map (rekey_override (g.C.NewModules.change l.change)) (take l.replaced-index l.overrides)
