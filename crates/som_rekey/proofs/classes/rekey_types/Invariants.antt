use Rattle.std.proofs.Common.{◌≡◌, map, take}
use Rattle.som_rekey_laws.specs.Rekeying.{rekey_type}
use Rattle.som_rekey.proofs.classes.rekey_types.Given as goal

abbrev pub invariant-loop-kind : goal.invariant-loop-kind
invariant-loop-kind g l = l.copies ≡ map (rekey_type (g.C.NewModules.change l.change)) (take l.kind-index l.types)
