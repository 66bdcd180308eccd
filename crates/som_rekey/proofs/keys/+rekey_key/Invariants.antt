use Rattle.std.proofs.Common.{◌≡◌, map, take}
use Rattle.som_rekey_laws.specs.Rekeying.{rekey}
use Rattle.som_rekey.proofs.keys.+rekey_key.Given as goal

abbrev pub invariant-rekey_keys-loop-key : goal.invariant-rekey_keys-loop-key
invariant-rekey_keys-loop-key g l = l.copies ≡ map (rekey (g.C.NewModules.change l.change)) (take l.key-index l.keys)
