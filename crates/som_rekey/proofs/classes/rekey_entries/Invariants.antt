use Rattle.std.proofs.Common.{◌≡◌, map, take}
use Rattle.som_rekey_laws.specs.Rekeying.{rekey_entry}
use Rattle.som_rekey.proofs.classes.rekey_entries.Given as goal

abbrev pub invariant-loop-entry : goal.invariant-loop-entry
invariant-loop-entry g l = l.copies ≡ map (rekey_entry (g.C.NewModules.change l.change)) (take l.entry-index l.entries)
