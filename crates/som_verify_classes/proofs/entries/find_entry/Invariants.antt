use Rattle.std.proofs.Common.{◌≡◌, drop}
use Rattle.som_model.specs.Class.{entry_of}
use Rattle.som_verify_classes.proofs.entries.find_entry.Given as goal

abbrev pub invariant-loop-entry : goal.invariant-loop-entry
invariant-loop-entry l = entry_of (drop l.entry-index l.entries) l.name ≡ entry_of l.entries l.name
