use Rattle.std.proofs.Common.{◌≡◌, drop}
use Rattle.som_model.specs.Class.{entry_of, introduced_sig}
use Rattle.som_compat.proofs.signatures.introduced.Given as goal

abbrev pub invariant-loop-entry : goal.invariant-loop-entry
invariant-loop-entry l = introduced_sig (entry_of (drop l.entry-index l.entries) l.wanted) ≡ introduced_sig (entry_of l.entries l.wanted)
