use Rattle.std.proofs.Common.{◌≡◌, drop, flat_map}
use Rattle.som_model.specs.Lists.{first}
use Rattle.som_elab_methods.specs.Limits.{entry_limits}
use Rattle.som_elab_methods.proofs.limits.entries_kept.Given as goal

abbrev pub invariant-loop-entry : goal.invariant-loop-entry
invariant-loop-entry l = first (flat_map entry_limits (drop l.entry-index l.entries)) ≡ first (flat_map entry_limits l.entries)
