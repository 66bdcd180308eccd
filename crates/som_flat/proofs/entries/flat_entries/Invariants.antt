use Rattle.std.proofs.Common.{◌≡◌, ◌++◌, drop, map}
use Rattle.som_compat_levels.specs.Standing.{classes_of}
use Rattle.som_verify_classes.specs.Places.{key_at}
use Rattle.som_flat.specs.FlatFaces.{flat_entry_of}
use Rattle.som_flat.proofs.entries.flat_entries.Given as goal

abbrev pub invariant-loop-number : goal.invariant-loop-number
invariant-loop-number l =
    l.copies ++ map (flat_entry_of (classes_of l.classes) (key_at (classes_of l.classes) l.place)) (drop l.number l.entries) ≡ map (flat_entry_of (classes_of l.classes) (key_at (classes_of l.classes) l.place)) l.entries
