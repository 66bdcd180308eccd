use Rattle.std.proofs.Common.{◌≡◌, ◌≤◌, take}
use Rattle.std.specs.List.{count_by}
use Rattle.som_image_classes.specs.ReadClasses.{is_introduced}
use Rattle.som_image_classes.proofs.parts.introduced_count.Given as goal

-- the introduced entries so far
abbrev pub invariant-loop-entry : goal.invariant-loop-entry
invariant-loop-entry l = record {
  so_far : l.count ≡ count_by is_introduced (take l.entry-index l.entry-items);
  small : l.count ≤ l.entry-index;
}
