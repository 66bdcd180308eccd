use Rattle.std.proofs.Common.{◌≤◌, length}
use Rattle.som_image_classes.specs.NamedReading.{named_part_at}
use Rattle.som_image_classes.specs.ReadClasses.{introduced_count}
use Rattle.som_image_classes.proofs.EachFields.{ReadsEach}
use Rattle.som_image_classes.proofs.parts.read_each_part.Given as goal

-- the parts that were read, and those that are left
abbrev pub invariant-loop-face : goal.invariant-loop-face
invariant-loop-face l = record {
  reads : ReadsEach (λ f. named_part_at l.directory l.ranges (introduced_count f) l.bytes) l.faces l.fn.place l.value l.face-index l.next;
  within : l.next ≤ length l.bytes;
}
