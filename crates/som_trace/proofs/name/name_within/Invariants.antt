use Rattle.std.proofs.Common.{◌≡◌, ◌≤◌, ◌++◌, length}
use Rattle.std.specs.List.{concat}
use Rattle.som_meta.specs.Numbering.{key_at}
use Rattle.som_model.specs.ClassNames.{class_name}
use Rattle.som_trace.specs.Pieces.{AreParts, pieces_left}
use Rattle.som_trace.proofs.name.name_within.Given as goal

abbrev pub invariant-loop-bytes : goal.invariant-loop-bytes
invariant-loop-bytes g l =
    let k = g.N.ClassKeys.known l.classes in
    record {
      name : l.bytes.items ++ concat (pieces_left k l.left.items) ≡ class_name (key_at k l.fn.class);
      parts : AreParts k l.left.items;
      few : length l.bytes.items ≤ l.most;
    }

abbrev pub decreases-loop-bytes : goal.decreases-loop-bytes
decreases-loop-bytes g l = length (pieces_left (g.N.ClassKeys.known l.classes) l.left.items)
