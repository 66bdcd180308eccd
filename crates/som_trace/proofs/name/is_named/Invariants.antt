use Rattle.std.proofs.Common.{◌≡◌, length}
use Rattle.std.specs.List.{concat}
use Rattle.std.specs.Str.{bytes_eq}
use Rattle.som_meta.specs.Numbering.{key_at}
use Rattle.som_model.specs.ClassNames.{class_name}
use Rattle.som_trace.specs.Pieces.{AreParts, pieces_left}
use Rattle.som_trace.proofs.name.is_named.Given as goal

abbrev pub invariant-loop-left : goal.invariant-loop-left
invariant-loop-left g l =
    let k = g.N.ClassKeys.known l.classes in
    record {
      same : bytes_eq l.name (class_name (key_at k l.fn.class)) ≡ bytes_eq l.rest (concat (pieces_left k l.left.items));
      parts : AreParts k l.left.items;
    }

abbrev pub decreases-loop-left : goal.decreases-loop-left
decreases-loop-left g l = length (pieces_left (g.N.ClassKeys.known l.classes) l.left.items)
