use Rattle.std.proofs.Common.{◌≡◌, ◌≤◌, ◌++◌, length}
use Rattle.std.specs.List.{concat, flat_map}
use Rattle.som_io.specs.Outside.{Shows}
use Rattle.som_trace.specs.Pieces.{AreParts, part_pieces, pieces_left}
use Rattle.som_trace.proofs.line.send_parts.Given as goal

abbrev pub invariant-loop-waiting : goal.invariant-loop-waiting
invariant-loop-waiting g l =
    let k = g.N.ClassKeys.known l.classes in
    record {
      shown : Shows (g.K.Sink.written l.fn.out) (g.K.Sink.written l.out) (concat (flat_map (part_pieces k) l.parts)) (l.waiting.items ++ concat (pieces_left k l.left.items));
      parts : AreParts k l.left.items;
      later : g.K.Sink.faults l.fn.out ≤ g.K.Sink.faults l.out;
      calm_stays : g.K.Sink.calm l.fn.out → g.K.Sink.calm l.out;
      calm_count : g.K.Sink.calm l.fn.out → g.K.Sink.faults l.out ≡ g.K.Sink.faults l.fn.out;
    }

abbrev pub decreases-loop-waiting : goal.decreases-loop-waiting
decreases-loop-waiting g l = length (pieces_left (g.N.ClassKeys.known l.classes) l.left.items)
