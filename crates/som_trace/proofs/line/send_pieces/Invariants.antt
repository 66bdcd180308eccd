use Rattle.std.proofs.Common.{◌≡◌, ◌≤◌, ◌++◌, drop}
use Rattle.std.specs.List.{concat}
use Rattle.som_io.specs.Outside.{Shows}
use Rattle.som_trace.specs.Told.{bytes_of}
use Rattle.som_trace.proofs.line.send_pieces.Given as goal

abbrev pub invariant-loop-piece : goal.invariant-loop-piece
invariant-loop-piece g l = record {
  shown : Shows (g.K.Sink.written l.fn.out) (g.K.Sink.written l.out) (concat (bytes_of l.pieces)) (l.waiting.items ++ concat (bytes_of (drop l.piece-index l.pieces)));
  later : g.K.Sink.faults l.fn.out ≤ g.K.Sink.faults l.out;
  calm_stays : g.K.Sink.calm l.fn.out → g.K.Sink.calm l.out;
  calm_count : g.K.Sink.calm l.fn.out → g.K.Sink.faults l.out ≡ g.K.Sink.faults l.fn.out;
}
