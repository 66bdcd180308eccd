use Rattle.std.proofs.Common.{◌≡◌, ◌≤◌, length}
use Rattle.som_io.specs.Outside.{Shows}
use Rattle.som_io.proofs.line.send.Given as goal

abbrev pub invariant-loop-rest : goal.invariant-loop-rest
invariant-loop-rest g l = record {
  shown : Shows (g.K.Sink.written l.fn.out) (g.K.Sink.written l.out) l.line l.rest;
  later : g.K.Sink.faults l.fn.out ≤ g.K.Sink.faults l.out;
  calm_stays : g.K.Sink.calm l.fn.out → g.K.Sink.calm l.out;
  calm_count : g.K.Sink.calm l.fn.out → g.K.Sink.faults l.out ≡ g.K.Sink.faults l.fn.out;
}

abbrev pub decreases-loop-rest : goal.decreases-loop-rest
decreases-loop-rest g l = length l.rest
