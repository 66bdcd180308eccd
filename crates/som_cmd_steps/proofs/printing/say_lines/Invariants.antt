use Rattle.std.proofs.Common.{◌≤◌, take}
use Rattle.std.specs.List.{concat}
use Rattle.som_io.specs.Outside.{ShowsAll}
use Rattle.som_cmd_steps.proofs.printing.say_lines.Given as goal

abbrev pub invariant-loop-line : goal.invariant-loop-line
invariant-loop-line g l = record {
  shown : ShowsAll (g.K.Sink.written l.fn.out) (g.K.Sink.written l.out) (concat (take l.line-index l.lines));
  later : g.K.Sink.faults l.fn.out ≤ g.K.Sink.faults l.out;
  calm : g.K.Sink.calm l.fn.out → g.K.Sink.calm l.out;
}
