use Rattle.std.proofs.Common.{◌≡◌, ◌≤◌, take}
use Rattle.som_tasks.specs.Stage.{HaveTurned}
use Rattle.som_tasks.specs.Taken.{clients_of}
use Rattle.som_tasks.proofs.all_turns.take_turns.Given as goal

-- so many turns were taken, and a calm sink is so still
abbrev pub invariant-loop-turn : goal.invariant-loop-turn
invariant-loop-turn g l = record {
  turned : HaveTurned g.R.Classes.keys g.R.Classes.world g.R.Runtime.linked g.R.ClassKeys.known g.R.Runtime.program g.R.Classes.made (clients_of g.R.Classes.world g.R.Runtime.program l.initial.kernels) (take l.turn-index l.turns)
      (g.K.Sink.written l.initial.out) (g.K.Sink.written l.out) l.initial.objects l.objects l.initial.kernels l.kernels l.clients l.ends;
  later : g.K.Sink.faults l.initial.out ≤ g.K.Sink.faults l.out;
  stays : g.K.Sink.calm l.initial.out → g.K.Sink.calm l.out;
  count : g.K.Sink.calm l.initial.out → g.K.Sink.faults l.out ≡ g.K.Sink.faults l.initial.out;
}
