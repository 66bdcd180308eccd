use Rattle.std.proofs.Common.{ℕ, List, subst, arith}
use Rattle.som_io.specs.Outside.{ShowsAll, ShowsFront}
use Rattle.som_cmd_steps.proofs.SayLaws.{said_more, said_front}
use Rattle.som_cmd_steps.proofs.printing.say_lines.Goals as goal

pub returns-in-Failed-clause-front : goal.returns-in-Failed-clause-front
returns-in-Failed-clause-front g c =
    said_front (g.K.Sink.written c.args.out.now) (g.K.Sink.written c.loop-line.out) (g.K.Sink.written c.send.new.out) c.args.lines.now c.loop-line.line-index c.line-item.result
    c.loop-line-test.true c.line-item.is c.loop-line.invariant.shown
    (subst (λ (t : List ℕ). ShowsFront (g.K.Sink.written c.loop-line.out) (g.K.Sink.written c.send.new.out) t) c.as_slice.ensures c.in-Failed.ensures.text)

pub returns-in-NoMemory-clause-front : goal.returns-in-NoMemory-clause-front
returns-in-NoMemory-clause-front g c =
    said_front (g.K.Sink.written c.args.out.now) (g.K.Sink.written c.loop-line.out) (g.K.Sink.written c.send.new.out) c.args.lines.now c.loop-line.line-index c.line-item.result
    c.loop-line-test.true c.line-item.is c.loop-line.invariant.shown
    (subst (λ (t : List ℕ). ShowsFront (g.K.Sink.written c.loop-line.out) (g.K.Sink.written c.send.new.out) t) c.as_slice.ensures c.in-NoMemory.ensures.text)

pub loop-line-preserved : goal.loop-line-preserved
loop-line-preserved g c = record {
  shown = said_more (g.K.Sink.written c.args.out.now) (g.K.Sink.written c.loop-line.out) (g.K.Sink.written c.send.new.out) c.args.lines.now c.loop-line.line-index c.line-item.result
      c.loop-line-test.true c.line-item.is c.loop-line.invariant.shown
      (subst (λ (t : List ℕ). ShowsAll (g.K.Sink.written c.loop-line.out) (g.K.Sink.written c.send.new.out) t) c.as_slice.ensures c.in-Whole.ensures.text);
  later = omega arith;
  calm = λ h. c.in-Whole.ensures.calm_stays (c.loop-line.invariant.calm h);
}
