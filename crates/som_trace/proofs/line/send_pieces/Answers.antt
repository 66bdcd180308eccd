use Rattle.std.proofs.Common.{◌∙◌, subst, arith}
use Rattle.std.specs.List.{concat}
use Rattle.som_io.specs.Outside.{ShowsFront}
use Rattle.som_trace.specs.Told.{bytes_of}
use Rattle.som_trace.proofs.Lines.{place_goes, place_fronts, over_fronts}
use Rattle.som_trace.proofs.line.send_pieces.Goals as goal

pub returns-in_err-add-clause-front : goal.returns-in_err-add-clause-front
returns-in_err-add-clause-front g c =
    place_fronts (g.K.Sink.written c.args.out.now) (g.K.Sink.written c.loop-piece.out) (g.K.Sink.written c.add.new.out)
    (concat (bytes_of c.args.pieces.now)) c.loop-piece.waiting.items c.args.pieces.now c.loop-piece.piece-index
    _ c.loop-piece-test.true c.loop-piece.invariant.shown c.add.ensures.front

pub loop-piece-preserved : goal.loop-piece-preserved
loop-piece-preserved g c = record {
  shown = place_goes (g.K.Sink.written c.args.out.now) (g.K.Sink.written c.loop-piece.out) (g.K.Sink.written c.add.new.out)
      (concat (bytes_of c.args.pieces.now)) c.loop-piece.waiting.items c.args.pieces.now c.loop-piece.piece-index
      _ c.add.new.waiting.items c.loop-piece-test.true c.loop-piece.invariant.shown c.in_ok-add.ensures.ok;
  later = omega arith;
  calm_stays = λ h. c.add.ensures.calm_stays (c.loop-piece.invariant.calm_stays h);
  calm_count = λ h. c.add.ensures.calm_count (c.loop-piece.invariant.calm_stays h) ∙ c.loop-piece.invariant.calm_count h;
}

pub returns-clause-front : goal.returns-clause-front
returns-clause-front g c =
    let old = g.K.Sink.written c.loop-piece.out in
    let new = g.K.Sink.written c.send_all.new.out in
    over_fronts (g.K.Sink.written c.args.out.now) old new
    (concat (bytes_of c.args.pieces.now)) c.loop-piece.waiting.items c.args.pieces.now c.loop-piece.piece-index
    c.loop-piece-test.false c.loop-piece.invariant.shown (subst (ShowsFront old new) c.as_slice.ensures.value c.send_all.ensures.front)
