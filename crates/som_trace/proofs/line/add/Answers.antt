use Rattle.std.proofs.Common.{◌++◌, subst}
use Rattle.som_io.specs.Outside.{ShowsAll, ShowsFront}
use Rattle.som_io.proofs.ShownLaws.{all_left, front_longer}
use Rattle.som_trace.proofs.Lines.{whole, front_onward}
use Rattle.som_trace.proofs.line.add.Goals as goal

pub returns-in_err-extend_from_slice-clause-front : goal.returns-in_err-extend_from_slice-clause-front
returns-in_err-extend_from_slice-clause-front g c =
    let t = c.args.waiting.now.items ++ c.args.piece.now in
    (t, all_left (g.K.Sink.written c.args.out.now) t)

pub returns-in_err-send_all-clause-front : goal.returns-in_err-send_all-clause-front
returns-in_err-send_all-clause-front g c =
    let old = g.K.Sink.written c.args.out.now in
    let new = g.K.Sink.written c.send_all.new.out in
    front_longer old new c.args.waiting.now.items c.args.piece.now (subst (ShowsFront old new) c.as_slice.ensures.value c.send_all.ensures.front)

pub returns-clause-front : goal.returns-clause-front
returns-clause-front g c =
    let old = g.K.Sink.written c.args.out.now in
    let mid = g.K.Sink.written c.send_all.new.out in
    let new = g.K.Sink.written c.send_all-2.new.out in
    front_onward old mid new (c.args.waiting.now.items ++ c.args.piece.now) c.args.piece.now
    (whole old mid c.args.waiting.now.items c.args.piece.now (subst (ShowsAll old mid) c.as_slice.ensures.value c.in_ok-send_all.ensures.ok))
    c.send_all-2.ensures.front
