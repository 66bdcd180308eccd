use Rattle.std.proofs.Common.{rules, ◌≡◌, ℕ, List, ◌++◌, None, refl, sym, ap, ◌∙◌, subst, arith}
use Rattle.std.specs.List.{concat, flat_map}
use Rattle.som_io.specs.Outside.{Shows, ShowsFront}
use Rattle.som_trace.specs.Pieces.{AreParts, part_pieces, pieces_left}
use Rattle.som_io.proofs.ShownLaws.{all_left}
use Rattle.som_trace.proofs.Lines.{begins, piece_goes, piece_fronts, ends_front}
use Rattle.som_trace.proofs.Parts.{turned, parts_turned}
use Rattle.som_trace.proofs.Steps.{next_text, no_text}
use Rattle.som_trace.proofs.line.send_parts.Goals as goal

pub returns-in_err-left-clause-front : goal.returns-in_err-left-clause-front
returns-in_err-left-clause-front g c =
    let t = concat (flat_map (part_pieces (g.N.ClassKeys.known c.args.classes.now)) c.args.parts.now) in
    (t, all_left (g.K.Sink.written c.args.out.now) t)

pub loop-waiting-init : goal.loop-waiting-init
loop-waiting-init g c =
    let k = g.N.ClassKeys.known c.args.classes.now in
    record {
      shown = begins (g.K.Sink.written c.args.out.now) (concat (flat_map (part_pieces k) c.args.parts.now)) c.new-waiting.result.items (concat (pieces_left k c.in_ok-left.left.items))
          c.new-waiting.ensures.items (ap concat (ap (pieces_left k) c.in_ok-left.ensures ∙ turned k c.args.parts.now));
      parts = subst (AreParts k) (sym c.in_ok-left.ensures) (parts_turned k c.args.parts.now c.requires);
      later = omega arith;
      calm_stays = λ h. h;
      calm_count = λ h. refl;
    }

pub loop-waiting-preserved : goal.loop-waiting-preserved
loop-waiting-preserved g c =
    let k = g.N.ClassKeys.known c.args.classes.now in
    let first = g.K.Sink.written c.args.out.now in
    let old = g.K.Sink.written c.loop-waiting.out in
    let new = g.K.Sink.written c.add.new.out in
    let text = concat (flat_map (part_pieces k) c.args.parts.now) in
    let next = next_text (pieces_left k c.loop-waiting.left.items) (pieces_left k c.next_piece.new.left.items) c.in_ok-piece.field-0 c.in-Some.piece c.in_ok-piece.ensures.piece c.in-Some.is in
    record {
      shown = piece_goes first old new text c.loop-waiting.waiting.items c.add.new.waiting.items c.in-Some.piece.now (concat (pieces_left k c.next_piece.new.left.items))
          (subst (λ (t : List ℕ). Shows first old text (c.loop-waiting.waiting.items ++ t)) next c.loop-waiting.invariant.shown) c.in_ok-add.ensures.ok;
      parts = c.in_ok-piece.ensures.parts;
      later = omega arith;
      calm_stays = λ h. c.add.ensures.calm_stays (c.loop-waiting.invariant.calm_stays h);
      calm_count = λ h. c.add.ensures.calm_count (c.loop-waiting.invariant.calm_stays h) ∙ c.loop-waiting.invariant.calm_count h;
    }

pub returns-in_err-add-clause-front : goal.returns-in_err-add-clause-front
returns-in_err-add-clause-front g c =
    let k = g.N.ClassKeys.known c.args.classes.now in
    let first = g.K.Sink.written c.args.out.now in
    let old = g.K.Sink.written c.loop-waiting.out in
    let new = g.K.Sink.written c.add.new.out in
    let text = concat (flat_map (part_pieces k) c.args.parts.now) in
    let next = next_text (pieces_left k c.loop-waiting.left.items) (pieces_left k c.next_piece.new.left.items) c.in_ok-piece.field-0 c.in-Some.piece c.in_ok-piece.ensures.piece c.in-Some.is in
    piece_fronts first old new text c.loop-waiting.waiting.items c.in-Some.piece.now (concat (pieces_left k c.next_piece.new.left.items))
    (subst (λ (t : List ℕ). Shows first old text (c.loop-waiting.waiting.items ++ t)) next c.loop-waiting.invariant.shown) c.add.ensures.front

pub returns-clause-front : goal.returns-clause-front
returns-clause-front g c =
    let k = g.N.ClassKeys.known c.args.classes.now in
    let first = g.K.Sink.written c.args.out.now in
    let old = g.K.Sink.written c.loop-waiting.out in
    let new = g.K.Sink.written c.send_all.new.out in
    let text = concat (flat_map (part_pieces k) c.args.parts.now) in
    let none : c.in_ok-piece.field-0 ≡ None = search rules in
    let over = no_text (pieces_left k c.loop-waiting.left.items) (pieces_left k c.next_piece.new.left.items) c.in_ok-piece.field-0 c.in_ok-piece.ensures.piece none in
    ends_front first old new text c.loop-waiting.waiting.items
    (subst (λ (t : List ℕ). Shows first old text (c.loop-waiting.waiting.items ++ t)) over c.loop-waiting.invariant.shown)
    (subst (ShowsFront old new) c.as_slice.ensures.value c.send_all.ensures.front)
