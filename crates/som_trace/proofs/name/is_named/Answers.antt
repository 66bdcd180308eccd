use Rattle.std.proofs.Common.{ℕ, List, ◌++◌, Some, None, sym, ap, ◌∙◌, subst}
use Rattle.std.specs.List.{concat}
use Rattle.std.specs.Str.{bytes_eq}
use Rattle.std.proofs.lemmas.Bool.Decides.{Decides-eqb}
use Rattle.std.proofs.lemmas.Slice.Eq.{strip_prefix_is}
use Rattle.som_trace.specs.Pieces.{AreParts, pieces_left}
use Rattle.som_trace.proofs.Compared.{same_front, differs}
use Rattle.som_trace.proofs.Steps.{next_text, whole_is}
use Rattle.som_trace.proofs.name.is_named.Goals as goal

pub loop-left-init : goal.loop-left-init
loop-left-init g c =
    let k = g.N.ClassKeys.known c.args.classes.now in
    let all = concat (pieces_left k c.in_ok-left.left.items) in
    record {
      same = ap (bytes_eq c.args.name.now) (sym (whole_is k c.in_ok-left.left.items c.args.class c.in_ok-left.ensures)) ∙ ap (λ (t : List ℕ). bytes_eq t all) (sym c.as_slice-rest.ensures);
      parts = subst (AreParts k) (sym c.in_ok-left.ensures) (c.requires, tt);
    }

pub returns-in-None : goal.returns-in-None
returns-in-None g c =
    let k = g.N.ClassKeys.known c.args.classes.now in
    let more = concat (pieces_left k c.next_piece.new.left.items) in
    let next = next_text (pieces_left k c.loop-left.left.items) (pieces_left k c.next_piece.new.left.items) c.in_ok-piece.field-0 c.in-Some.piece c.in_ok-piece.ensures.piece c.in-Some.is in
    sym (c.loop-left.invariant.same ∙ ap (bytes_eq c.loop-left.rest.now) next
    ∙ differs c.loop-left.rest.now c.in-Some.piece.now more (strip_prefix_is Decides-eqb c.loop-left.rest.now c.in-Some.piece.now None c.in-None.ensures.cases))

pub loop-left-preserved : goal.loop-left-preserved
loop-left-preserved g c =
    let k = g.N.ClassKeys.known c.args.classes.now in
    let more = concat (pieces_left k c.next_piece.new.left.items) in
    let next = next_text (pieces_left k c.loop-left.left.items) (pieces_left k c.next_piece.new.left.items) c.in_ok-piece.field-0 c.in-Some.piece c.in_ok-piece.ensures.piece c.in-Some.is in
    let front = strip_prefix_is Decides-eqb c.loop-left.rest.now c.in-Some.piece.now (Some c.in-Some-strip_prefix.after) c.in-Some-strip_prefix.ensures.cases in
    record {
      same = c.loop-left.invariant.same ∙ ap (bytes_eq c.loop-left.rest.now) next
          ∙ ap (λ (t : List ℕ). bytes_eq t (c.in-Some.piece.now ++ more)) front
          ∙ same_front c.in-Some.piece.now c.in-Some-strip_prefix.after.now more;
      parts = c.in_ok-piece.ensures.parts;
    }
