use Rattle.std.proofs.Common.{ℕ, List, ◌∷◌, ◌++◌, [], sym, ap, ◌∙◌}
use Rattle.som_meta.specs.Numbering.{key_at}
use Rattle.som_trace.specs.Pieces.{list_pieces, pieces_left}
use Rattle.som_trace.specs.declared.pieces.Part.TheVariants as parts
use Rattle.som_trace.proofs.Steps.{named_next, derived_next, proxy_next}
use Rattle.som_trace.proofs.pieces.begin_name.Goals as goal

pub returns-in-Named-clause-piece : goal.returns-in-Named-clause-piece
returns-in-Named-clause-piece g c =
    let k = g.N.ClassKeys.known c.args.classes.now in
    named_next k c.args.left.now.items (key_at k c.args.class) c.in-Named.module c.in-Named.name.now c.in-Named.ensures
    ∙ ap (λ (t : List ℕ). t ∷ pieces_left k c.args.left.now.items) (sym c.as_slice.ensures)

pub returns-in_ok-push_list-in-Derived-clause-piece : goal.returns-in_ok-push_list-in-Derived-clause-piece
returns-in_ok-push_list-in-Derived-clause-piece g c =
    let k = g.N.ClassKeys.known c.args.classes.now in
    derived_next k c.args.left.now.items c.push_list.new.left.items (key_at k c.args.class) c.in-Derived.parents.now c.in-Derived.ensures.0
    (c.in_ok-push_list-in-Derived.ensures.pieces k ∙ ap (λ (x : List ℕ). list_pieces k x ++ pieces_left k c.args.left.now.items) c.as_slice-in-Derived.ensures)

pub returns-in_ok-push_part-in-Proxy-2-clause-piece : goal.returns-in_ok-push_part-in-Proxy-2-clause-piece
returns-in_ok-push_part-in-Proxy-2-clause-piece g c =
    let k = g.N.ClassKeys.known c.args.classes.now in
    proxy_next k c.args.left.now.items c.push_part.new.left.items c.push_part-in-Proxy.new.left.items (key_at k c.args.class) c.in-Proxy.target c.in-Proxy.ensures.0
    c.in_ok-push_part-in-Proxy.ensures
    (c.in_ok-push_part-in-Proxy-2.ensures ∙ ap (λ (n : ℕ). c.push_part.new.left.items ++ parts.Name n ∷ []) c.number.ensures)
