use Rattle.std.proofs.Common.{◌≡◌, ℕ, List, ◌++◌, length, sym, ap, ◌∙◌, subst, arith}
use Rattle.std.specs.List.{concat}
use Rattle.som_trace.specs.Pieces.{AreParts, pieces_left}
use Rattle.som_trace.proofs.Steps.{whole_is}
use Rattle.som_trace.proofs.name.name_within.Goals as goal

pub loop-bytes-init : goal.loop-bytes-init
loop-bytes-init g c =
    let k = g.N.ClassKeys.known c.args.classes.now in
    let empty : length c.new-bytes.result.items ≡ 0 = ap length c.new-bytes.ensures.items in
    record {
      name = ap (λ (t : List ℕ). t ++ concat (pieces_left k c.in_ok-left.left.items)) c.new-bytes.ensures.items ∙ whole_is k c.in_ok-left.left.items c.args.class c.in_ok-left.ensures;
      parts = subst (AreParts k) (sym c.in_ok-left.ensures) (c.requires, tt);
      few = omega (arith, empty);
    }
