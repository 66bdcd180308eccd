use Rattle.std.proofs.Common.{◌≡◌, map, take}
use Rattle.som_image_encode.specs.NumberedBlocks.{expr_numbered}
use Rattle.som_image_encode.proofs.numbered_expr.+numbered_expr.Given as goal

abbrev pub invariant-number_each-loop-expr : goal.invariant-number_each-loop-expr
invariant-number_each-loop-expr l = l.numbered ≡ map (expr_numbered l.directory) (take l.expr-index l.exprs)
