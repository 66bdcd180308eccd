use Rattle.std.proofs.Common.{◌≡◌, ◌+◌, ◌*◌, max, take}
use Rattle.som_model.specs.declared.syntax.Expr.{size-Expr}
use Rattle.som_model.proofs.+copy_expr.Given as goal

abbrev pub invariant-copy_syntax::copy_exprs-loop-e : goal.invariant-copy_syntax::copy_exprs-loop-e
invariant-copy_syntax::copy_exprs-loop-e l = l.copies ≡ take l.e-index l.es

abbrev pub decreases-syntax::Expr::copy : goal.decreases-syntax::Expr::copy
decreases-syntax::Expr::copy l = 4 * size-Expr l.self.now + 1

abbrev pub decreases-copy_syntax::copy_call : goal.decreases-copy_syntax::copy_call
decreases-copy_syntax::copy_call l = 4 * size-Expr l.call.now

abbrev pub decreases-copy_syntax::copy_boxed : goal.decreases-copy_syntax::copy_boxed
decreases-copy_syntax::copy_boxed l = 4 * size-Expr l.e.now + 2

abbrev pub decreases-copy_syntax::copy_exprs : goal.decreases-copy_syntax::copy_exprs
decreases-copy_syntax::copy_exprs l = 4 * goal.size-copy_syntax::copy_exprs l + 2

abbrev pub decreases-copy_syntax::copy_binary : goal.decreases-copy_syntax::copy_binary
decreases-copy_syntax::copy_binary l = 4 * (max (size-Expr l.left.now) (size-Expr l.right.now)) + 3

abbrev pub decreases-copy_syntax::copy_host : goal.decreases-copy_syntax::copy_host
decreases-copy_syntax::copy_host l = 4 * (max (size-Expr l.a.now) (size-Expr l.b.now)) + 3

abbrev pub decreases-copy_syntax::copy_cast : goal.decreases-copy_syntax::copy_cast
decreases-copy_syntax::copy_cast l = 4 * (size-Expr l.of.now) + 3

abbrev pub decreases-copy_syntax::copy_isa : goal.decreases-copy_syntax::copy_isa
decreases-copy_syntax::copy_isa l = 4 * (size-Expr l.of.now) + 3

abbrev pub decreases-copy_syntax::copy_proxy : goal.decreases-copy_syntax::copy_proxy
decreases-copy_syntax::copy_proxy l = 4 * (size-Expr l.of.now) + 3

abbrev pub decreases-copy_syntax::copy_offset_call : goal.decreases-copy_syntax::copy_offset_call
decreases-copy_syntax::copy_offset_call l = 4 * (max (goal.size-copy_syntax::copy_offset_call l) (size-Expr l.receiver.now)) + 3

abbrev pub decreases-copy_syntax::copy_lookup : goal.decreases-copy_syntax::copy_lookup
decreases-copy_syntax::copy_lookup l = 4 * (max (goal.size-copy_syntax::copy_lookup l) (size-Expr l.receiver.now)) + 3

abbrev pub decreases-copy_syntax::copy_dispatch : goal.decreases-copy_syntax::copy_dispatch
decreases-copy_syntax::copy_dispatch l = 4 * (max (goal.size-copy_syntax::copy_dispatch l) (size-Expr l.receiver.now)) + 3

abbrev pub decreases-copy_syntax::copy_parent_call : goal.decreases-copy_syntax::copy_parent_call
decreases-copy_syntax::copy_parent_call l = 4 * (goal.size-copy_syntax::copy_parent_call l) + 3

abbrev pub decreases-copy_syntax::copy_parents_call : goal.decreases-copy_syntax::copy_parents_call
decreases-copy_syntax::copy_parents_call l = 4 * (goal.size-copy_syntax::copy_parents_call l) + 3
