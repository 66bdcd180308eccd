use Rattle.std.proofs.Common.{◌≡◌, ◌+◌, ◌*◌, ◌++◌, length, map, max, drop}
use Rattle.som_model.specs.declared.syntax.Expr.{size-Expr}
use Rattle.som_code.specs.Laid.{lay_expr, lay_each}
use Rattle.som_code.proofs.expressions.+emit_expr.Given as goal

-- what is written, and then the arguments that are left, are all of them
abbrev pub invariant-emit_args-loop-arg : goal.invariant-emit_args-loop-arg
invariant-emit_args-loop-arg l =
    l.code.items ++ lay_each (map lay_expr (drop l.arg-index l.args)) (length l.code.items)
    ≡ l.initial.code.items ++ lay_each (map lay_expr l.args) (length l.initial.code.items)

abbrev pub decreases-emit_call : goal.decreases-emit_call
decreases-emit_call l = 6 * size-Expr l.e.now

abbrev pub decreases-emit_expr : goal.decreases-emit_expr
decreases-emit_expr l = 6 * size-Expr l.e.now + 1

abbrev pub decreases-emit_part : goal.decreases-emit_part
decreases-emit_part l = 6 * size-Expr l.part.now + 2

abbrev pub decreases-emit_and : goal.decreases-emit_and
decreases-emit_and l = 6 * size-Expr l.right.now + 3

abbrev pub decreases-emit_or : goal.decreases-emit_or
decreases-emit_or l = 6 * size-Expr l.right.now + 3

abbrev pub decreases-emit_right : goal.decreases-emit_right
decreases-emit_right l = 6 * size-Expr l.right.now + 4

abbrev pub decreases-emit_args : goal.decreases-emit_args
decreases-emit_args l = 6 * goal.size-emit_args l + 2

abbrev pub decreases-emit_offset_call : goal.decreases-emit_offset_call
decreases-emit_offset_call l = 6 * max (goal.size-emit_offset_call l) (size-Expr l.receiver.now) + 3

abbrev pub decreases-emit_lookup : goal.decreases-emit_lookup
decreases-emit_lookup l = 6 * max (goal.size-emit_lookup l) (size-Expr l.receiver.now) + 3

abbrev pub decreases-emit_dispatch : goal.decreases-emit_dispatch
decreases-emit_dispatch l = 6 * max (goal.size-emit_dispatch l) (size-Expr l.receiver.now) + 3

abbrev pub decreases-emit_parent_call : goal.decreases-emit_parent_call
decreases-emit_parent_call l = 6 * goal.size-emit_parent_call l + 3

abbrev pub decreases-emit_parents_call : goal.decreases-emit_parents_call
decreases-emit_parents_call l = 6 * goal.size-emit_parents_call l + 3

abbrev pub decreases-emit_cast : goal.decreases-emit_cast
decreases-emit_cast l = 6 * size-Expr l.of.now + 3

abbrev pub decreases-emit_isa : goal.decreases-emit_isa
decreases-emit_isa l = 6 * size-Expr l.of.now + 3

abbrev pub decreases-emit_proxy : goal.decreases-emit_proxy
decreases-emit_proxy l = 6 * size-Expr l.of.now + 3

abbrev pub decreases-emit_host_call : goal.decreases-emit_host_call
decreases-emit_host_call l = 6 * max (size-Expr l.a.now) (size-Expr l.b.now) + 3
