use Rattle.std.proofs.Common.{◌≡◌, ◌+◌, ◌*◌, map, max, take}
use Rattle.som_model.specs.declared.syntax.Expr.{size-Expr}
use Rattle.som_rekey_laws.specs.Rekeying.{rekey_expr}
use Rattle.som_rekey.proofs.syntax.+rekey_expr.Given as goal

abbrev pub invariant-rekey_exprs-loop-e : goal.invariant-rekey_exprs-loop-e
invariant-rekey_exprs-loop-e g l = l.copies ≡ map (rekey_expr (g.C.NewModules.change l.change)) (take l.e-index l.es)

abbrev pub decreases-rekey_expr : goal.decreases-rekey_expr
decreases-rekey_expr g l = 4 * size-Expr l.expr.now + 1

abbrev pub decreases-rekey_call : goal.decreases-rekey_call
decreases-rekey_call g l = 4 * size-Expr l.call.now

abbrev pub decreases-rekey_boxed : goal.decreases-rekey_boxed
decreases-rekey_boxed g l = 4 * size-Expr l.e.now + 2

abbrev pub decreases-rekey_exprs : goal.decreases-rekey_exprs
decreases-rekey_exprs g l = 4 * goal.size-rekey_exprs g l + 2

abbrev pub decreases-rekey_binary : goal.decreases-rekey_binary
decreases-rekey_binary g l = 4 * (max (size-Expr l.left.now) (size-Expr l.right.now)) + 3

abbrev pub decreases-rekey_host : goal.decreases-rekey_host
decreases-rekey_host g l = 4 * (max (size-Expr l.a.now) (size-Expr l.b.now)) + 3

abbrev pub decreases-rekey_cast : goal.decreases-rekey_cast
decreases-rekey_cast g l = 4 * (size-Expr l.of.now) + 3

abbrev pub decreases-rekey_isa : goal.decreases-rekey_isa
decreases-rekey_isa g l = 4 * (size-Expr l.of.now) + 3

abbrev pub decreases-rekey_proxy : goal.decreases-rekey_proxy
decreases-rekey_proxy g l = 4 * (size-Expr l.of.now) + 3

abbrev pub decreases-rekey_offset_call : goal.decreases-rekey_offset_call
decreases-rekey_offset_call g l = 4 * (max (goal.size-rekey_offset_call g l) (size-Expr l.receiver.now)) + 3

abbrev pub decreases-rekey_lookup : goal.decreases-rekey_lookup
decreases-rekey_lookup g l = 4 * (max (goal.size-rekey_lookup g l) (size-Expr l.receiver.now)) + 3

abbrev pub decreases-rekey_dispatch : goal.decreases-rekey_dispatch
decreases-rekey_dispatch g l = 4 * (max (goal.size-rekey_dispatch g l) (size-Expr l.receiver.now)) + 3

abbrev pub decreases-rekey_parent_call : goal.decreases-rekey_parent_call
decreases-rekey_parent_call g l = 4 * (goal.size-rekey_parent_call g l) + 3

abbrev pub decreases-rekey_parents_call : goal.decreases-rekey_parents_call
decreases-rekey_parents_call g l = 4 * (goal.size-rekey_parents_call g l) + 3
