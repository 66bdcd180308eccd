use Rattle.std.proofs.Common.{rules}
use Rattle.som_wire.proofs.Fits.{some_expr_parts}
use Rattle.som_wire.proofs.Written.{expr_appended}
use Rattle.som_wire.proofs.write_expr.+append_expr.Goals as goal

pub append_expr-append_head-requires : goal.append_expr-append_head-requires
append_expr-append_head-requires t c = some_expr_parts c.args.value.now c.requires

pub append_expr-append_operands-requires : goal.append_expr-append_operands-requires
append_expr-append_operands-requires t c = (search rules, some_expr_parts c.args.value.now c.requires)

pub append_expr-returns : goal.append_expr-returns
append_expr-returns t c = expr_appended c.args.out.now c.append_head.new.out c.append_operands.new.out c.args.value.now c.append_operands.result c.in_ok-append_head.ensures c.append_operands.ensures
