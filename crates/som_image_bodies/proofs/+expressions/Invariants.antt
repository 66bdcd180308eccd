use Rattle.std.proofs.Common.{◌+◌, ◌*◌}
use Rattle.som_image_bodies.proofs.+expressions.Given as goal

-- the levels that are left, and below them the order in which the functions call each other

abbrev pub decreases-expr::read_tagged_expr : goal.decreases-expr::read_tagged_expr
decreases-expr::read_tagged_expr l = 16 * l.left + 9

abbrev pub decreases-expr::read_operation : goal.decreases-expr::read_operation
decreases-expr::read_operation l = 16 * l.left + 8

abbrev pub decreases-expr::read_class_form : goal.decreases-expr::read_class_form
decreases-expr::read_class_form l = 16 * l.left + 7

abbrev pub decreases-pair::read_pair : goal.decreases-pair::read_pair
decreases-pair::read_pair l = 16 * l.left + 6

abbrev pub decreases-pair::read_tagged_call : goal.decreases-pair::read_tagged_call
decreases-pair::read_tagged_call l = 16 * l.left + 5

abbrev pub decreases-pair::read_lookup : goal.decreases-pair::read_lookup
decreases-pair::read_lookup l = 16 * l.left + 4

abbrev pub decreases-pair::read_parent_call : goal.decreases-pair::read_parent_call
decreases-pair::read_parent_call l = 16 * l.left + 3

abbrev pub decreases-expr::read_args : goal.decreases-expr::read_args
decreases-expr::read_args l = 16 * l.left + 2

abbrev pub decreases-expr::read_args-read_many : goal.decreases-expr::read_args-read_many
decreases-expr::read_args-read_many l = 16 * l.left + 1

abbrev pub decreases-expr::read_operand : goal.decreases-expr::read_operand
decreases-expr::read_operand l = 16 * l.left + 1

abbrev pub decreases-expr::read_expr : goal.decreases-expr::read_expr
decreases-expr::read_expr l = 16 * l.left
