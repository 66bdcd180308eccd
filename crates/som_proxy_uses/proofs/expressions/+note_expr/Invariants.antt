use Rattle.std.proofs.Common.{◌≡◌, ◌+◌, ◌*◌, ◌++◌, max, map, drop}
use Rattle.som_model.specs.declared.syntax.Expr.{size-Expr}
use Rattle.som_model.specs.Lists.{joined}
use Rattle.som_proxy_uses.specs.Forms.{expr_proxies}
use Rattle.som_proxy_uses.specs.Proxied.{proxies_of}
use Rattle.som_proxy_uses.proofs.expressions.+note_expr.Given as goal

-- what is noted, and then what the arguments that are left name, is what all name
abbrev pub invariant-note_args-loop-arg : goal.invariant-note_args-loop-arg
invariant-note_args-loop-arg l =
    proxies_of l.named ++ joined (map expr_proxies (drop l.arg-index l.args)) ≡ proxies_of l.initial.named ++ joined (map expr_proxies l.args)

abbrev pub decreases-note_call : goal.decreases-note_call
decreases-note_call l = 5 * size-Expr l.e.now

abbrev pub decreases-note_expr : goal.decreases-note_expr
decreases-note_expr l = 5 * size-Expr l.e.now + 1

abbrev pub decreases-note_part : goal.decreases-note_part
decreases-note_part l = 5 * size-Expr l.part.now + 2

abbrev pub decreases-note_args : goal.decreases-note_args
decreases-note_args l = 5 * goal.size-note_args l + 2

abbrev pub decreases-note_both : goal.decreases-note_both
decreases-note_both l = 5 * max (size-Expr l.left.now) (size-Expr l.right.now) + 3

abbrev pub decreases-note_all : goal.decreases-note_all
decreases-note_all l = 5 * max (goal.size-note_all l) (size-Expr l.receiver.now) + 3
