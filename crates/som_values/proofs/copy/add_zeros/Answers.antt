use Rattle.std.proofs.Common.{arith}
use Rattle.som_values.proofs.NewCells.{zeros_all, zeros_none, zeros_on}
use Rattle.som_values.proofs.copy.add_zeros.Goals as goal

pub loop-variable-init : goal.loop-variable-init
loop-variable-init c = λ types zeros. zeros_none types c.args.cells.now zeros

pub loop-variable-preserved : goal.loop-variable-preserved
loop-variable-preserved c = λ types zeros.
    zeros_on types c.args.variables.now c.loop-variable.variable-index c.variable-item.result c.loop-variable.cells c.push.new.self c.zero.result
    c.loop-variable-test.true c.variable-item.is c.in_ok-push.ensures.ok c.zero.ensures.means c.zero.ensures.seen c.zero.ensures.kept (c.loop-variable.invariant types zeros)

pub returns : goal.returns
returns c = λ types zeros. zeros_all types c.args.variables.now c.loop-variable.variable-index c.loop-variable.cells (omega (arith, c.loop-variable-test.false)) (c.loop-variable.invariant types zeros)
