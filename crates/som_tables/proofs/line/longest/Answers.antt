use Rattle.std.proofs.Common.{arith}
use Rattle.som_tables.proofs.NextPages.{end_more, end_all}
use Rattle.som_tables.proofs.line.longest.Goals as goal

pub loop-class-init : goal.loop-class-init
loop-class-init c = λ count le rest. rest

pub loop-class-preserved : goal.loop-class-preserved
loop-class-preserved c = λ count le rest.
    let q = c.class-item.result in
    c.loop-class.invariant count (omega (arith, c.longer-most.ensures.most, le))
    (end_more c.args.lines.now c.args.classes.now c.loop-class.class-index q count c.loop-class-test.true c.class-item.is (omega (arith, c.longer-most.ensures.class, le)) rest)

pub returns : goal.returns
returns c = c.loop-class.invariant c.loop-class.most (omega arith) (end_all c.args.lines.now c.args.classes.now c.loop-class.class-index c.loop-class.most c.loop-class-test.false)
