use Rattle.std.proofs.Common.{◌<◌, ◌∙◌, arith}
use Rattle.som_meta.specs.Numbering.{key_at}
use Rattle.som_model.specs.Metaclass.{rank}
use Rattle.som_class_load_order.proofs.Choosing.{low_is, low_same, not_low}
use Rattle.som_class_load_order.proofs.choice.number_metaclass.Goals as goal

pub plan-requires-clause-high : goal.plan-requires-clause-high
plan-requires-clause-high c =
    let k = c.args.classes.now in
    not_low k.classes (key_at k c.args.class) (omega (arith, c.rank.ensures, c.if-rank-lt-KERNEL_CLASSES.false))

pub returns-then-rank-lt-KERNEL_CLASSES-clause-keys : goal.returns-then-rank-lt-KERNEL_CLASSES-clause-keys
returns-then-rank-lt-KERNEL_CLASSES-clause-keys c =
    let k = c.args.classes.now in
    low_same k c.requires.loaded (key_at k c.args.class) c.som_class.result (omega (arith, c.rank.ensures, c.if-rank-lt-KERNEL_CLASSES.true)) c.som_class.ensures.numbered c.som_class.ensures.key

pub returns-then-rank-lt-KERNEL_CLASSES-clause-class : goal.returns-then-rank-lt-KERNEL_CLASSES-clause-class
returns-then-rank-lt-KERNEL_CLASSES-clause-class c =
    let k = c.args.classes.now in
    let low : rank k.classes (key_at k c.args.class) < 4 = omega (arith, c.rank.ensures, c.if-rank-lt-KERNEL_CLASSES.true) in
    (c.som_class.ensures.numbered, c.som_class.ensures.key ∙ low_is k c.requires.loaded (key_at k c.args.class) low)

pub returns-clause-keys : goal.returns-clause-keys
returns-clause-keys c = rw c.in_ok-plan.ensures.meta at c.number_planned.ensures.keys

pub returns-clause-class : goal.returns-clause-class
returns-clause-class c = rw c.in_ok-plan.ensures.meta at c.number_planned.ensures.class
