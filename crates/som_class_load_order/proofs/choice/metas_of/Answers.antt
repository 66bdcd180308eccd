use Rattle.std.proofs.Common.{◌<◌, ◌∙◌, ap, arith, length}
use Rattle.som_class_ids.proofs.Items.{item_at, item_mem}
use Rattle.som_class_load_order.specs.Metas.{meta_at}
use Rattle.som_class_load_order.proofs.Choosing.{metas_more}
use Rattle.som_class_load_order.proofs.choice.metas_of.Goals as goal

pub bounds-metas-number : goal.bounds-metas-number
bounds-metas-number c =
    let h = c.requires c.class-item.result (item_mem c.args.classes.now c.loop-class.class-index c.class-item.result c.loop-class-test.true c.class-item.is) in
    omega (arith, h, c.number.ensures)

pub loop-class-preserved : goal.loop-class-preserved
loop-class-preserved c =
    let h = c.requires c.class-item.result (item_mem c.args.classes.now c.loop-class.class-index c.class-item.result c.loop-class-test.true c.class-item.is) in
    let within : c.number.result < length c.args.metas.now = omega (arith, h, c.number.ensures) in
    rw c.in_ok-push.ensures.ok
    (metas_more c.args.metas.now c.args.classes.now c.loop-class.list c.loop-class.class-index c.class-item.result c.index-metas-number.result c.loop-class-test.true c.class-item.is c.loop-class.invariant
    (item_at c.args.metas.now c.number.result c.index-metas-number.result 0 within c.index-metas-number.is ∙ ap (meta_at c.args.metas.now) c.number.ensures))
