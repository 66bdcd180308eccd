use Rattle.std.proofs.Common.{arith}
use Rattle.som_class_ids.proofs.Items.{item_mem}
use Rattle.som_class_ids.proofs.position.note_all.Goals as goal

pub note-requires-clause-class : goal.note-requires-clause-class
note-requires-clause-class c =
    let h = c.requires.others c.other-item.result (item_mem c.args.others.now c.loop-other.other-index c.other-item.result c.loop-other-test.true c.other-item.is) in
    omega (arith, h, c.loop-other.invariant.long)
