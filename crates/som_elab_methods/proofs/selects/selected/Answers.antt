use Rattle.std.proofs.Common.{length}
use Rattle.som_elab_methods.proofs.Selecting.{all_selected}
use Rattle.som_elab_methods.proofs.selects.selected.Goals as goal

pub returns : goal.returns
returns c = all_selected c.args.items.now c.loop-item.item-index (length c.loop-item.all.items) c.loop-item-test.false c.loop-item.invariant
