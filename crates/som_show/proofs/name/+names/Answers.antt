use Rattle.som_model.specs.ClassNames.{class_name}
use Rattle.som_show.proofs.Joined.{names_done}
use Rattle.som_show.proofs.name.+names.Goals as goal

pub add_classes-returns-after-loop-key : goal.add_classes-returns-after-loop-key
add_classes-returns-after-loop-key t c =
    names_done class_name c.args.keys.now c.first-item.result c.loop-key.key-index c.args.line.now.items c.add_class.new.line.items c.loop-key.line.items
    c.in-len1-up.len_at_least c.first-item.is c.in_ok-add_class.ensures c.loop-key-test.false c.loop-key.invariant
