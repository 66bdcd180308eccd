use Rattle.std.proofs.Common.{take}
use Rattle.som_elab_methods.specs.Grouped.{groups_of}
use Rattle.som_elab_methods.specs.Texts.{given}
use Rattle.som_order.specs.Names.{texts}
use Rattle.som_elab_methods.proofs.Grouping.{text_more}
use Rattle.som_elab_methods.proofs.grouped.ModuleTexts.grouped.Goals as goal

pub loop-text-preserved : goal.loop-text-preserved
loop-text-preserved c = text_more c.args.all.now c.loop-text.text-index c.text-item.result _ (texts c.add_text.new.classes.keys) (groups_of c.add_text.new.groups.items) c.loop-text-test.true c.text-item.is
    (c.in_ok-add_text.ensures (given (take c.loop-text.text-index c.args.all.now)) c.loop-text.invariant)
