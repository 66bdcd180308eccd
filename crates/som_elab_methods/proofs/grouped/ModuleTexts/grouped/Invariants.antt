use Rattle.std.proofs.Common.{◌≡◌, take}
use Rattle.som_elab_methods.specs.Grouped.{AreGrouped, groups_of}
use Rattle.som_elab_methods.specs.Texts.{given}
use Rattle.som_order.specs.Names.{texts}
use Rattle.som_elab_methods.proofs.grouped.ModuleTexts.grouped.Given as goal

abbrev pub invariant-loop-text : goal.invariant-loop-text
invariant-loop-text l = AreGrouped (given (take l.text-index l.all)) (texts l.classes.keys) (groups_of l.groups.items)
