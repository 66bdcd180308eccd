use Rattle.std.proofs.Common.{◌≡◌, ◌++◌, subst, sym}
use Rattle.std.specs.Prelude.{OnOk}
use Rattle.som_ast.specs.declared.interface.Item.{Item}
use Rattle.som_order.specs.Names.{texts}
use Rattle.som_sema_drafts.specs.Items.{word_in}
use Rattle.som_sema_local.proofs.single.add_word.Goals as goal

pub returns-in-ReleaseOrder : goal.returns-in-ReleaseOrder
returns-in-ReleaseOrder c = subst (λ (z : Item). OnOk c.add.result (texts c.add.new.names.items ≡ texts c.args.names.now.items ++ word_in z)) (sym c.in-ReleaseOrder.is) c.add.ensures.ok
