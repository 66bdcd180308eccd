use Rattle.std.proofs.Common.{◌∙◌, arith}
use Rattle.som_class_ids.proofs.Items.{item_mem}
use Rattle.som_class_table.proofs.Bodies.{first_parent}
use Rattle.som_class_table.proofs.classes.Classes.target.Goals as goal

pub returns-clause-numbered : goal.returns-clause-numbered
returns-clause-numbered c =
    let ps = c.parents.result.now in
    let some = first_parent c.args.self.now ps c.requires.proxy.of (c.parents.ensures.keys ∙ c.requires.proxy.parents) in
    let low = c.parents.ensures.lower c.index-as_slice-0.result (item_mem ps 0 c.index-as_slice-0.result some (rw c.as_slice.ensures at c.index-as_slice-0.is)) in
    omega (arith, low, c.requires.numbered)
