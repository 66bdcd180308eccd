use Rattle.std.proofs.Common.{◌≤◌, arith, length}
use Rattle.som_class_bodies.proofs.Facts.{made_nothing}
use Rattle.som_class_bodies.proofs.replaced.selected_cells.Goals as goal

pub returns-else-is_declared : goal.returns-else-is_declared
returns-else-is_declared c =
    let le : length c.args.classes.now.classes ≤ c.args.class = grind (arith, c.is_declared.ensures, c.if-is_declared.false) in
    rw c.new.ensures (made_nothing c.args.classes.now c.requires.loaded c.args.table.now c.args.class c.requires.numbered le)
