use Rattle.std.proofs.Common.{◌≡◌, length, arith}
use Rattle.std.specs.Vec.{vec_len}
use Rattle.som_tables.proofs.Options.{none_from_is_some}
use Rattle.som_tables.proofs.Laid.{IsTable-undeclare}
use Rattle.som_tables.proofs.table.Table.undeclare.Goals as goal

pub invariant_of-self : goal.invariant_of-self
invariant_of-self g c =
    let rows : vec_len c.self.inside.rows ≡ length c.self.inside.rows.items = omega arith in
    let lines : vec_len c.self.inside.lines ≡ length c.self.inside.lines.items = omega arith in
    rw (c.pop.ensures.rest, c.pop-2.ensures.rest, rows, lines)
    (IsTable-undeclare c.self.inside.rows.items c.self.inside.lines.items c.self.inside.starts.items c.self.inside.cells.items (none_from_is_some _ (rw c.self.view_is c.requires)) c.self.invariant)
