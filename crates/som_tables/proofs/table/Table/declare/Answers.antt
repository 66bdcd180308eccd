use Rattle.std.proofs.Common.{◌++◌, ◌∷◌, [], None}
use Rattle.som_tables.proofs.Laid.{IsTable-declare}
use Rattle.som_tables.proofs.LateRows.{row_at-declare}
use Rattle.som_tables.proofs.Inherited.{inherited_equal}
use Rattle.som_tables.proofs.table.Table.declare.Goals as goal

pub invariant_of-self-2 : goal.invariant_of-self-2
invariant_of-self-2 g c = rw (c.in_ok-push.ensures.items, c.in_ok-push-2.ensures.items, c.reserve.ensures.items) (IsTable-declare c.self.inside.rows.items c.self.inside.lines.items c.self.inside.starts.items c.self.inside.cells.items c.self.invariant)

pub returns-clause-rows : goal.returns-clause-rows
returns-clause-rows g c = λ n lt t.
    rw (c.in_ok-push.ensures.items, ← c.self.view_is) (inherited_equal c.self.inside.rows.items (c.self.inside.rows.items ++ None ∷ []) (row_at-declare c.self.inside.rows.items) n t)
