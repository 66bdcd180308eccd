use Rattle.std.proofs.Common.{◌++◌, ◌∷◌, [], length, None, Some, is_some, ap}
use Rattle.som_tables.specs.Rows.{class_with}
use Rattle.som_tables.proofs.Options.{set-push}
use Rattle.som_tables.proofs.Inherited.{AreInherited_equal, tokens_from_row}
use Rattle.som_tables.proofs.LateRows.{row_at-declare, row_at-last_declared, GivesRow_equal}
use Rattle.som_tables.proofs.table.Table.add_class.Goals as goal

pub fill-requires-clause-inherited : goal.fill-requires-clause-inherited
fill-requires-clause-inherited g c =
    rw c.in_ok-class.ensures.declared (AreInherited_equal c.args.self.now (c.args.self.now ++ None ∷ []) (row_at-declare c.args.self.now) c.args.parents.now c.args.replaced.now c.requires.inherited)

pub undeclare-requires : goal.undeclare-requires
undeclare-requires g c = rw (c.in-Err.ensures.err, c.in_ok-class.ensures.declared) (ap (λ o. is_some o) (row_at-last_declared c.args.self.now))

pub returns-in-Ok-clause-added : goal.returns-in-Ok-clause-added
returns-in-Ok-clause-added g c = rw (c.in-Ok.ensures.filled, c.in_ok-class.ensures.class, c.in_ok-class.ensures.declared) (set-push c.args.self.now None (Some (class_with c.args.parents.now c.args.introduced.now c.args.replaced.now)))

pub returns-in-Ok-clause-row : goal.returns-in-Ok-clause-row
returns-in-Ok-clause-row g c =
    GivesRow_equal c.args.self.now (c.args.self.now ++ None ∷ []) c.fill.new.self (length c.args.self.now) (class_with c.args.parents.now c.args.introduced.now c.args.replaced.now) (row_at-declare c.args.self.now)
    (rw (c.in_ok-class.ensures.class, c.in_ok-class.ensures.declared) at c.in-Ok.ensures.row)

pub returns-in-Ok-clause-tokens : goal.returns-in-Ok-clause-tokens
returns-in-Ok-clause-tokens g c =
    tokens_from_row c.args.self.now c.fill.new.self (length c.args.self.now) (class_with c.args.parents.now c.args.introduced.now c.args.replaced.now) c.requires.inherited
    (GivesRow_equal c.args.self.now (c.args.self.now ++ None ∷ []) c.fill.new.self (length c.args.self.now) (class_with c.args.parents.now c.args.introduced.now c.args.replaced.now) (row_at-declare c.args.self.now)
    (rw (c.in_ok-class.ensures.class, c.in_ok-class.ensures.declared) at c.in-Ok.ensures.row))
