use Rattle.som_tables.proofs.NextPages.{IsPage-shared}
use Rattle.som_tables.proofs.pages.next_page.Goals as goal

pub returns-in-Some-clause-page : goal.returns-in-Some-clause-page
returns-in-Some-clause-page g c =
    let starts = c.args.starts.now.items in
    IsPage-shared c.args.rows.now c.args.lines.now starts c.args.cells.now.items c.requires.table.laid c.args.class c.args.row.now c.args.own c.in-Some.page c.args.number
    (c.is_shared.ensures.class c.if-is_shared.true) (c.is_shared.ensures.cells c.if-is_shared.true) (λ p. rw c.parents.ensures at (c.in-Some.ensures.page starts p))
