use Rattle.std.proofs.Common.{◌≡◌, ℕ, ◌<◌}
use Rattle.som_tables.specs.Layout.{found_at, page_start, IsPage}
use Rattle.som_tables.proofs.NextPages.{if_ok, IsPage-same}
use Rattle.som_tables.proofs.Paging.{inherited_on_page, IsPage-part}
use Rattle.som_tables.proofs.pages.new_page.Goals as goal

pub lay_page-requires-clause-inherited : goal.lay_page-requires-clause-inherited
lay_page-requires-clause-inherited g c = rw c.in_ok-part.ensures (inherited_on_page c.args.rows.now c.args.row.now.parents c.args.number c.args.row.now.replaced c.requires.inherited)

pub lay_page-requires-clause-below : goal.lay_page-requires-clause-below
lay_page-requires-clause-below g c = rw c.in_ok-part.ensures c.requires.below

pub returns-clause-page : goal.returns-clause-page
returns-clause-page g c =
    let rows = c.args.rows.now in
    let n = c.args.class in
    let own = c.args.own in
    let k = c.args.number in
    let part = c.in_ok-part.part in
    let wanted = c.lay_page.new.page.items in
    let starts = c.put_page.new.starts.items in
    let cells = c.lay_page.new.cells.items in
    if_ok c.put_page.result (λ put. (p : ℕ) → p < 64 → page_start starts put p ≡ found_at wanted p) (λ put. IsPage rows n c.args.row.now own k (page_start starts put) cells)
    (λ put same. IsPage-part rows n c.args.row.now part own k (page_start starts put) cells c.in_ok-part.ensures
    (IsPage-same rows n part own k (found_at wanted) (page_start starts put) cells same c.in_ok-lay_page.ensures.page)) (rw c.as_slice-2.ensures.value at c.put_page.ensures.page)
