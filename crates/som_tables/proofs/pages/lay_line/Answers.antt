use Rattle.std.proofs.Common.{ℕ, ◌+◌, ◌/◌, ◌≤◌, inl, inr, None, length, slice_get, arith}
use Rattle.std.proofs.lemmas.Bool.{cases_lt}
use Rattle.som_tables.specs.Layout.{start_of, IsStart}
use Rattle.som_tables.proofs.Options.{Extends-trans, none_else_some}
use Rattle.som_tables.proofs.Laid.{IsBlock-grown, IsTable-grown}
use Rattle.som_tables.proofs.NextPages.{IsLine-pages, past_own, past_parents}
use Rattle.som_tables.proofs.pages.lay_line.Goals as goal

pub lay_pages-requires-clause-table : goal.lay_pages-requires-clause-table
lay_pages-requires-clause-table g c =
    let starts = c.args.starts.now.items in
    IsTable-grown c.args.rows.now c.args.lines.now starts starts c.args.cells.now.items c.lay_own.new.cells.items (λ i x e. e) c.in_ok-own.ensures.grown c.requires.table

pub returns-clause-line : goal.returns-clause-line
returns-clause-line g c =
    let rows = c.args.rows.now in
    let row = c.args.row.now in
    let own = c.in_ok-own.own in
    let before = c.lay_own.new.cells.items in
    let pages = c.lay_pages.new.pages.items in
    let starts = c.lay_pages.new.starts.items in
    let cells = c.lay_pages.new.cells.items in
    let e = c.in_ok-lay_pages.ensures in
    let table = IsTable-grown rows c.args.lines.now c.args.starts.now.items starts c.args.cells.now.items cells e.more (Extends-trans _ _ _ c.in_ok-own.ensures.grown e.grown) c.requires.table in
    let block = IsBlock-grown before cells own (length row.introduced) (λ p. slice_get row.introduced p) e.grown (rw c.introduced.ensures at c.in_ok-own.ensures.block) in
    let n = c.args.class in
    let count = c.page_count-count.result in
    let counted = c.page_count-count.ensures in
    let past : (a : ℕ) → count ≤ a / 64 → IsStart rows n row own None a cells = λ a le. elim (cases_lt count (n / 64 + 1)) [
      | inl lt ↦ past_parents rows c.args.lines.now starts cells table.laid n row c.requires.inherited own count a
          (none_else_some own (λ s. let is = counted.own (block.some s) in omega (arith, is, lt))) (counted.parents lt) le
      | inr ge ↦ past_own rows (start_of c.args.lines.now starts) cells table.laid n row c.requires.below c.requires.inherited own count a (omega (arith, counted.few, ge)) le
    ] in
    IsLine-pages rows (start_of c.args.lines.now starts) cells table.laid n row c.requires.below c.requires.inherited own count pages starts e.long block e.pages past
