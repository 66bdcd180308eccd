use Rattle.std.proofs.Common.{◌≡◌, ◌∙◌, Some, length, refl, sym, arith}
use Rattle.som_tables.specs.Layout.{start_of}
use Rattle.som_tables.proofs.NextBlocks.{shared_block, absent_block, block_within, copied_block}
use Rattle.som_tables.proofs.blocks.next_block.Goals.{in_default-via-in-Some+else-replaces_any, in_default-via-in_default}
use Rattle.som_tables.proofs.blocks.next_block.Goals as goal

pub copy_block-requires : goal.copy_block-requires
copy_block-requires g c =
    let row = c.args.row.now in
    λ p lt.
    block_within c.args.rows.now (start_of c.args.lines.now c.args.starts.now) c.args.cells.now.items c.requires.laid c.args.class row.parents row.replaced (Some c.in-Some.shared) (rw c.parents.ensures at (c.in-Some.ensures ∙ c.first_start-first.ensures))
    c.in-Some.shared refl p (rw c.introduced_by-count.ensures at lt)

pub returns-in_ok-copy_block-in-Some-clause-block : goal.returns-in_ok-copy_block-in-Some-clause-block
returns-in_ok-copy_block-in-Some-clause-block g c =
    let row = c.args.row.now in
    let at_end : length c.args.cells.now.items ≡ c.len.result = omega (arith, c.len.ensures) in
    rw (c.in_ok-start-in-Some.ensures, ← at_end)
    (copied_block c.args.rows.now (start_of c.args.lines.now c.args.starts.now) c.args.cells.now.items c.requires.laid c.args.class row.parents row.replaced (Some c.in-Some.shared) (rw c.parents.ensures at (c.in-Some.ensures ∙ c.first_start-first.ensures))
    c.in-Some.shared refl c.copy_block.new.cells.items (rw (c.introduced_by-count.ensures, c.replaced-in-Some.ensures) at c.in_ok-copy_block-in-Some.ensures.copied))

pub returns-in_default-clause-block : goal.returns-in_default-clause-block
returns-in_default-clause-block g c =
    let row = c.args.row.now in
    let start = start_of c.args.lines.now c.args.starts.now in
    let first = rw c.parents.ensures at c.first_start-first.ensures in
    elim c.in_default.branch [
      | in_default-via-in-Some+else-replaces_any w ↦ shared_block c.args.rows.now start c.args.cells.now.items c.requires.laid c.args.class row.parents row.replaced c.first_start-first.result first
          (rw w.replaced.ensures at (w.replaces_any.ensures w.if-replaces_any.false))
      | in_default-via-in_default w ↦ absent_block c.args.rows.now start c.args.cells.now.items c.requires.laid c.args.class row.parents row.replaced c.first_start-first.result first
          c.requires.inherited (sym w.in_default.ensures)
    ]
