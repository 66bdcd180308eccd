use Rattle.std.proofs.Common.{◌≡◌, length, arith}
use Rattle.som_tables.proofs.Options.{take-Extends}
use Rattle.som_tables.proofs.pages.lay_row.Goals as goal

pub returns-in-Err-clause-cells : goal.returns-in-Err-clause-cells
returns-in-Err-clause-cells g c =
    let n : length c.args.cells.now.items ≡ c.len-cells_before.result = omega (arith, c.len-cells_before.ensures) in
    rw (c.truncate.ensures.items, ← n) (take-Extends _ _ c.in-Err.ensures.grown)

pub returns-in-Err-clause-starts : goal.returns-in-Err-clause-starts
returns-in-Err-clause-starts g c =
    let n : length c.args.starts.now.items ≡ c.len-starts_before.result = omega (arith, c.len-starts_before.ensures) in
    rw (c.truncate-in-Err.ensures.items, ← n) (take-Extends _ _ c.in-Err.ensures.more)
