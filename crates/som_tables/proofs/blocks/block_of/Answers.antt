use Rattle.std.proofs.Common.{arith}
use Rattle.som_tables.specs.Layout.{start_of}
use Rattle.som_tables.proofs.NextPages.{start_beyond}
use Rattle.som_tables.proofs.blocks.block_of.Goals as goal

pub returns-in-Err-clause-start : goal.returns-in-Err-clause-start
returns-in-Err-clause-start g c =
    rw c.none.ensures (start_beyond c.args.rows.now (start_of c.args.lines.now c.args.starts.now) c.args.cells.now.items c.requires.laid c.args.class c.args.row.now c.requires.below c.requires.inherited c.args.own c.args.of (omega arith))
