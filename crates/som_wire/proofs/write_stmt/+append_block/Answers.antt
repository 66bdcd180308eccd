use Rattle.std.proofs.Common.{rules}
use Rattle.som_wire.proofs.Fits.{some_stmt_parts}
use Rattle.som_wire.proofs.Written.{stmt_appended, block_appended}
use Rattle.som_wire.proofs.write_stmt.+append_block.Goals as goal

pub append_stmt-append_front-requires : goal.append_stmt-append_front-requires
append_stmt-append_front-requires t c = some_stmt_parts c.args.value.now c.requires

pub append_stmt-append_blocks-requires : goal.append_stmt-append_blocks-requires
append_stmt-append_blocks-requires t c = (search rules, some_stmt_parts c.args.value.now c.requires)

pub append_stmt-returns : goal.append_stmt-returns
append_stmt-returns t c = stmt_appended c.args.out.now c.append_front.new.out c.append_blocks.new.out c.args.value.now c.append_blocks.result c.in_ok-append_front.ensures c.append_blocks.ensures

pub append_block-returns : goal.append_block-returns
append_block-returns t c = block_appended c.args.out.now c.loop-statement.out c.args.value.now c.as_slice-statement-items.result.now c.loop-statement.statement-index c.as_slice-statement-items.ensures c.loop-statement-test.false c.loop-statement.invariant
