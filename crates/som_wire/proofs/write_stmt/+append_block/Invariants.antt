use Rattle.std.proofs.Common.{◌≡◌, ◌++◌, length, take}
use Rattle.std.specs.List.{flat_map}
use Rattle.std.specs.Int.{w32}
use Rattle.som_image_fields.specs.Spelling.{number}
use Rattle.som_image_fields.specs.SyntaxSpelling.{stmt}
use Rattle.som_wire.proofs.write_stmt.+append_block.Given as goal

abbrev pub invariant-append_block-loop-statement : goal.invariant-append_block-loop-statement
invariant-append_block-loop-statement l = l.out ≡ l.fn.out ++ (number w32 (length l.value.statements) ++ flat_map stmt (take l.statement-index l.value.statements))
