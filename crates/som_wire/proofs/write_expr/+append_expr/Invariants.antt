use Rattle.std.proofs.Common.{◌≡◌, ◌++◌, length, take}
use Rattle.std.specs.List.{flat_map}
use Rattle.std.specs.Int.{w8}
use Rattle.som_image_fields.specs.Spelling.{number}
use Rattle.som_image_fields.specs.SyntaxSpelling.{expr}
use Rattle.som_wire.proofs.write_expr.+append_expr.Given as goal

abbrev pub invariant-append_args-loop-arg : goal.invariant-append_args-loop-arg
invariant-append_args-loop-arg l = l.out ≡ l.fn.out ++ (number w8 (length l.args) ++ flat_map expr (take l.arg-index l.args))
