use Rattle.std.proofs.Common.{◌∷◌, []}
use Rattle.som_model.specs.Kernel.{som_free}
use Rattle.som_code.specs.declared.instruction.Instruction.TheVariants as ops
use Rattle.som_code.specs.Laid.{lay_expr}
use Rattle.som_code.proofs.Emits.{on_ok, emits_then}
use Rattle.som_code.proofs.statements.emit_free.Goals as goal

pub returns : goal.returns
returns c = on_ok c.free_top.result c.free_top.ensures
    (λ p. emits_then (lay_expr c.args.value.now) (λ a. ops.OffsetCall som_free 0 ∷ ops.Drop ∷ []) _ _ _ c.in_ok-emit_expr.ensures p)
