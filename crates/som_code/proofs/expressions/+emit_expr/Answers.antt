use Rattle.std.proofs.Common.{◌∙◌, refl}
use Rattle.som_model.specs.declared.syntax.Expr.TheVariants as exprs
use Rattle.som_code.specs.declared.instruction.Instruction.TheVariants as ops
use Rattle.som_code.specs.Laid.{lay_expr}
use Rattle.som_code.proofs.Emits.{on_ok, and_emits, or_emits, host_laid}
use Rattle.som_code.proofs.expressions.+emit_expr.Goals as goal

pub emit_and-returns : goal.emit_and-returns
emit_and-returns t c =
    and_emits c.args.code.now.items (ops.Unless 0) (lay_expr c.args.right.now) _ _ _ _ _ _ _ (c.len-test.ensures ∙ c.args.code.now.ok.0) c.in_ok-emit.ensures c.in_ok-emit_part.ensures
    (c.len-jump.ensures ∙ c.emit_part.new.code.ok.0) c.in_ok-emit-2.ensures c.in_ok-emit-3.ensures c.patch.ensures

pub emit_or-returns : goal.emit_or-returns
emit_or-returns t c =
    or_emits c.args.code.now.items (ops.Jump 0) (lay_expr c.args.right.now) _ _ _ _ _ _ _ (c.len-test.ensures ∙ c.args.code.now.ok.0) c.in_ok-emit.ensures c.in_ok-emit-2.ensures c.in_ok-emit-3.ensures
    c.in_ok-emit_part.ensures (c.len-end.ensures ∙ c.emit_part.new.code.ok.0) c.patch.ensures

pub emit_host_call-returns : goal.emit_host_call-returns
emit_host_call-returns t c = on_ok c.emit.result c.emit.ensures
    (λ p. host_laid c.args.code.now.items _ _ _ (exprs.Host c.args.host c.args.a.now c.args.b.now) c.args.host c.args.a.now c.args.b.now refl c.in_ok-emit_part.ensures c.in_ok-emit_part-2.ensures p)
