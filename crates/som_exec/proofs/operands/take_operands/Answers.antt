use Rattle.std.proofs.Common.{◌≡◌, ◌-◌, suc, [], ◌∷◌, ◌++◌, length, drop, take, sym, ap, ◌∙◌, arith}
use Rattle.som_interp_ops.specs.Cells.{lower_cells}
use Rattle.som_exec.proofs.LastOperand.{last_kept, last_taken}
use Rattle.som_exec.proofs.operands.take_operands.Goals as goal

pub returns-clause-args : goal.returns-clause-args
returns-clause-args c =
    let items = c.args.body.now.operands.items in
    let one : c.args.count ≡ 1 = omega (arith, c.if-count-ne1.false) in
    let many : length items ≡ suc (length items - 1) = omega (arith, c.requires.above) in
    c.in_ok-push.ensures.items ∙ ap (λ z. z ++ c.pop-argument.result ∷ []) c.requires.none ∙ ap (λ z. z ∷ []) c.pop-argument.ensures.cell
    ∙ sym (last_taken (length items - 1) items many) ∙ ap (λ k. drop (length items - k) items) (sym one)

pub returns-clause-rest : goal.returns-clause-rest
returns-clause-rest c =
    let items = c.args.body.now.operands.items in
    let one : c.args.count ≡ 1 = omega (arith, c.if-count-ne1.false) in
    let many : length items ≡ suc (length items - 1) = omega (arith, c.requires.above) in
    c.pop.ensures.rest ∙ ap lower_cells c.pop-argument.ensures.rest ∙ ap lower_cells (sym (last_kept (length items - 1) items many)) ∙ ap (λ k. lower_cells (take (length items - k) items)) (sym one)
