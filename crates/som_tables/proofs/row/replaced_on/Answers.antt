use Rattle.std.proofs.Common.{◌∙◌, sym, ap, ◌++◌, ◌∷◌, []}
use Rattle.std.proofs.lemmas.List.{take_all}
use Rattle.som_tables.proofs.Paging.{on_more, on_same}
use Rattle.som_tables.proofs.row.replaced_on.Goals.{then-is_on+in_ok-push, else-is_on}
use Rattle.som_tables.proofs.row.replaced_on.Goals as goal

pub loop-pair-preserved : goal.loop-pair-preserved
loop-pair-preserved g c =
    let k = c.args.number in
    let rs = c.args.replaced.now in
    let i = c.loop-pair.pair-index in
    let r = c.pair-item.result in
    elim c.if-is_on.branch [
      | then-is_on+in_ok-push w ↦ rw w.some-is (w.in_ok-push.ensures.items ∙ ap (λ x. c.loop-pair.some.items ++ x ∷ []) w.copy_of.ensures ∙ ap (λ xs. xs ++ r ∷ []) c.loop-pair.invariant ∙ sym (on_more k rs i r c.loop-pair-test.true c.pair-item.is (sym c.is_on.ensures ∙ w.if-is_on.true)))
      | else-is_on w ↦ rw w.some-is (c.loop-pair.invariant ∙ sym (on_same k rs i r c.loop-pair-test.true c.pair-item.is (sym c.is_on.ensures ∙ w.if-is_on.false)))
    ]

pub returns : goal.returns
returns g c = rw (take_all c.loop-pair.pair-index c.args.replaced.now c.loop-pair-test.false) at c.loop-pair.invariant
