use Rattle.std.proofs.Common.{[], inl, inr, ap, ◌∙◌, arith, slice_index_or, subst, sym}
use Rattle.som_model.specs.Lists.{Mem}
use Rattle.som_model_laws.proofs.Listed.{mem_at}
use Rattle.som_verify_parents.proofs.Covered.{taken_all, taken_more}
use Rattle.som_verify_parents.proofs.ancestry.stand_below.Goals as goal

pub item-requires : goal.item-requires
item-requires c = c.requires _ (mem_at c.args.others.now c.loop-other.other-index 0 c.loop-other-test.true)

pub loop-other-preserved : goal.loop-other-preserved
loop-other-preserved c = λ p q m k. elim (taken_more c.args.others.now c.loop-other.other-index 0 p c.loop-other-test.true m) [
  | inl h ↦ c.loop-other.invariant p q h k
  | inr e ↦ c.has_all.ensures c.if-not-has_all.false q (subst (λ z. Mem q z) (ap (λ z. slice_index_or c.args.rows.now z []) e ∙ sym c.item.ensures) k)
]

pub returns : goal.returns
returns c = λ t p q m k. c.loop-other.invariant p q (taken_all c.args.others.now c.loop-other.other-index p (omega (arith, c.loop-other-test.false)) m) k
