use Rattle.std.proofs.Common.{inl, inr, ◌∙◌, arith, sym, subst}
use Rattle.som_model.specs.Lists.{Mem}
use Rattle.som_verify_parents.proofs.Covered.{has_it, taken_all, taken_more}
use Rattle.som_verify_parents.proofs.ancestry.has_all.Goals as goal

pub loop-class-preserved : goal.loop-class-preserved
loop-class-preserved c = λ q m. elim (taken_more c.args.row.now c.loop-class.class-index 0 q c.loop-class-test.true m) [
  | inl h ↦ c.loop-class.invariant q h
  | inr e ↦ subst (λ z. Mem z c.args.list.now) (sym e) (has_it c.args.list.now _ (sym c.has_place.ensures ∙ c.if-not-has_place.false))
]

pub returns : goal.returns
returns c = λ t q m. c.loop-class.invariant q (taken_all c.args.row.now c.loop-class.class-index q (omega (arith, c.loop-class-test.false)) m)
