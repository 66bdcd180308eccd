use Rattle.std.proofs.Common.{◌≤◌, [], inl, inr, ap, length, arith, refl}
use Rattle.std.proofs.lemmas.Bool.{cases_lt}
use Rattle.std.proofs.lemmas.List.{get_or_past}
use Rattle.som_order.specs.Names.{texts}
use Rattle.som_verify_rules.proofs.introduced.are_empty.Goals as goal

pub returns : goal.returns
returns c = λ t p. elim (cases_lt p c.loop-row.row-index) [
  | inl lt ↦ ap texts (c.loop-row.invariant p lt)
  | inr ge ↦ (let past = c.loop-row-test.false in let le : length c.args.rows.now ≤ p = omega (arith, ge, past) in rw (get_or_past c.args.rows.now p [] le) refl)
]
