use Rattle.std.proofs.Common.{◌≡◌, ◌+◌, ◌-◌, sym, ◌∙◌, arith, true, false}
use Rattle.som_witness.specs.Program.{numbered_w, w_name}
use Rattle.som_witness_programs.proofs.Taken.{goes_on, is_free, none_left}
use Rattle.som_witness_programs.proofs.naming.w_name.Goals as goal

pub loop-number-preserved : goal.loop-number-preserved
loop-number-preserved c = record {
  within = omega (arith, c.loop-number-test.true);
  tried = λ i is. goes_on i c.args.olds.now is c.loop-number.number c.loop-number-test.true (sym (c.is_taken.ensures i is) ∙ c.if-not-is_taken.false) (c.loop-number.invariant.tried i is);
}

pub returns-then-not-is_taken : goal.returns-then-not-is_taken
returns-then-not-is_taken c = λ i is. c.in_ok-name.ensures ∙ is_free i c.loop-number.number (sym (c.is_taken.ensures i is) ∙ c.if-not-is_taken.true) (c.loop-number.invariant.tried i is)

pub returns : goal.returns
returns c = λ i is. none_left i c.args.olds.now is c.loop-number.number c.loop-number.invariant.within c.loop-number-test.false c.numbered_w-2.result c.numbered_w-2.ensures (c.loop-number.invariant.tried i is)
