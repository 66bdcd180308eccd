use Rattle.std.proofs.Common.{IfOk, subst}
use Rattle.som_model.specs.declared.key.ClassKey.{ClassKey}
use Rattle.som_witness.specs.Showings as ways
use Rattle.som_witness_programs.specs.Made.{IsMade}
use Rattle.som_witness_programs.proofs.answering.made_of_metaclass.Goals as goal

pub returns : goal.returns
returns c = λ i io. subst (λ (k : ClassKey). IfOk c.made.result (IsMade i c.args.w.now c.args.method.now (ways.ReturnsClass k))) c.in_ok-metaclass.ensures (c.made.ensures i io)
