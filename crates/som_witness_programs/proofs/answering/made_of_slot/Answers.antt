use Rattle.std.proofs.Common.{IfOk, subst}
use Rattle.som_witness.specs.Showings.{Showing}
use Rattle.som_witness_programs.specs.Made.{IsMade}
use Rattle.som_witness_programs.proofs.answering.made_of_slot.Goals as goal

pub returns : goal.returns
returns c = λ i io. subst (λ (s : Showing). IfOk c.made.result (IsMade i c.args.w.now c.args.method.now s)) c.slot_showing.ensures (c.made.ensures i io)
