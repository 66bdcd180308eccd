use Rattle.std.proofs.Common.{ℕ, ◌<◌, ◌^◌, List, sym, subst}
use Rattle.som_turn_laws.specs.Turns.{turns_of}
use Rattle.som_tasks.proofs.run.run_turns.Goals as goal

pub start_and_turn-requires-clause-units : goal.start_and_turn-requires-clause-units
start_and_turn-requires-clause-units g c = λ i. subst (λ (turns : List ℕ). turns_of i turns < 2 ^ 32) (sym c.as_slice.ensures) (c.requires.units i)
