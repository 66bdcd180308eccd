use Rattle.std.proofs.Common.{ℕ, List, length, ap, subst, sym, ◌<◌, ◌∙◌}
use Rattle.std.specs.List.{All}
use Rattle.som_tasks.specs.Taken.{clients_of}
use Rattle.som_cmd_tasks.specs.Ends.{EndsTurns}
use Rattle.som_cmd_tasks.specs.Patterns.{AreTurns, turns_given}
use Rattle.som_cmd_tasks.proofs.Telling.{nothing_given}
use Rattle.som_cmd_tasks.proofs.Turning.{few_each}
use Rattle.som_cmd_tasks.proofs.tasks.give_pattern.Goals as goal

pub give_turns-requires-clause-places : goal.give_turns-requires-clause-places
give_turns-requires-clause-places g c = subst (λ (ts : List ℕ). All (λ turn. turn < length c.args.kernels.now) ts) (sym (c.in-Ok.ensures ∙ ap (λ (p : List ℕ). turns_given p c.args.rounds) c.as_slice.ensures)) c.requires.places

pub give_turns-requires-clause-units : goal.give_turns-requires-clause-units
give_turns-requires-clause-units g c = λ i.
    few_each (length c.args.kernels.now) c.in-Ok.turns i (subst (λ (ts : List ℕ). AreTurns (length c.args.kernels.now) ts) (sym (c.in-Ok.ensures ∙ ap (λ (p : List ℕ). turns_given p c.args.rounds) c.as_slice.ensures)) c.requires)

pub returns-in-Ok-clause-ends : goal.returns-in-Ok-clause-ends
returns-in-Ok-clause-ends g c =
    subst (λ (ts : List ℕ). EndsTurns (clients_of g.R.Classes.world g.R.Runtime.program c.args.kernels.now) ts (length c.args.kernels.now) (g.K.Sink.faults c.args.out.now) (g.K.Sink.faults c.give_turns.new.out) (g.K.Sink.written c.args.out.now) (g.K.Sink.written c.give_turns.new.out) c.give_turns.result)
    (c.in-Ok.ensures ∙ ap (λ (p : List ℕ). turns_given p c.args.rounds) c.as_slice.ensures) c.give_turns.ensures.ends

pub returns-in-Err-clause-ends : goal.returns-in-Err-clause-ends
returns-in-Err-clause-ends g c =
    nothing_given (clients_of g.R.Classes.world g.R.Runtime.program c.args.kernels.now) (turns_given c.args.pattern.now c.args.rounds) (length c.args.kernels.now) (g.K.Sink.faults c.args.out.now) (g.K.Sink.written c.args.out.now) (g.K.Sink.faults c.args.out.now)
