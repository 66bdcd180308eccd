use Rattle.std.proofs.Common.{◌==◌, length, sym, ap, ◌∙◌, true≢false}
use Rattle.som_exec.proofs.Joined.{resuming}
use Rattle.som_exec.proofs.kind.kind_of.Goals as goal

pub returns-then-is_call : goal.returns-then-is_call
returns-then-is_call c = (c.in-Running.body, c.in-Running.is, sym c.is_call.ensures ∙ c.if-is_call.true)

pub returns-else-is_call : goal.returns-else-is_call
returns-else-is_call c = (c.in-Running.body, c.in-Running.is, sym c.is_call.ensures ∙ c.if-is_call.false)

pub returns-else-is_empty : goal.returns-else-is_empty
returns-else-is_empty c =
    resuming c.args.task.now.frames (c.in-Answering.field-0, c.in-Answering.is)
    (λ e. true≢false (sym (ap (λ xs. length xs == 0) (c.as_slice.ensures.value ∙ e)) ∙ sym c.is_empty.ensures ∙ c.if-is_empty.false))
