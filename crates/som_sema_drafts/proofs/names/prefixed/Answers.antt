use Rattle.std.proofs.Common.{ap, ◌++◌, ◌∙◌}
use Rattle.som_sema_drafts.proofs.names.prefixed.Goals as goal

pub returns : goal.returns
returns c = c.from_vec.ensures ∙ c.in_ok-extend_from_slice.ensures.items ∙ ap (λ z. z ++ c.args.name.now) c.in_ok-bytes.ensures.items
