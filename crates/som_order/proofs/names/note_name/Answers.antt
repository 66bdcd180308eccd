use Rattle.std.proofs.Common.{ap, ◌∙◌, not}
use Rattle.som_order.proofs.Noted.{among_keys}
use Rattle.som_order.proofs.names.note_name.Goals as goal

pub returns-clause-is_new : goal.returns-clause-is_new
returns-clause-is_new c = c.in_ok-is_new.ensures.added ∙ ap not (among_keys c.args.name.now c.args.seen.now.keys)
