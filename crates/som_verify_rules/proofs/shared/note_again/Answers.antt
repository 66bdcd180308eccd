use Rattle.som_order.specs.Names.{texts}
use Rattle.som_verify_rules.proofs.Sharing.{seen_first, seen_again}
use Rattle.som_verify_rules.proofs.shared.note_again.Goals as goal

pub returns-in_ok-_again : goal.returns-in_ok-_again
returns-in_ok-_again c = λ done covers.
    seen_again c.args.name.now done (texts c.args.seen.now.keys) (texts c.args.shared.now.keys) (texts c.note_name.new.seen.keys) (texts c.note_name-then-not-branch.new.seen.keys)
    c.in_ok-note_name.field-0 c.in_ok-_again._again c.in_ok-note_name.ensures.is_new c.in_ok-note_name.ensures.keys c.if-not-branch.true c.in_ok-_again.ensures.is_new c.in_ok-_again.ensures.keys covers

pub returns-else-not-branch : goal.returns-else-not-branch
returns-else-not-branch c = λ done covers.
    seen_first c.args.name.now done (texts c.args.seen.now.keys) (texts c.args.shared.now.keys) (texts c.note_name.new.seen.keys)
    c.in_ok-note_name.field-0 c.in_ok-note_name.ensures.is_new c.in_ok-note_name.ensures.keys c.if-not-branch.false covers
