use Rattle.std.proofs.Common.{sym, ◌∙◌, true≢false}
use Rattle.som_verify_forms.specs.Knowing.{all_of}
use Rattle.som_verify_forms.proofs.Facts.{known_said}
use Rattle.som_elab_body.proofs.NameLaws.{parent_known}
use Rattle.som_elab_body.proofs.parent_calls.class_of_parent.Goals as goal

pub unreachable-requires : goal.unreachable-requires
unreachable-requires c =
    let known = parent_known c.args.known.now c.args.at.now c.args.parent.now c.requires.known c.requires.place c.requires.parent in
    true≢false (sym known ∙ sym (known_said (all_of c.args.known.now) c.args.parent.now) ∙ sym c.in-None.ensures.known)
