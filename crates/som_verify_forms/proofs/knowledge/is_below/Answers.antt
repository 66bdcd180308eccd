use Rattle.std.proofs.Common.{sym, ◌∙◌}
use Rattle.som_verify_forms.specs.Knowing.{all_of}
use Rattle.som_verify_classes.specs.Places.{key_at}
use Rattle.som_verify_forms.proofs.Facts.{descent_said}
use Rattle.som_verify_forms.proofs.knowledge.is_below.Goals as goal

pub returns : goal.returns
returns c =
    let all = all_of c.args.known.now in
    c.descends_by.ensures all c.requires.known.lists c.requires.ancestor ∙ sym (descent_said all (key_at all c.args.class) (key_at all c.args.ancestor))
