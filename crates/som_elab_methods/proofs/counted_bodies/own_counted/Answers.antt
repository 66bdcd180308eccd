use Rattle.som_sema_drafts.specs.Drafts.{plain_draft}
use Rattle.som_elab_methods.specs.Texts.{given}
use Rattle.som_elab_methods.proofs.OwnTexts.{counted_told}
use Rattle.som_elab_methods.proofs.counted_bodies.own_counted.Goals as goal

pub returns : goal.returns
returns c = counted_told (given c.args.texts.now.all.now) (given c.of_class-own.result.now) (plain_draft c.args.draft.now) c.as_slice.result.now c.members_counted.result
    c.as_slice.ensures c.of_class-own.ensures c.members_counted.ensures
