use Rattle.som_sema_drafts.specs.Drafts.{plain_draft}
use Rattle.som_verify_classes.specs.Places.{class_of_place}
use Rattle.som_elab.specs.Contexts.{among_in, classes_in}
use Rattle.som_elab_methods.specs.Texts.{given}
use Rattle.som_elab.proofs.OwnBlocks.{class_told}
use Rattle.som_elab.proofs.class_bodies.class_bodies.Goals as goal

pub returns : goal.returns
returns c = class_told (among_in c.args.context.now) (given c.args.texts.now.all.now) (given c.of_class-own.result.now) (plain_draft c.args.draft.now) (class_of_place (classes_in c.args.context.now) c.args.place) c.as_slice.result.now c.own_bodies.result
    c.requires.class c.as_slice.ensures c.of_class-own.ensures c.own_bodies.ensures
