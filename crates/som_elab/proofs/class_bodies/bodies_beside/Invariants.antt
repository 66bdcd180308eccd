use Rattle.std.proofs.Common.{◌≡◌, drop}
use Rattle.som_verify_classes.specs.Places.{class_of_place}
use Rattle.som_sema_drafts.specs.Drafts.{plain_draft}
use Rattle.som_elab.specs.Blocks.{entry_bodies}
use Rattle.som_elab.specs.Contexts.{among_in, classes_in}
use Rattle.som_elab_methods.specs.Texts.{given}
use Rattle.som_elab.proofs.Gathering.{after}
use Rattle.som_elab.proofs.class_bodies.bodies_beside.Given as goal

abbrev pub invariant-loop-entry : goal.invariant-loop-entry
invariant-loop-entry l = after l.bodies (entry_bodies (among_in l.context) (given l.own) (plain_draft l.draft) (class_of_place (classes_in l.context) l.place) (drop l.entry-index l.draft.decl.face.entries))
    ≡ entry_bodies (among_in l.context) (given l.own) (plain_draft l.draft) (class_of_place (classes_in l.context) l.place) l.draft.decl.face.entries
