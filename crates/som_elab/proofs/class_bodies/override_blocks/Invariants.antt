use Rattle.std.proofs.Common.{◌≡◌, drop}
use Rattle.som_verify_classes.specs.Places.{class_of_place}
use Rattle.som_elab.specs.Blocks.{override_blocks}
use Rattle.som_elab.specs.Contexts.{among_in, classes_in}
use Rattle.som_elab_methods.specs.Texts.{given}
use Rattle.som_elab.proofs.Gathering.{after}
use Rattle.som_elab.proofs.class_bodies.override_blocks.Given as goal

abbrev pub invariant-loop-replaced : goal.invariant-loop-replaced
invariant-loop-replaced l = after l.all (override_blocks (among_in l.context) (given l.own) (class_of_place (classes_in l.context) l.place) (drop l.replaced-index l.draft.decl.overrides))
    ≡ override_blocks (among_in l.context) (given l.own) (class_of_place (classes_in l.context) l.place) l.draft.decl.overrides
