use Rattle.std.proofs.Common.{◌≡◌, drop}
use Rattle.som_sema_drafts.specs.Drafts.{plain_drafts}
use Rattle.som_elab.specs.Contexts.{among_in, each_steps}
use Rattle.som_elab_methods.specs.Texts.{given}
use Rattle.som_elab.proofs.Gathering.{after}
use Rattle.som_elab.proofs.classes.all_bodies.Given as goal

abbrev pub invariant-loop-index : goal.invariant-loop-index
invariant-loop-index l = after l.all (each_steps (among_in l.context) l.context.scope.now.module (given l.texts.all.now) (plain_drafts (drop l.index l.drafts)))
    ≡ each_steps (among_in l.context) l.context.scope.now.module (given l.texts.all.now) (plain_drafts l.drafts)
