use Rattle.std.proofs.Common.{◌≡◌, drop, flat_map}
use Rattle.som_model.specs.Lists.{first}
use Rattle.som_order.specs.Names.{texts}
use Rattle.som_sema_drafts.specs.Drafts.{plain_draft}
use Rattle.som_elab_methods.specs.Bodies.{entry_has_one}
use Rattle.som_elab_methods.specs.Texts.{given}
use Rattle.som_elab_methods.proofs.counted_bodies.operations_counted.Given as goal

abbrev pub invariant-loop-name : goal.invariant-loop-name
invariant-loop-name l = first (flat_map (entry_has_one (given l.bodies.own.now) (plain_draft l.bodies.draft.now)) (texts (drop l.name-index l.names)))
    ≡ first (flat_map (entry_has_one (given l.bodies.own.now) (plain_draft l.bodies.draft.now)) (texts l.names))
