use Rattle.std.proofs.Common.{◌≡◌, drop, flat_map}
use Rattle.som_model.specs.Lists.{first}
use Rattle.som_model.specs.declared.class.Override.{Override}
use Rattle.som_sema_drafts.specs.Drafts.{plain_draft}
use Rattle.som_elab_methods.specs.Bodies.{has_one}
use Rattle.som_elab_methods.specs.Texts.{given}
use Rattle.som_elab_methods.proofs.counted_bodies.overridden_counted.Given as goal

abbrev pub invariant-loop-replaced : goal.invariant-loop-replaced
invariant-loop-replaced l = first (flat_map (λ (o : Override). has_one (given l.bodies.own.now) (plain_draft l.bodies.draft.now) o.method.name) (drop l.replaced-index l.replaced-items))
    ≡ first (flat_map (λ (o : Override). has_one (given l.bodies.own.now) (plain_draft l.bodies.draft.now) o.method.name) l.replaced-items)
