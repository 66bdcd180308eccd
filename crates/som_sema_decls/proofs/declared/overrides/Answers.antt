use Rattle.std.proofs.Common.{◌≡◌, ℕ, List, map, ap, subst, ◌∙◌}
use Rattle.std.specs.Prelude.{IfOk}
use Rattle.som_order.specs.Names.{texts}
use Rattle.som_verify_classes.specs.Modules.{classes_of}
use Rattle.som_verify_classes.specs.Places.{key_at, with_kernel}
use Rattle.som_sema_decls.specs.Finished.{override_of}
use Rattle.som_sema_drafts.specs.Items.{overridden}
use Rattle.som_sema_decls.proofs.declared.overrides.Goals as goal

pub returns : goal.returns
returns c =
    let cs = with_kernel (classes_of c.args.classes.now) in
    subst (λ (z : List (List ℕ)). IfOk c.each_override.result (λ os. os ≡ map (override_of cs (key_at cs c.args.place)) z))
    (ap texts c.deref.ensures.value ∙ c.in_ok-names.ensures ∙ ap overridden c.as_slice.ensures) c.each_override.ensures
