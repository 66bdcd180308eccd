use Rattle.std.proofs.Common.{◌≡◌, ℕ, List, map, ap, subst, ◌∙◌}
use Rattle.std.specs.Prelude.{IfOk}
use Rattle.som_order.specs.Names.{texts}
use Rattle.som_verify_classes.specs.Modules.{classes_of}
use Rattle.som_verify_classes.specs.Places.{key_at, with_kernel}
use Rattle.som_sema_decls.specs.Finished.{select_of}
use Rattle.som_sema_drafts.specs.Items.{or_object}
use Rattle.som_sema_decls.specs.Selecting.{choice_of}
use Rattle.som_sema_decls.proofs.selected.chosen_selects.Goals as goal

pub returns : goal.returns
returns c =
    let cs = with_kernel (classes_of c.args.classes.now) in
    subst (λ (z : List (List ℕ)). IfOk c.ranked_selects.result (λ ss. ss ≡ map (select_of cs (key_at cs c.args.place) z) (map choice_of c.args.choices.now)))
    (ap texts c.deref.ensures.value ∙ c.in_ok-parents.ensures ∙ ap or_object c.as_slice.ensures) c.ranked_selects.ensures
