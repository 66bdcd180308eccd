use Rattle.std.proofs.Common.{◌≡◌, List, map, ap, subst, ◌∙◌}
use Rattle.std.specs.Prelude.{IfOk}
use Rattle.som_verify_classes.specs.Modules.{classes_of}
use Rattle.som_verify_classes.specs.Places.{key_at, with_kernel}
use Rattle.som_sema_decls.specs.Finished.{select_of}
use Rattle.som_sema_drafts.specs.Items.{Chosen, chosen, or_object}
use Rattle.som_sema_decls.specs.Selecting.{choice_of}
use Rattle.som_sema_decls.proofs.selected.selects.Goals as goal

pub returns : goal.returns
returns c =
    let cs = with_kernel (classes_of c.args.classes.now) in
    subst (λ (z : List Chosen). IfOk c.chosen_selects.result (λ ss. ss ≡ map (select_of cs (key_at cs c.args.place) (or_object c.args.draft.now.text.now.parents)) z))
    (ap (map choice_of) c.deref.ensures.value ∙ c.in_ok-choices.ensures ∙ ap chosen c.as_slice.ensures) c.chosen_selects.ensures
