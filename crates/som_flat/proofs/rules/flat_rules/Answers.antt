use Rattle.std.proofs.Common.{◌≡◌, ◌∙◌, ℕ, List, [], sym, ap, refl, subst}
use Rattle.som_model.specs.Lists.{first}
use Rattle.som_level_laws.specs.Levels.{all_levels}
use Rattle.som_compat_levels.specs.Standing.{classes_of}
use Rattle.som_flat.specs.Breaches.{named_again}
use Rattle.som_flat.proofs.Leveled.{flat_once, none_broken, told_flat}
use Rattle.som_flat_laws.specs.Flat.{flat_interface}
use Rattle.som_verify_rules.specs.Shared.{Twice, all_introduced}
use Rattle.som_flat.proofs.rules.flat_rules.Goals as goal

pub returns-clause-tells : goal.returns-clause-tells
returns-clause-tells c =
    told_flat c.args.levels.now (classes_of c.deref-3.result.now) c.args.flat.now c.faces_hold.result c.requires.levels.faces c.requires.flat
    (ap classes_of c.deref-3.ensures.value ∙ c.in_ok-classes.ensures ∙ ap all_levels c.as_slice-2.ensures)
    (ap (λ z. first (named_again [] (classes_of z))) (c.deref-3.ensures.value ∙ sym c.deref.ensures.value) ∙ c.in_ok-names_differ.ensures)
    c.faces_hold.ensures

pub returns-then-branch-clause-kept : goal.returns-then-branch-clause-kept
returns-then-branch-clause-kept c =
    flat_once c.args.levels.now (classes_of c.deref.result.now) c.args.flat.now c.requires.levels.faces c.requires.flat
    (ap classes_of c.deref.ensures.value ∙ c.in_ok-classes.ensures ∙ ap all_levels c.as_slice-2.ensures) c.in_ok-names_differ.ensures
    (λ n t. c.in_ok-are_introduced_once.ensures c.if-branch.true n (subst (λ z. Twice n (all_introduced (classes_of z))) (c.deref.ensures.value ∙ sym c.deref-2.ensures.value) t))

pub returns-then-branch-clause-tells : goal.returns-then-branch-clause-tells
returns-then-branch-clause-tells c =
    none_broken c.args.levels.now c.requires.levels.faces (
    flat_once c.args.levels.now (classes_of c.deref.result.now) (flat_interface c.args.levels.now) c.requires.levels.faces refl
    (ap classes_of c.deref.ensures.value ∙ c.in_ok-classes.ensures ∙ ap all_levels c.as_slice-2.ensures) c.in_ok-names_differ.ensures
    (λ n t. c.in_ok-are_introduced_once.ensures c.if-branch.true n (subst (λ z. Twice n (all_introduced (classes_of z))) (c.deref.ensures.value ∙ sym c.deref-2.ensures.value) t)))
