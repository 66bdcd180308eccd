use Rattle.std.proofs.Common.{◌∙◌, sym, ap, subst, Some}
use Rattle.std.proofs.lemmas.Option.{slice_get-get_or, slice_get_past}
use Rattle.som_model.specs.Lists.{Mem}
use Rattle.som_model.specs.Rules.{is_parent_below}
use Rattle.som_verify_classes.specs.Modules.{classes_of}
use Rattle.som_verify_classes.specs.Places.{with_kernel}
use Rattle.som_verify_rules.proofs.Replacing.{index_mem}
use Rattle.som_verify_rules.proofs.selects.parent_descends.Goals as goal

pub descends-requires-clause-known : goal.descends-requires-clause-known
descends-requires-clause-known c =
    c.requires.parents c.index-parents-parent.result (subst (λ z. Mem z c.args.parents.now) (sym c.index-parents-parent.is) (index_mem c.args.parents.now c.args.parent c.index-parents-parent.result c.if-parent-parents.true))

pub returns-then-parent-parents : goal.returns-then-parent-parents
returns-then-parent-parents c =
    let cs = with_kernel (classes_of c.args.classes.now) in
    c.descends.ensures
    ∙ ap (is_parent_below cs c.args.ancestor.now) (sym (slice_get-get_or c.args.parents.now c.args.parent c.index-parents-parent.result c.if-parent-parents.true ∙ ap (λ z. Some z) (sym c.index-parents-parent.is)))

pub returns-else-parent-parents : goal.returns-else-parent-parents
returns-else-parent-parents c =
    ap (is_parent_below (with_kernel (classes_of c.args.classes.now)) c.args.ancestor.now) (sym (slice_get_past c.args.parents.now c.args.parent c.if-parent-parents.false))
