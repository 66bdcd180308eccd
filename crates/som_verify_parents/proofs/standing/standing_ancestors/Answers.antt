use Rattle.std.proofs.Common.{refl}
use Rattle.std.proofs.lemmas.Result.{IfOk-weaker, err_from_is_err_and}
use Rattle.som_order.specs.Names.{texts}
use Rattle.som_verify_classes.specs.Modules.{classes_of}
use Rattle.som_verify_classes.proofs.Conformity.{tells_after, tells_here}
use Rattle.som_verify_classes.proofs.KeyLists.{lists_of}
use Rattle.som_verify_parents.proofs.standing.standing_ancestors.Goals as goal

pub returns-in_err-rows-clause-tells : goal.returns-in_err-rows-clause-tells
returns-in_err-rows-clause-tells c =
    let p = err_from_is_err_and c.from_residual.result c.from_residual.ensures.1 in
    rw (p.1, p.2) (tells_here _ _ c.in_err-rows.field-0.0 c.in_err-rows.ensures.tells)

pub distinct_ancestors-requires : goal.distinct_ancestors-requires
distinct_ancestors-requires c = λ i p m. c.in_ok-rows.ensures.rows.low i p (rw c.deref.ensures.value at m)

pub returns-clause-tells : goal.returns-clause-tells
returns-clause-tells c = tells_after _ _ c.distinct_ancestors.result c.in_ok-rows.ensures.tells c.distinct_ancestors.ensures.tells

pub returns-clause-lists : goal.returns-clause-lists
returns-clause-lists c = IfOk-weaker c.distinct_ancestors.result _ _ (λ lists walked.
    lists_of (classes_of c.args.classes.now) (texts c.args.table.now.keys) c.requires c.in_ok-rows.rows.items c.deref.result.now lists.items lists.items
    c.in_ok-rows.ensures.rows c.deref.ensures.value walked refl) c.distinct_ancestors.ensures.lists
