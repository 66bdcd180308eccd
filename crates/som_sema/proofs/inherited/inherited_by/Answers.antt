use Rattle.std.proofs.Common.{arith}
use Rattle.std.proofs.lemmas.Result.{err_from_is_err_and}
use Rattle.som_verify_classes.specs.Modules.{classes_of}
use Rattle.som_verify_classes.specs.Places.{with_kernel}
use Rattle.som_sema_scope.specs.ClassNames.{module_in_scope}
use Rattle.som_sema.proofs.TextInherited.{inherited_more, inherited_stop}
use Rattle.som_sema.proofs.inherited.inherited_by.Goals as goal

pub returns-in_err-own_inherited : goal.returns-in_err-own_inherited
returns-in_err-own_inherited c =
    let p = err_from_is_err_and c.from_residual.result c.from_residual.ensures.1 in
    rw (p.1, p.2) (inherited_stop (module_in_scope c.args.scope.now) (with_kernel (classes_of c.args.classes.now)) c.args.drafts.now c.loop-draft.draft-index c.loop-draft.place c.draft-item.result _
    c.in_err-own_inherited.field-0.0 c.loop-draft-test.true c.draft-item.is c.in_err-own_inherited.ensures c.loop-draft.invariant.same)

pub loop-draft-preserved : goal.loop-draft-preserved
loop-draft-preserved c = record {
  place = omega (arith, c.loop-draft.invariant.place);
  same = inherited_more (module_in_scope c.args.scope.now) (with_kernel (classes_of c.args.classes.now)) c.args.drafts.now c.loop-draft.draft-index c.loop-draft.place c.draft-item.result _
      c.loop-draft-test.true c.draft-item.is c.in_ok-own_inherited.ensures c.loop-draft.invariant.same;
}
