use Rattle.std.proofs.Common.{flat_map}
use Rattle.std.proofs.lemmas.Result.{err_from_is_err_and}
use Rattle.som_model.specs.Lists.{first}
use Rattle.som_sema_drafts.specs.Drafts.{plain_drafts, plain_draft}
use Rattle.som_verify_classes.proofs.Passes.{goes_on, stops, all_pass}
use Rattle.som_sema_drafts.proofs.passes.each_draft.Goals as goal

pub returns-in_err-rule : goal.returns-in_err-rule
returns-in_err-rule g c = λ one f.
    let p = err_from_is_err_and c.from_residual.result c.from_residual.ensures.1 in
    rw (p.1, p.2) (stops one plain_draft c.args.drafts.now (first (flat_map one (plain_drafts c.args.drafts.now))) c.loop-place.place c.in_err-rule.field-0.0 c.loop-place-test.true
    (λ d at. f c.loop-place.place d _ at c.in_err-rule.ensures) (c.loop-place.invariant one f))

pub loop-place-preserved : goal.loop-place-preserved
loop-place-preserved g c = λ one f.
    goes_on one plain_draft c.args.drafts.now (first (flat_map one (plain_drafts c.args.drafts.now))) c.loop-place.place c.in_ok-rule.field-0 c.loop-place-test.true
    (λ d at. f c.loop-place.place d _ at c.in_ok-rule.ensures) (c.loop-place.invariant one f)

pub returns : goal.returns
returns g c = λ one f. all_pass one plain_draft c.args.drafts.now (first (flat_map one (plain_drafts c.args.drafts.now))) c.loop-place.place c.loop-place-test.false (c.loop-place.invariant one f)
