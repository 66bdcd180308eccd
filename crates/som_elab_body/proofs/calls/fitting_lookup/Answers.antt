use Rattle.std.proofs.Common.{Err}
use Rattle.som_verify_forms.specs.declared.code_place.TypeFault.TheVariants as faults
use Rattle.som_elab_body.specs.Code.{classes_at, typed_at}
use Rattle.som_elab_body.specs.Forms.{facts_at, method_at}
use Rattle.som_elab_body.proofs.FormLaws.{fitting_fails, fitting_made}
use Rattle.som_elab_body.proofs.calls.fitting_lookup.Goals as goal

pub returns-in_ok-answer : goal.returns-in_ok-answer
returns-in_ok-answer c =
    let s = c.args.context.now in
    let cs = classes_at s in
    fitting_made cs (facts_at s) c.args.args c.as_slice-2.result.now c.lookup.result c.requires.args c.as_slice-2.ensures.value (method_at cs c.args.name.now c.args.method.now) (typed_at cs c.args.on)
    c.in_ok-answer.answer c.as_slice.result.now c.all_fit.result c.as_slice.ensures c.all_fit.ensures c.if-all_fit.true c.in_ok-answer.ensures (rw c.in_ok-name.ensures at c.lookup.ensures)

pub returns-else-all_fit : goal.returns-else-all_fit
returns-else-all_fit c =
    let s = c.args.context.now in
    let cs = classes_at s in
    fitting_fails cs (facts_at s) c.args.args c.as_slice-2.result.now (Err (faults.Rule 18)) c.requires.args c.as_slice-2.ensures.value (method_at cs c.args.name.now c.args.method.now) (typed_at cs c.args.on)
    c.as_slice.result.now c.all_fit.result c.as_slice.ensures c.all_fit.ensures c.if-all_fit.false
