use Rattle.som_elab_body.specs.Code.{among_at, classes_at, typed_at}
use Rattle.som_elab_body.specs.Forms.{method_at, parts_at}
use Rattle.som_elab_body.proofs.FormLaws.{call_found_is, call_missing}
use Rattle.som_elab_body.proofs.calls.call.Goals as goal

pub returns-in-Some : goal.returns-in-Some
returns-in-Some c =
    let s = c.args.context.now in
    let cs = classes_at s in
    call_found_is cs (among_at s) c.call_found.result (typed_at cs c.args.on) c.args.name.now (parts_at cs c.args.args) (method_at cs c.args.name.now c.in-Some.method) c.in-Some.ensures.0 c.call_found.ensures

pub returns-in-None : goal.returns-in-None
returns-in-None c =
    let s = c.args.context.now in
    let cs = classes_at s in
    call_missing cs (among_at s) (typed_at cs c.args.on) c.args.name.now (parts_at cs c.args.args) c.in-None.ensures
