use Rattle.som_elab_body.specs.Code.{among_at, classes_at, place_at}
use Rattle.som_elab_body.specs.Forms.{method_at, parts_at}
use Rattle.som_elab_body.proofs.FormLaws.{parents_found_is, parents_missing}
use Rattle.som_elab_body.proofs.parent_calls.parents_call.Goals as goal

pub returns-in-Some : goal.returns-in-Some
returns-in-Some c =
    let s = c.args.context.now in
    let cs = classes_at s in
    parents_found_is cs (among_at s) c.call_all.result (place_at s) c.args.name.now (parts_at cs c.args.args) (method_at cs c.args.name.now c.in-Some.method) c.in-Some.ensures.0 c.call_all.ensures

pub returns-in-None : goal.returns-in-None
returns-in-None c =
    let s = c.args.context.now in
    let cs = classes_at s in
    parents_missing cs (among_at s) (place_at s) c.args.name.now (parts_at cs c.args.args) c.in-None.ensures
