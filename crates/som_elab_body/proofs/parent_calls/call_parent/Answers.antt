use Rattle.som_verify_classes.specs.Places.{key_at}
use Rattle.som_elab_body.specs.Code.{among_at, classes_at, place_at}
use Rattle.som_elab_body.specs.Forms.{method_at, parts_at}
use Rattle.som_elab_body.proofs.FormLaws.{method_found, method_missing}
use Rattle.som_elab_body.proofs.parent_calls.call_parent.Goals as goal

pub returns-in-None : goal.returns-in-None
returns-in-None c =
    let s = c.args.context.now in
    let cs = classes_at s in
    method_missing cs (among_at s) (place_at s) c.args.parent.now (key_at cs c.class_of_parent-class.result) c.args.name.now (parts_at cs c.args.args) c.args.number c.class_of_parent-class.ensures.is c.in-None.ensures

pub returns-in-Some : goal.returns-in-Some
returns-in-Some c =
    let s = c.args.context.now in
    let cs = classes_at s in
    method_found cs (among_at s) c.call_at.result (place_at s) c.args.parent.now (key_at cs c.class_of_parent-class.result) c.args.name.now (parts_at cs c.args.args) c.args.number
    (method_at cs c.args.name.now c.in-Some.method) c.class_of_parent-class.ensures.is c.in-Some.ensures.0 c.call_at.ensures
