use Rattle.som_elab_body.specs.Code.{among_at, classes_at, place_at}
use Rattle.som_elab_body.specs.Forms.{parts_at}
use Rattle.som_elab_body.proofs.FormLaws.{no_parent, parent_placed}
use Rattle.som_elab_body.proofs.parent_calls.parent_call.Goals as goal

pub returns-in-None : goal.returns-in-None
returns-in-None c =
    let s = c.args.context.now in
    let cs = classes_at s in
    no_parent cs (among_at s) (place_at s) c.args.parent.now c.args.name.now c.in_ok-key.key (parts_at cs c.args.args) c.in_ok-key.ensures c.in-None.ensures

pub returns-in-Some : goal.returns-in-Some
returns-in-Some c =
    let s = c.args.context.now in
    let cs = classes_at s in
    parent_placed cs (among_at s) c.call_parent.result (place_at s) c.args.parent.now c.args.name.now c.in_ok-key.key (parts_at cs c.args.args) c.in-Some.number c.in_ok-key.ensures c.in-Some.ensures c.call_parent.ensures
