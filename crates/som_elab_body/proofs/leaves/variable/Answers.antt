use Rattle.som_model.specs.Typing.{own_variable}
use Rattle.som_elab_body.specs.Code.{classes_at, place_at}
use Rattle.som_elab_body.specs.Forms.{of_kind}
use Rattle.som_elab_body.proofs.NameLaws.{looked_up, variable_found, variable_missing}
use Rattle.som_elab_body.proofs.leaves.variable.Goals as goal

pub returns-in-None : goal.returns-in-None
returns-in-None c = variable_missing (place_at c.args.context.now) c.args.name.now c.in-None.ensures

pub returns-in-Some : goal.returns-in-Some
returns-in-Some c =
    let cs = classes_at c.args.context.now in
    let at = place_at c.args.context.now in
    let n = c.in-Some.place in
    variable_found cs at c.args.name.now n c.formed.result c.in-Some.ensures
    (c.formed.ensures cs (of_kind (own_variable at n)) (looked_up cs (own_variable at n) c.variable_kind.result c.variable_kind.ensures))
