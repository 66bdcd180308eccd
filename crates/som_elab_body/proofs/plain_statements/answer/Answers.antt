use Rattle.std.proofs.Common.{None, ap, ◌∙◌, refl}
use Rattle.som_model.specs.Typing.{is_nothing}
use Rattle.som_verify_forms.proofs.Keeping.{type_kind}
use Rattle.som_elab_body.specs.Code.{among_at, classes_at, place_at}
use Rattle.som_elab_body.specs.Stated.{names_in}
use Rattle.som_elab_body.specs.Statements.{returned, ruled}
use Rattle.som_elab_body.proofs.Stating.{kept}
use Rattle.som_elab_body.proofs.plain_statements.answer.Goals as goal

pub returns-in-None : goal.returns-in-None
returns-in-None c =
    let cs = classes_at c.args.context.now in
    rw c.in-None.is (kept cs c.args.locals.now (ruled (returned (among_at c.args.context.now) (place_at c.args.context.now) (names_in c.args.context.now c.args.locals.now) None)) 19 c.is_nothing.result _ _ c.demanded.result
    refl (c.is_nothing.ensures cs ∙ ap is_nothing (type_kind cs c.args.context.now.at.result c.requires.context.place.result)) c.demanded.ensures)
