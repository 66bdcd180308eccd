use Rattle.std.proofs.Common.{Ok, Err, ap}
use Rattle.som_model.specs.Typing.{Ruled, fits}
use Rattle.som_verify_forms.specs.Kinds.{kind_at, type_at}
use Rattle.som_verify_forms.specs.Knowing.{facts_of}
use Rattle.som_elab_body.specs.Code.{among_at, classes_at, typed_at, place_at}
use Rattle.som_elab_body.specs.Stated.{names_in}
use Rattle.som_elab_body.specs.Statements.{Placed, ruled, set_variable}
use Rattle.som_elab_body.proofs.Stating.{kept, variable_at, variable_missing}
use Rattle.som_elab_body.proofs.plain_statements.variable_takes.Goals as goal

pub returns-in-None : goal.returns-in-None
returns-in-None c = ap (λ (z : Ruled Placed). ruled z) (variable_missing (among_at c.args.context.now) (place_at c.args.context.now) (names_in c.args.context.now c.args.locals.now) c.args.name.now (typed_at (classes_at c.args.context.now) c.args.made) c.in-None.ensures)

pub returns-in-Err : goal.returns-in-Err
returns-in-Err c = ap (λ (z : Ruled Placed). ruled z) (variable_at (among_at c.args.context.now) (place_at c.args.context.now) (names_in c.args.context.now c.args.locals.now) c.args.name.now (typed_at (classes_at c.args.context.now) c.args.made) c.in-Some.variable (Err c.in-Err.rule) c.in-Some.ensures c.in-Err.ensures)

pub returns-in-Ok : goal.returns-in-Ok
returns-in-Ok c =
    let kind = type_at (classes_at c.args.context.now) c.in-Ok.wanted in
    kept (classes_at c.args.context.now) c.args.locals.now (ruled (set_variable (among_at c.args.context.now) (place_at c.args.context.now) (names_in c.args.context.now c.args.locals.now) c.args.name.now (typed_at (classes_at c.args.context.now) c.args.made))) 17 c.kind_fits-fits.result (fits (facts_of c.args.context.now.known) kind (kind_at (classes_at c.args.context.now) c.args.made.kind)) _ c.demanded.result
    (ap (λ (z : Ruled Placed). ruled z) (variable_at (among_at c.args.context.now) (place_at c.args.context.now) (names_in c.args.context.now c.args.locals.now) c.args.name.now (typed_at (classes_at c.args.context.now) c.args.made) c.in-Some.variable (Ok kind) c.in-Some.ensures c.in-Ok.ensures.0))
    c.kind_fits-fits.ensures c.demanded.ensures
