use Rattle.std.proofs.Common.{sym, ap, ◌∙◌}
use Rattle.som_model.specs.Typing.{Ruled, fits}
use Rattle.som_verify_forms.specs.Kinds.{kind_at, type_at}
use Rattle.som_verify_forms.specs.Knowing.{facts_of}
use Rattle.som_elab_body.specs.Code.{among_at, classes_at, typed_at}
use Rattle.som_elab_body.proofs.NameLaws.{place_said}
use Rattle.som_elab_body.specs.Stated.{names_in}
use Rattle.som_elab_body.specs.Statements.{Placed, ruled, set_local}
use Rattle.som_elab_body.proofs.Stating.{kept, local_missing, local_set}
use Rattle.som_elab_body.proofs.plain_statements.local_takes.Goals as goal

pub returns-in-None : goal.returns-in-None
returns-in-None c =
    ap (λ (z : Ruled Placed). ruled z) (local_missing (among_at c.args.context.now) (names_in c.args.context.now c.args.locals.now) c.args.name.now (typed_at (classes_at c.args.context.now) c.args.made) (c.in-None.ensures.is ∙ sym (place_said (classes_at c.args.context.now) c.args.locals.now c.args.name.now 0)))

pub returns-in-Some : goal.returns-in-Some
returns-in-Some c =
    let kind = type_at (classes_at c.args.context.now) c.kind_of_local.result in
    kept (classes_at c.args.context.now) c.args.locals.now (ruled (set_local (among_at c.args.context.now) (names_in c.args.context.now c.args.locals.now) c.args.name.now (typed_at (classes_at c.args.context.now) c.args.made))) 17 c.kind_fits-fits.result (fits (facts_of c.args.context.now.known) kind (kind_at (classes_at c.args.context.now) c.args.made.kind)) _ c.demanded.result
    (ap (λ (z : Ruled Placed). ruled z) (local_set (among_at c.args.context.now) (names_in c.args.context.now c.args.locals.now) c.args.name.now (typed_at (classes_at c.args.context.now) c.args.made) c.in-Some.local kind (c.in-Some.ensures.is ∙ sym (place_said (classes_at c.args.context.now) c.args.locals.now c.args.name.now 0)) (c.kind_of_local.ensures.is (classes_at c.args.context.now))))
    c.kind_fits-fits.ensures c.demanded.ensures

pub kind_fits-fits-requires-clause-wanted : goal.kind_fits-fits-requires-clause-wanted
kind_fits-fits-requires-clause-wanted c = c.kind_of_local.ensures.stands (classes_at c.args.context.now) c.requires.locals
