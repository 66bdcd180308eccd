use Rattle.std.proofs.Common.{ap}
use Rattle.std.proofs.lemmas.Result.{err_from_is_err_and}
use Rattle.som_model.specs.declared.program.Interface.{Interface}
use Rattle.som_sema_scope.specs.Words.{interfaces_of}
use Rattle.som_elab_methods.specs.Bodies.{bodies_of}
use Rattle.som_elab.proofs.Conforms.{release_conforms}
use Rattle.som_elab.proofs.Programs.{release_made, release_refused}
use Rattle.som_elab.proofs.build.build_release.Goals as goal

pub returns-in_err-made-clause-answers : goal.returns-in_err-made-clause-answers
returns-in_err-made-clause-answers c =
    let p = err_from_is_err_and c.from_residual.result c.from_residual.ensures.1 in
    rw (p.1, p.2) (release_refused (interfaces_of c.args.idl.now) (bodies_of c.args.bodies.now) (record { classes = c.new.result }) c.in_err-made.field-0.0
    (ap (λ z. let none : Interface = record { classes = z } in none) c.new.ensures) c.in_err-made.ensures)

pub returns : goal.returns
returns c =
    let t = release_made (interfaces_of c.args.idl.now) (bodies_of c.args.bodies.now) (record { classes = c.new.result }) c.in_ok-made.made (ap (λ z. let none : Interface = record { classes = z } in none) c.new.ensures) c.in_ok-made.ensures in
    record { answers = t; conforms = release_conforms (interfaces_of c.args.idl.now) (bodies_of c.args.bodies.now) _ t }
