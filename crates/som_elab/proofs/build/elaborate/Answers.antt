use Rattle.std.proofs.lemmas.Result.{err_from_is_err_and}
use Rattle.som_sema_scope.specs.Words.{interfaces_of}
use Rattle.som_elab_methods.specs.Bodies.{bodies_of}
use Rattle.som_elab.proofs.Conforms.{program_conforms}
use Rattle.som_elab.proofs.Programs.{program_made, program_refused}
use Rattle.som_elab.proofs.build.elaborate.Goals as goal

pub returns-in_err-made-clause-answers : goal.returns-in_err-made-clause-answers
returns-in_err-made-clause-answers c =
    let p = err_from_is_err_and c.from_residual.result c.from_residual.ensures.1 in
    rw (p.1, p.2) (program_refused c.args.base.now (interfaces_of c.args.idl.now) (bodies_of c.args.bodies.now) c.args.main.now.block c.in_err-made.field-0.0 c.in_err-made.ensures)

pub returns : goal.returns
returns c =
    let t = program_made c.args.base.now (interfaces_of c.args.idl.now) (bodies_of c.args.bodies.now) c.args.main.now.block c.in_ok-made.made c.in_ok-made.ensures in
    record { answers = rw c.in_ok-base.ensures t; conforms = rw c.in_ok-base.ensures (program_conforms c.args.base.now (interfaces_of c.args.idl.now) (bodies_of c.args.bodies.now) c.args.main.now.block _ c.requires.conforms t) }
