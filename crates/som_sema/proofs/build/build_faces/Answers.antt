use Rattle.std.proofs.Common.{length, ap, ◌∙◌, arith}
use Rattle.std.specs.Borrow.{Bor}
use Rattle.som_ast.specs.declared.interface.IdlInterface.{IdlInterface}
use Rattle.som_verify_classes.proofs.DeclaredClasses.{long_map}
use Rattle.som_sema_scope.specs.Words.{interfaces_of, lent}
use Rattle.som_sema.proofs.Answered.{err_told}
use Rattle.som_sema.proofs.build.build_faces.Goals as goal

pub returns : goal.returns
returns c =
    let same = ap lent c.as_slice-all.ensures.value ∙ c.in_ok-interfaces.ensures ∙ ap interfaces_of c.as_slice.ensures in
    err_told c.args.own_module c.args.base.now (interfaces_of c.args.idl.now) (lent c.as_slice-all.result.now) c.in-Err.fault c.refused.result same c.refused.ensures
    (omega (arith, ap length same, long_map (λ (b : Bor IdlInterface). b.now) c.as_slice-all.result.now, c.most_classes-most.ensures)) c.in-Err.ensures.tells
