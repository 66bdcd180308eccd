use Rattle.std.proofs.Common.{ap, sym, ◌∙◌}
use Rattle.std.proofs.lemmas.Result.{IfOk-from_err}
use Rattle.som_model.specs.declared.key.ValueType.TheVariants as types
use Rattle.som_sema_scope.specs.ClassNames.{module_in_scope, key_of, type_of}
use Rattle.som_sema_scope.proofs.scope.type_of.Goals as goal

pub returns-in_ok-key_of-in-Class : goal.returns-in_ok-key_of-in-Class
returns-in_ok-key_of-in-Class c =
    ap (λ k. types.Class k) (c.in_ok-key_of-in-Class.ensures ∙ ap (key_of (module_in_scope c.args.scope.now)) c.as_slice.ensures) ∙ ap (type_of (module_in_scope c.args.scope.now)) (sym c.in-Class.is)

pub returns-in_err-key_of-in-Class : goal.returns-in_err-key_of-in-Class
returns-in_err-key_of-in-Class c = IfOk-from_err c.from_residual.result _ c.from_residual.ensures.0
