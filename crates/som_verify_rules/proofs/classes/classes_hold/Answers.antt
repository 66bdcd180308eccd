use Rattle.std.proofs.lemmas.Result.{err_from_is_err_and}
use Rattle.som_verify_classes.specs.Modules.{classes_of}
use Rattle.som_verify_classes.proofs.Conformity.{names_stop}
use Rattle.som_verify_rules.proofs.Passing.{names_pass_with}
use Rattle.som_verify_rules.proofs.classes.classes_hold.Goals as goal

pub returns-in_err-table-clause-tells : goal.returns-in_err-table-clause-tells
returns-in_err-table-clause-tells c =
    let p = err_from_is_err_and c.from_residual.result c.from_residual.ensures.1 in
    rw (p.1, p.2) (names_stop c.args.base (classes_of c.args.classes.now) c.in_err-table.field-0.0 c.in_err-table.ensures.tells)

pub returns-clause-tells : goal.returns-clause-tells
returns-clause-tells c = names_pass_with c.args.base (classes_of c.args.classes.now) c.named_hold.result c.in_ok-table.ensures.tells c.named_hold.ensures.tells
