use Rattle.std.proofs.Common.{ap, ◌∙◌, length, map}
use Rattle.std.proofs.lemmas.Result.{err_from_is_err_and}
use Rattle.som_model.specs.Class.{bare}
use Rattle.som_verify_classes.specs.Modules.{classes_of}
use Rattle.som_verify_classes.proofs.Conformity.{tells_later}
use Rattle.som_verify.proofs.Programs.{all_tell, few, rules_tell}
use Rattle.som_verify.proofs.program.all_rules_hold.Goals as goal

pub declare_program-requires : goal.declare_program-requires
declare_program-requires c = c.as_slice-2.ensures ∙ c.in_ok-base.ensures ∙ ap (map bare) c.as_slice.ensures

pub ancestors_where_rules_hold-requires : goal.ancestors_where_rules_hold-requires
ancestors_where_rules_hold-requires c = few c.args.program.now c.as_slice-declared.result.now (length c.as_slice-number.result.now) (ap classes_of c.as_slice-declared.ensures.value ∙ c.in_ok-declared.ensures) (ap length c.as_slice-number.ensures)

pub program_typed-requires-clause-base : goal.program_typed-requires-clause-base
program_typed-requires-clause-base c = few c.args.program.now c.as_slice-declared.result.now (length c.as_slice-number.result.now) (ap classes_of c.as_slice-declared.ensures.value ∙ c.in_ok-declared.ensures) (ap length c.as_slice-number.ensures)

pub returns-in_err-ancestors : goal.returns-in_err-ancestors
returns-in_err-ancestors c =
    let p = err_from_is_err_and c.from_residual-in_err-ancestors.result c.from_residual-in_err-ancestors.ensures.1 in
    rw (p.1, p.2) (rules_tell c.args.program.now c.as_slice-declared.result.now (length c.as_slice-number.result.now) (ap classes_of c.as_slice-declared.ensures.value ∙ c.in_ok-declared.ensures) (ap length c.as_slice-number.ensures) c.in_err-ancestors.field-0.0 c.in_err-ancestors.ensures.tells)

pub returns : goal.returns
returns c = all_tell c.args.program.now c.as_slice-declared.result.now (length c.as_slice-number.result.now) (ap classes_of c.as_slice-declared.ensures.value ∙ c.in_ok-declared.ensures) (ap length c.as_slice-number.ensures) c.program_typed.result (tells_later _ _ c.program_typed.result c.in_ok-ancestors.ensures.tells c.program_typed.ensures)
