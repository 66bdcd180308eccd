use Rattle.std.proofs.Common.{ap, ◌∙◌, length, map}
use Rattle.som_model.specs.Class.{bare}
use Rattle.som_verify_classes.specs.Modules.{classes_of}
use Rattle.som_verify.proofs.Programs.{program_tells}
use Rattle.som_verify.proofs.program.program_rules.Goals as goal

pub declare_program-requires : goal.declare_program-requires
declare_program-requires c = c.as_slice-2.ensures ∙ c.in_ok-base.ensures ∙ ap (map bare) c.as_slice.ensures

pub returns : goal.returns
returns c =
    program_tells c.args.program.now c.as_slice-declared.result.now (length c.as_slice-number.result.now) (ap classes_of c.as_slice-declared.ensures.value ∙ c.in_ok-declared.ensures)
    (ap length c.as_slice-number.ensures) c.rules_hold.result c.rules_hold.ensures
