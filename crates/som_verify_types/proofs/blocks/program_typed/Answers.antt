use Rattle.std.proofs.Common.{◌++◌, drop, flat_map}
use Rattle.std.proofs.lemmas.Result.{err_from_is_err_and}
use Rattle.som_model.specs.Conforming.{class_typed, main_typed}
use Rattle.som_model.specs.Lists.{first}
use Rattle.som_verify_classes.specs.Modules.{classes_of}
use Rattle.som_verify_classes.specs.Places.{with_kernel}
use Rattle.som_verify_classes.proofs.Unbroken.{wants_memory}
use Rattle.som_verify_types.proofs.Grounds.{names_none}
use Rattle.som_verify_types.proofs.blocks.program_typed.Goals as goal

pub parts_with-requires-clause-names : goal.parts_with-requires-clause-names
parts_with-requires-clause-names c = names_none (classes_of c.args.classes.now) c.args.base c.requires.rules

pub returns-in_err-parts : goal.returns-in_err-parts
returns-in_err-parts c =
    let p = err_from_is_err_and c.from_residual.result c.from_residual.ensures.1 in
    rw (p.1, p.2) (wants_memory (first (flat_map (class_typed (with_kernel (classes_of c.args.classes.now))) (classes_of (drop c.args.base c.args.classes.now)) ++ main_typed (with_kernel (classes_of c.args.classes.now)) c.args.main.now)) c.in_err-parts.field-0.0 c.in_err-parts.ensures.fault)
