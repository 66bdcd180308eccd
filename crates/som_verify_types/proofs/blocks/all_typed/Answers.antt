use Rattle.std.proofs.Common.{drop, flat_map}
use Rattle.std.proofs.lemmas.Result.{err_from_is_err_and}
use Rattle.som_model.specs.Conforming.{class_typed, main_typed}
use Rattle.som_verify_forms.specs.Knowing.{all_of}
use Rattle.som_verify_classes.specs.Modules.{classes_of}
use Rattle.som_verify_types.proofs.BodySteps.{both_here, both_later}
use Rattle.som_verify_types.proofs.blocks.all_typed.Goals as goal

pub returns-in_err-bodies_typed : goal.returns-in_err-bodies_typed
returns-in_err-bodies_typed c =
    let p = err_from_is_err_and c.from_residual.result c.from_residual.ensures.1 in
    rw (p.1, p.2) (both_here (flat_map (class_typed (all_of c.args.known.now)) (classes_of (drop c.args.base c.args.known.now.classes.now))) (main_typed (all_of c.args.known.now) c.args.main.now) c.in_err-bodies_typed.field-0.0 c.in_err-bodies_typed.ensures)

pub returns : goal.returns
returns c = both_later (flat_map (class_typed (all_of c.args.known.now)) (classes_of (drop c.args.base c.args.known.now.classes.now))) (main_typed (all_of c.args.known.now) c.args.main.now) c.main_typed.result c.in_ok-bodies_typed.ensures c.main_typed.ensures
