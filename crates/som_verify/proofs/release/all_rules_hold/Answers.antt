use Rattle.std.proofs.Common.{ap, ◌∙◌, ◌++◌, map}
use Rattle.std.proofs.lemmas.Result.{err_from_is_err_and}
use Rattle.som_model.specs.declared.key.Module.TheVariants as modules
use Rattle.som_model.specs.Class.{class_in}
use Rattle.som_verify_classes.specs.Modules.{classes_of}
use Rattle.som_verify.proofs.Conforming.{release_tells, release_tells_rules}
use Rattle.som_verify_classes.proofs.Conformity.{tells_later}
use Rattle.som_verify.proofs.release.all_rules_hold.Goals as goal

pub returns-in_err-ancestors : goal.returns-in_err-ancestors
returns-in_err-ancestors c =
    let p = err_from_is_err_and c.from_residual-in_err-ancestors.result c.from_residual-in_err-ancestors.ensures.1 in
    rw (p.1, p.2) (release_tells_rules c.args.release.now (classes_of c.as_slice-declared.result.now) c.in_err-ancestors.field-0.0 (ap classes_of c.as_slice-declared.ensures.value ∙ c.in_ok-declared.ensures ∙ ap (λ z. classes_of z ++ map (class_in modules.Library) c.as_slice.result.now) c.new.ensures.items ∙ ap (map (class_in modules.Library)) c.as_slice.ensures) c.in_err-ancestors.ensures.tells)

pub returns : goal.returns
returns c = release_tells c.args.release.now (classes_of c.as_slice-declared.result.now) c.blocks_typed.result (ap classes_of c.as_slice-declared.ensures.value ∙ c.in_ok-declared.ensures ∙ ap (λ z. classes_of z ++ map (class_in modules.Library) c.as_slice.result.now) c.new.ensures.items ∙ ap (map (class_in modules.Library)) c.as_slice.ensures) (tells_later _ _ c.blocks_typed.result c.in_ok-ancestors.ensures.tells c.blocks_typed.ensures)
