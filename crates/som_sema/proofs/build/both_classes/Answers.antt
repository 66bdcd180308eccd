use Rattle.std.proofs.Common.{List, ap, map, ◌++◌, ◌∙◌}
use Rattle.std.proofs.lemmas.Result.{IfOk-weaker}
use Rattle.som_model.specs.Class.{class_in}
use Rattle.som_model.specs.declared.key.Module.TheVariants as modules
use Rattle.som_verify_classes.specs.Modules.{classes_of}
use Rattle.som_verify_classes.specs.declared.types.Declared.{Declared}
use Rattle.som_sema.proofs.build.both_classes.Goals as goal

pub returns : goal.returns
returns c = IfOk-weaker c.declare-2.result _ _ (λ all owns.
    owns
    ∙ ap (λ z. z ++ map (class_in c.args.own_module) c.args.own.now)
    (c.in_ok-known.ensures ∙ ap (λ (z : List Declared). classes_of z ++ map (class_in modules.Library) c.args.base.now) c.new.ensures.items)) c.declare-2.ensures
