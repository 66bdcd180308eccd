-- What the texts of a module come to, as the code has it.
use Rattle.std.specs.Prelude.{List, Option, Result, Ok}
use Rattle.som_model.specs.declared.key.Module.{Module}
use Rattle.som_model.specs.declared.program.Interface.{Interface}
use Rattle.som_model.specs.Steps.{◌>>=◌}
use Rattle.som_ast.specs.declared.interface.IdlInterface.{IdlInterface}
use Rattle.som_ast.specs.declared.body.BodyText.{BodyText}
use Rattle.som_ast.specs.declared.body.BlockText.{BlockText}
use Rattle.som_elab.specs.Blocks.{Refusal}
use Rattle.som_elab.specs.Contexts.{main_block}
use Rattle.som_elab.specs.Elaboration.{among_over, elaborated_classes}
use Rattle.som_elab.specs.declared.elaborated.ElaboratedModule.{ElaboratedModule}

-- the classes and the main that texts stand for
abbrev pub elaborated_module : Module → Interface → List IdlInterface → List BodyText → Option BlockText → Result ElaboratedModule Refusal
elaborated_module m base is bs main =
    elaborated_classes m base is bs >>= λ cs. main_block (among_over m base is) main >>= λ block. Ok (record { classes = cs; main = block })
