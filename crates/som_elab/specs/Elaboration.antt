-- The release and the client program that texts stand for, or what is first in their way: the limit of classes, the rules S1 to S14, the other limits, and then what bodies break, one after the other.
use Rattle.std.specs.Prelude.{List, [], ◌∷◌, length, codes, Option, Result, Ok}
use Rattle.som_model.specs.declared.key.Module.{Module}
use Rattle.som_model.specs.declared.key.Module.TheVariants as modules
use Rattle.som_model.specs.declared.class.ClassDecl.{ClassDecl}
use Rattle.som_model.specs.declared.program.Interface.{Interface}
use Rattle.som_model.specs.declared.program.Release.{Release}
use Rattle.som_model.specs.declared.program.ClientProgram.{ClientProgram}
use Rattle.som_model.specs.Lists.{first}
use Rattle.som_model.specs.Steps.{◌>>=◌}
use Rattle.som_model.specs.Class.{Class}
use Rattle.som_model.specs.Classes.{interface_classes}
use Rattle.som_ast.specs.declared.interface.IdlInterface.{IdlInterface}
use Rattle.som_ast.specs.declared.body.BodyText.{BodyText}
use Rattle.som_ast.specs.declared.body.BlockText.{BlockText}
use Rattle.som_verify_classes.specs.Places.{with_kernel}
use Rattle.som_sema_decls.specs.Known.{after_base}
use Rattle.som_elab.specs.Blocks.{Refusal, elaborated_each, elaborated_main, keeping, obeying}
use Rattle.som_sema_drafts.specs.Drafts.{InterfaceDraft}
use Rattle.som_sema.specs.Building.{declarations, module_over, most_classes, texts_breach}
use Rattle.som_elab_methods.specs.Limits.{Passed, at_most, limit_passed}
use Rattle.som_elab_body.specs.Expressions.{Among}
use Rattle.som_elab_methods.specs.Bodies.{bodies_breach}

-- interfaces with declarations, one by one
abbrev pub drafts_of_classes : List IdlInterface → List ClassDecl → List InterfaceDraft
drafts_of_classes [] cs = []
drafts_of_classes (i ∷ is) [] = []
drafts_of_classes (i ∷ is) (c ∷ cs) = record { text = i; class = c } ∷ drafts_of_classes is cs

-- each interface with its declaration
abbrev pub drafts_over : Module → Interface → List IdlInterface → List InterfaceDraft
drafts_over m base is = drafts_of_classes is (declarations m base is)

-- the kernel's classes, those of the base and the declared ones
abbrev pub classes_over : Module → Interface → List IdlInterface → List Class
classes_over m base is = with_kernel (after_base m (interface_classes base) (declarations m base is))

-- what the bodies of a module's texts are elaborated among
abbrev pub among_over : Module → Interface → List IdlInterface → Among
among_over m base is = record { classes = classes_over m base is; module_of = module_over m base is }

-- the limit of classes, if it is passed
abbrev pub classes_passed : Module → List IdlInterface → Option Passed
classes_passed m is = first (at_most (codes "classes") (most_classes m) (length is))

-- the classes of a module that is compiled against a base
abbrev pub elaborated_classes : Module → Interface → List IdlInterface → List BodyText → Result (List ClassDecl) Refusal
elaborated_classes m base is bs =
    keeping (classes_passed m is)
    (obeying (texts_breach m base is)
    (obeying (bodies_breach (classes_over m base is) (drafts_over m base is) bs)
    (keeping (limit_passed (drafts_over m base is))
    (elaborated_each (among_over m base is) m bs (drafts_over m base is)))))

-- a library is compiled against no classes
abbrev pub nothing_before : Interface
nothing_before = record { classes = [] }

-- the release that the texts of a library stand for
unfoldable pub elaborated_release : List IdlInterface → List BodyText → Result Release Refusal
elaborated_release is bs = elaborated_classes modules.Library nothing_before is bs >>= λ cs. Ok (record { classes = cs })

-- the client program that texts stand for which are compiled against a base
unfoldable pub elaborated_program : Interface → List IdlInterface → List BodyText → BlockText → Result ClientProgram Refusal
elaborated_program base is bs main =
    elaborated_classes modules.Client base is bs >>= λ cs.
    elaborated_main (among_over modules.Client base is) main >>= λ block.
    Ok (record { base = base; classes = cs; main = block })
