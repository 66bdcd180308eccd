-- What the interfaces of whole texts say.
use Rattle.std.specs.Prelude.{List, ◌++◌}
use Rattle.som_model.specs.declared.key.Module.TheVariants as modules
use Rattle.som_model.specs.declared.program.ClientProgram.{ClientProgram}
use Rattle.som_model.specs.declared.program.Interface.{Interface}
use Rattle.som_model.specs.declared.program.Release.{Release}
use Rattle.som_model.specs.Classes.{client_classes, interface_classes, library_classes}
use Rattle.som_ast.specs.declared.interface.IdlInterface.{IdlInterface}
use Rattle.som_verify_classes.specs.Places.{with_kernel}
use Rattle.som_sema.specs.Building.{module_over}
use Rattle.som_elab.specs.Elaboration.{nothing_before}
use Rattle.som_sema_laws.specs.Replacing.{ClassesSay}

-- the interfaces of a library say the classes of this release: among these and the kernel's
abbrev pub InterfacesSay : List IdlInterface → Release → Type 0
InterfacesSay is r = ClassesSay (module_over modules.Library nothing_before is) (with_kernel (library_classes r)) is r.classes

-- the interfaces of a client say the classes of its own in this program: among these, those of its base and the kernel's
abbrev pub InterfacesSayOver : Interface → List IdlInterface → ClientProgram → Type 0
InterfacesSayOver base is p = ClassesSay (module_over modules.Client base is) (with_kernel (interface_classes base ++ client_classes p)) is p.classes
