-- Which of the rules S1 to S12 interfaces keep where one of them is told as broken.
use Rattle.std.specs.Prelude.{ℕ, ◌<◌, List}
use Rattle.som_model.specs.declared.key.Module.{Module}
use Rattle.som_model.specs.declared.program.Interface.{Interface}
use Rattle.som_ast.specs.declared.interface.IdlInterface.{IdlInterface}
use Rattle.som_verify_classes.specs.Places.{with_kernel}
use Rattle.som_verify_classes.specs.Plainly.{IntroducedOnce, NamesApart, ParentsDiffer, TypesKnown, VariablesDiffer}
use Rattle.som_sema.specs.Building.{module_over}
use Rattle.som_sema.specs.PlainTexts.{BasesStand, ItemsDiffer, MetaclassesDescend, ModifiersStand, NamesDiffer, ReplacedInherited}
use Rattle.som_elab_laws.specs.Keeping.{OrdersStand, first_place, interfaces_over, known_classes, own_classes}

-- the interfaces keep each of these rules that has a lower number than this
pub record KeepBelow (m : Module) (base : Interface) (is : List IdlInterface) (rule : ℕ) : Type 0 where
  pub names : 1 < rule → NamesApart (known_classes m base is)
  pub bases : 2 < rule → BasesStand (module_over m base is) (with_kernel (known_classes m base is)) (first_place base) (interfaces_over m base is)
  pub parents : 3 < rule → ParentsDiffer (own_classes m base is)
  pub metaclasses : 4 < rule → MetaclassesDescend (module_over m base is) (with_kernel (known_classes m base is)) (interfaces_over m base is)
  pub types : 5 < rule → TypesKnown (with_kernel (known_classes m base is)) (own_classes m base is)
  pub introduced : 6 < rule → NamesDiffer (interfaces_over m base is)
  pub variables : 7 < rule → VariablesDiffer (own_classes m base is)
  pub once : 8 < rule → IntroducedOnce (known_classes m base is)
  pub orders : 9 < rule → OrdersStand m (with_kernel (known_classes m base is)) (interfaces_over m base is)
  pub inherited : 10 < rule → ReplacedInherited (module_over m base is) (with_kernel (known_classes m base is)) (first_place base) (interfaces_over m base is)
  pub modifiers : 11 < rule → ModifiersStand (interfaces_over m base is)
  pub items : 12 < rule → ItemsDiffer (interfaces_over m base is)
