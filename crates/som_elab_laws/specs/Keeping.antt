-- What interfaces keep where they break none of the rules S1 to S12, said of every interface and of all that it declares.
use Rattle.std.specs.Prelude.{ℕ, List, ◌++◌, length, map}
use Rattle.som_model.specs.declared.key.ClassKey.{ClassKey}
use Rattle.som_model.specs.declared.key.Module.{Module}
use Rattle.som_model.specs.declared.program.Interface.{Interface}
use Rattle.som_model.specs.Class.{Class, class_in, introduced}
use Rattle.som_model.specs.Classes.{interface_classes}
use Rattle.som_model.specs.Lists.{Mem}
use Rattle.som_ast.specs.declared.interface.IdlInterface.{IdlInterface}
use Rattle.som_verify_classes.specs.Places.{with_kernel}
use Rattle.som_verify_classes.specs.Plainly.{IntroducedOnce, NamesApart, ParentsDiffer, TypesKnown, VariablesDiffer}
use Rattle.som_sema.specs.Building.{module_over}
use Rattle.som_sema.specs.PlainTexts.{BasesStand, Inherits, ItemsDiffer, MetaclassesDescend, ModifiersStand, NamesDiffer, ReplacedInherited}
use Rattle.som_sema_drafts.specs.Drafts.{InterfaceDraft, draft_classes, draft_of}
use Rattle.som_sema_drafts.specs.Items.{listed}

-- the interfaces, each with the class that it declares by itself: its name, parents and metaclass, the methods that it introduces, and its variables
abbrev pub interfaces_over : Module → Interface → List IdlInterface → List InterfaceDraft
interfaces_over m base is = map (draft_of (module_over m base is)) is

-- these classes
abbrev pub own_classes : Module → Interface → List IdlInterface → List Class
own_classes m base is = map (class_in m) (draft_classes (interfaces_over m base is))

-- the classes of the base, and then these
abbrev pub known_classes : Module → Interface → List IdlInterface → List Class
known_classes m base is = interface_classes base ++ own_classes m base is

-- at which place the class of the first interface stands, after the kernel's and those of the base
abbrev pub first_place : Interface → ℕ
first_place base = length (with_kernel (interface_classes base))

-- S9: a name that stands in the release order of a class, and that the class doesn't introduce, is inherited from a proper ancestor
pub record OrdersStand (m : Module) (cs : List Class) (ds : List InterfaceDraft) : Type 0 where
  pub by : (d : InterfaceDraft) (name : List ℕ) → Mem d ds → Mem name (listed d.text.items) → (Mem name (introduced d.class.face.entries) → ⊥)
      → (a : ClassKey) × Inherits cs (class_in m d.class).key a name

-- the interfaces keep the rules
pub record TextsKeep (m : Module) (base : Interface) (is : List IdlInterface) : Type 0 where
  -- S1: no two classes have one name, of the kernel's, the base's and theirs
  pub names : NamesApart (known_classes m base is)
  -- S2: each parent, SOMObject where none is named, and each metaclass names a class that stands before
  pub bases : BasesStand (module_over m base is) (with_kernel (known_classes m base is)) (first_place base) (interfaces_over m base is)
  -- S3: no parent stands twice
  pub parents : ParentsDiffer (own_classes m base is)
  -- S4: each metaclass descends from SOMClass
  pub metaclasses : MetaclassesDescend (module_over m base is) (with_kernel (known_classes m base is)) (interfaces_over m base is)
  -- S5: each class in a type is known, and what holds a value isn't void
  pub types : TypesKnown (with_kernel (known_classes m base is)) (own_classes m base is)
  -- S6: no method is introduced twice, or stands twice in a release order
  pub introduced : NamesDiffer (interfaces_over m base is)
  -- S7: no two variables of a class have one name
  pub variables : VariablesDiffer (own_classes m base is)
  -- S8: no two ancestors of a class introduce one name
  pub once : IntroducedOnce (known_classes m base is)
  -- S9: what a release order names and its class doesn't introduce is inherited
  pub orders : OrdersStand m (with_kernel (known_classes m base is)) (interfaces_over m base is)
  -- S10: what is overridden or selected is inherited, and selected of a parent that has it
  pub inherited : ReplacedInherited (module_over m base is) (with_kernel (known_classes m base is)) (first_place base) (interfaces_over m base is)
  -- S11: modifiers stand where they may
  pub modifiers : ModifiersStand (interfaces_over m base is)
  -- S12: the release order, the metaclass and each version are said once
  pub items : ItemsDiffer (interfaces_over m base is)
