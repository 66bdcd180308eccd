-- Which names a change of modules keeps apart, and which classes speak of no others.
use Rattle.std.specs.Prelude.{◌≡◌, ℕ, Bool, true, List, Some, is_some}
use Rattle.som_model.specs.declared.key.Module.{Module}
use Rattle.som_model.specs.declared.key.Module.TheVariants as modules
use Rattle.som_model.specs.declared.key.ClassKey.{ClassKey, fold-ClassKey}
use Rattle.som_model.specs.declared.key.ClassKey.TheVariants as keys
use Rattle.som_model.specs.declared.key.ClassKey.TheOpen.{ClassKey-F}
use Rattle.som_model.specs.declared.class.Entry.TheVariants as entries
use Rattle.som_model.specs.declared.class.ClassFace.{ClassFace}
use Rattle.som_model.specs.declared.class.Override.{Override}
use Rattle.som_model.specs.declared.class.Select.{Select}
use Rattle.som_model.specs.Lists.{Mem, every}
use Rattle.som_model.specs.Class.{Class}
use Rattle.som_model.specs.Classes.{class_at}
use Rattle.som_model.specs.Kernel.{kernel_interface}
use Rattle.som_rekey_laws.specs.Rekeying.{ModuleChange}

-- some modules and names
abbrev pub Names : Type 0
Names = Module → List ℕ → Bool

abbrev pub named_step : Names → ClassKey-F Bool → Bool
named_step names (ClassKey-F.Named m name) = names m name
named_step names (ClassKey-F.Derived bs) = every (λ b. b) bs
named_step names (ClassKey-F.Proxy b) = b

-- whether a key is one of these names, or made of them alone
abbrev pub is_named : Names → ClassKey → Bool
is_named names = fold-ClassKey Bool (named_step names)

-- the names of these classes
abbrev pub names_of : List Class → Names
names_of cs m name = is_some (class_at cs (keys.Named m name))

-- the change gives no two of these names one key
pub record IsApart (f : ModuleChange) (names : Names) : Type 0 where
  pub apart : (m n : Module) (name : List ℕ) → names m name ≡ true → names n name ≡ true → f m name ≡ f n name → m ≡ n

-- the change leaves the kernel's names, gives none of the others to the kernel, and the kernel's classes are of these names
pub record KeepsKernel (f : ModuleChange) (names : Names) : Type 0 where
  pub stays : (name : List ℕ) → names modules.Kernel name ≡ true → f modules.Kernel name ≡ modules.Kernel
  pub outside : (m : Module) (name : List ℕ) → names m name ≡ true → f m name ≡ modules.Kernel → m ≡ modules.Kernel
  pub here : (face : ClassFace) → Mem face kernel_interface.classes → names modules.Kernel face.name ≡ true

-- the classes have keys and parents of these names
pub record AreNamed (names : Names) (cs : List Class) : Type 0 where
  pub keys : (c : Class) → Mem c cs → is_named names c.key ≡ true
  pub parents : (c : Class) (k : ClassKey) → Mem c cs → Mem k c.decl.face.parents → is_named names k ≡ true

-- entries were moved to classes of these names
abbrev pub AreTargetsNamed : Names → List Class → Type 0
AreTargetsNamed names cs = (c : Class) (name : List ℕ) (to : ClassKey) → Mem c cs → Mem (entries.Moved name to) c.decl.face.entries → is_named names to ≡ true

-- declared metaclasses are of these names
abbrev pub AreMetaclassesNamed : Names → List Class → Type 0
AreMetaclassesNamed names cs = (c : Class) (k : ClassKey) → Mem c cs → c.decl.face.metaclass ≡ Some k → is_named names k ≡ true

-- what is overridden and what is selected goes by classes of these names
pub record AreInheritedNamed (names : Names) (cs : List Class) : Type 0 where
  pub overrides : (c : Class) (o : Override) → Mem c cs → Mem o c.decl.overrides → is_named names o.method.class ≡ true
  pub selects : (c : Class) (s : Select) → Mem c cs → Mem s c.decl.selects → is_named names s.method.class ≡ true
