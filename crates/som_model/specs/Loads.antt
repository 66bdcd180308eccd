-- Which classes can be loaded together with the kernel's, and with a main.
use Rattle.std.specs.Prelude.{◌≡◌, ◌≤◌, ℕ, true, List, [], ◌++◌, length, map, take, slice_get, Some, IsSome}
use Rattle.som_model.specs.declared.key.Module.{Module}
use Rattle.som_model.specs.declared.key.Module.TheVariants as modules
use Rattle.som_model.specs.declared.key.ClassKey.{ClassKey}
use Rattle.som_model.specs.declared.key.ClassKey.TheVariants as keys
use Rattle.som_model.specs.declared.class.Entry.TheVariants as entries
use Rattle.som_model.specs.declared.syntax.Block.{Block}
use Rattle.som_model.specs.declared.limits.TheConstants.{MAX_LAID_CLASSES}
use Rattle.som_model.specs.Lists.{Mem, doubles}
use Rattle.som_model.specs.Keys.{same_key}
use Rattle.som_model.specs.Class.{Class}
use Rattle.som_model.specs.Kernel.{kernel}
use Rattle.som_model.specs.Owner.{entry_at}
use Rattle.som_model.specs.Rules.{name_of, is_proper, s3, s4, s5, s6, s7, s10, s14}
use Rattle.som_model.specs.Typing.{running_facts}
use Rattle.som_model.specs.Conforming.{class_typed_by, main_typed_by}
use Rattle.som_model.specs.Counts.{ClassCounted, block_counted}

-- the keys of classes, in order
abbrev pub keys_of : List Class → List ClassKey
keys_of cs = map (λ (c : Class). c.key) cs

-- the key of a class is a module other than the kernel's, and the name of its face
pub record HasOwnKey (c : Class) : Type 0 where
  pub module_ : Module
  pub outside : module_ ≡ modules.Kernel → ⊥
  pub is : c.key ≡ keys.Named module_ (name_of c)

pub record IsOrdered (cs : List Class) : Type 0 where
  -- each class has a key of its own, outside the kernel, and no two keys are one
  pub own : (c : Class) → Mem c cs → HasOwnKey c
  pub differ : doubles same_key [] (keys_of cs) ≡ []
  -- each parent is a class of the kernel or stands earlier
  pub parents : (i : ℕ) (c : Class) (k : ClassKey) → slice_get cs i ≡ Some c → Mem k c.decl.face.parents → Mem k (keys_of (kernel ++ take i cs))
  -- each metaclass is a class of the kernel or stands earlier
  pub metaclasses : (i : ℕ) (c : Class) (k : ClassKey) → slice_get cs i ≡ Some c → c.decl.face.metaclass ≡ Some k → Mem k (keys_of (kernel ++ take i cs))
  -- each class to which an entry was moved is one of the kernel or stands earlier
  pub targets : (i : ℕ) (c : Class) (name : List ℕ) (to : ClassKey) → slice_get cs i ≡ Some c → Mem (entries.Moved name to) c.decl.face.entries → Mem to (keys_of (kernel ++ take i cs))

pub record FacesLoad (cs : List Class) : Type 0 where
  -- keys differ, and parents, metaclasses and targets of moves stand earlier
  pub ordered : IsOrdered cs
  -- no parent stands twice in a class
  pub parents : (c : Class) → Mem c cs → s3 c ≡ []
  -- each metaclass descends from SOMClass
  pub descend : (c : Class) → Mem c cs → s4 (kernel ++ cs) c ≡ []
  -- each type of a signature or variable names one of the classes, and only a result is void
  pub types : (c : Class) → Mem c cs → s5 (kernel ++ cs) c ≡ []
  -- the names of a class's entries differ, and so do those of its variables
  pub names : (c : Class) → Mem c cs → s6 c ≡ []
  pub variables : (c : Class) → Mem c cs → s7 c ≡ []
  -- each moved entry names a proper ancestor that has an entry of that name
  pub above : (c : Class) (name : List ℕ) (to : ClassKey) → Mem c cs → Mem (entries.Moved name to) c.decl.face.entries → is_proper (kernel ++ cs) c to ≡ true
  pub there : (c : Class) (name : List ℕ) (to : ClassKey) → Mem c cs → Mem (entries.Moved name to) c.decl.face.entries → IsSome (entry_at (kernel ++ cs) to name)

-- classes and a main that a kernel can be made of
pub record Loads (cs : List Class) (main : Block) : Type 0 where
  -- there are not too many classes
  pub few : length cs ≤ MAX_LAID_CLASSES
  -- each class, and main, is within the counts and the lengths of texts
  pub counted : (c : Class) → Mem c cs → ClassCounted c.decl
  pub main_counted : block_counted main ≡ true
  -- the faces can stand together
  pub faces : FacesLoad cs
  -- each override and each select is of a method whose owner's class is a proper ancestor, those of one class have different owners,
  -- and the place of each select is that of a parent which descends from the class of the select's owner
  pub inherited : (c : Class) → Mem c cs → s10 (kernel ++ cs) c ≡ []
  -- there is a body for each introduced entry, and accessors fit
  pub bodies : (c : Class) → Mem c cs → s14 c ≡ []
  -- all bodies and main are well typed among these classes, where the type of a class object is its metaclass
  pub typed : (c : Class) → Mem c cs → class_typed_by (running_facts (kernel ++ cs)) (kernel ++ cs) c ≡ []
  pub main_typed : main_typed_by (running_facts (kernel ++ cs)) main ≡ []
