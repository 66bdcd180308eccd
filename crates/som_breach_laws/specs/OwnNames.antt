-- What the classes and the main of a client program name, apart from the faces that it was compiled against.
use Rattle.std.specs.Prelude.{◌≡◌, ℕ, List, [], ◌++◌, flat_map, Some, IsSome}
use Rattle.som_model.specs.declared.key.Module.TheVariants as modules
use Rattle.som_model.specs.declared.key.ClassKey.TheVariants as keys
use Rattle.som_model.specs.declared.key.MethodRef.{MethodRef}
use Rattle.som_model.specs.declared.program.Interface.{Interface}
use Rattle.som_model.specs.declared.program.Release.{Release}
use Rattle.som_model.specs.declared.program.ClientProgram.{ClientProgram}
use Rattle.som_model.specs.Lists.{Mem}
use Rattle.som_model.specs.Class.{Class}
use Rattle.som_model.specs.Classes.{class_at, classes, client_classes, library_classes}
use Rattle.som_model.specs.Typing.{running_facts}
use Rattle.som_model.specs.Conforming.{all_of_program, class_typed_by, main_typed_by}
use Rattle.som_model.specs.Images.{slot_in}
use Rattle.som_model.specs.Named.{AClass, AMethod, Named, block_names, decl_names, face_names}

-- what a client program names by its own classes and its main
abbrev pub own_names : ClientProgram → List Named
own_names p = flat_map decl_names p.classes ++ block_names p.main

-- what the faces of an interface name
abbrev pub base_names : Interface → List Named
base_names i = flat_map face_names i.classes

-- each library class of these names is in the release
abbrev pub AreReleased : List Named → Release → Type 0
AreReleased names r = (name : List ℕ) → Mem (AClass (keys.Named modules.Library name)) names → IsSome (class_at (library_classes r) (keys.Named modules.Library name))

-- each method of these names stands at one slot, in the class of that name as the program was compiled and among the release's and its own
abbrev pub AreSlotted : List Named → ClientProgram → Release → Type 0
AreSlotted names p r = (m : MethodRef) → Mem (AMethod m) names
    → (n : ℕ) × (slot_in (class_at (all_of_program p) m.class) m.name ≡ Some n) × (slot_in (class_at (classes r p) m.class) m.name ≡ Some n)

-- a client program can be used on a release, as far as its own classes and its main go
pub record BindsOwn (p : ClientProgram) (r : Release) : Type 0 where
  pub known : AreReleased (own_names p) r
  pub slots : AreSlotted (own_names p) p r
  pub typed : (c : Class) → Mem c (client_classes p) → class_typed_by (running_facts (classes r p)) (classes r p) c ≡ []
  pub main_typed : main_typed_by (running_facts (classes r p)) p.main ≡ []
