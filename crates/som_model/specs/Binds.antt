-- Whether a client program can be used on a release as it stands.
use Rattle.std.specs.Prelude.{◌≡◌, ℕ, List, [], Some, IsSome}
use Rattle.som_model.specs.declared.key.Module.TheVariants as modules
use Rattle.som_model.specs.declared.key.ClassKey.TheVariants as keys
use Rattle.som_model.specs.declared.key.MethodRef.{MethodRef}
use Rattle.som_model.specs.declared.program.Release.{Release}
use Rattle.som_model.specs.declared.program.ClientProgram.{ClientProgram}
use Rattle.som_model.specs.Lists.{Mem}
use Rattle.som_model.specs.Class.{Class}
use Rattle.som_model.specs.Classes.{class_at, classes, client_classes, library_classes}
use Rattle.som_model.specs.Typing.{running_facts}
use Rattle.som_model.specs.Conforming.{all_of_program, class_typed_by, main_typed_by}
use Rattle.som_model.specs.Images.{slot_in}
use Rattle.som_model.specs.Named.{AClass, AMethod, program_names}

pub record Binds (p : ClientProgram) (r : Release) : Type 0 where
  -- each library class that the program names is in the release
  pub known : (name : List ℕ) → Mem (AClass (keys.Named modules.Library name)) (program_names p) → IsSome (class_at (library_classes r) (keys.Named modules.Library name))
  -- each method that it names stands at the slot that it was compiled to, in the class of the same name among the release's and its own
  pub slots : (m : MethodRef) → Mem (AMethod m) (program_names p)
      → (n : ℕ) × (slot_in (class_at (all_of_program p) m.class) m.name ≡ Some n) × (slot_in (class_at (classes r p) m.class) m.name ≡ Some n)
  -- its bodies and its main are well typed among these, where the type of a class object is its metaclass
  pub typed : (c : Class) → Mem c (client_classes p) → class_typed_by (running_facts (classes r p)) (classes r p) c ≡ []
  pub main_typed : main_typed_by (running_facts (classes r p)) p.main ≡ []
