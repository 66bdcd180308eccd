-- Bodies among the classes that are known.
use Rattle.std.specs.Prelude.{◌≡◌, ℕ, true, List, []}
use Rattle.som_model.specs.declared.class.Sig.{Sig}
use Rattle.som_model.specs.declared.class.Way.{Way}
use Rattle.som_model.specs.declared.class.Entry.TheVariants as entries
use Rattle.som_model.specs.declared.class.Body.{Body}
use Rattle.som_model.specs.declared.class.Body.TheVariants as bodies
use Rattle.som_model.specs.Lists.{Mem}
use Rattle.som_model.specs.Class.{Class}
use Rattle.som_model.specs.Conforming.{block_breach}
use Rattle.som_model.specs.Kernel.{kernel_interface}
use Rattle.som_model.specs.Rules.{RuleBreach}
use Rattle.som_order.specs.Names.{texts}
use Rattle.som_verify_forms.specs.Kinds.{IsDeclared}
use Rattle.som_verify_forms.specs.Knowing.{sig_is_known}
use Rattle.som_verify_classes.specs.Places.{IsTable, class_of_place, with_kernel}
use Rattle.som_verify_classes.specs.Walk.{AreLists}
use Rattle.som_verify_types.specs.declared.blocks.Parts.{Parts}

-- what a method's body breaks; readers and writers of variables have no block
abbrev pub body_breaks : List Class → Class → List ℕ → Sig → Body → List RuleBreach
body_breaks cs c name sig (bodies.User block) = block_breach cs c name sig block
body_breaks cs c name sig (bodies.Get n) = []
body_breaks cs c name sig (bodies.Set n) = []

-- a declared class stands at its place among all classes
pub record StandsAt (cs : List Class) (place : ℕ) (c : Class) : Type 0 where
  pub there : IsDeclared cs place
  pub is : class_of_place cs place ≡ c

-- the types of the signatures that a class introduces name classes that are known
pub record SigsKnown (cs : List Class) (c : Class) : Type 0 where
  pub by : (name : List ℕ) (sig : Sig) (way : Way) → Mem (entries.Introduced name sig way) c.decl.face.entries → sig_is_known cs sig ≡ true

-- the types of the signatures that each of these classes introduces name classes that are known
pub record AllSigsKnown (cs own : List Class) : Type 0 where
  pub by : (c : Class) → Mem c own → SigsKnown cs c

-- the names, the kernel's faces and the ancestors of these classes
pub record AreParts (cs : List Class) (parts : Parts) : Type 0 where
  pub table : IsTable cs (texts parts.table.keys)
  pub kernel : parts.kernel.classes ≡ kernel_interface.classes
  pub lists : AreLists (with_kernel cs) parts.lists.items
