-- The classes of a run, which can be loaded, and what their numbers stand for.
use Rattle.std.specs.Prelude.{◌≡◌, ℕ, ◌≤◌, List, ◌++◌, length}
use Rattle.som_model.specs.declared.syntax.Block.{Block}
use Rattle.som_model.specs.Class.{Class}
use Rattle.som_model.specs.Kernel.{kernel}
use Rattle.som_model.specs.Loads.{Loads}
use Rattle.som_model_laws.specs.Metaclasses.{IsDeclared}
use Rattle.som_meta.specs.Numbering.{AreApart, IsNumbered, Numbering, key_at}
use Rattle.som_class_ids.specs.Numbers.{AreFirst}
use Rattle.som_class_table.specs.Targets.{HaveTargets}

-- the classes are the kernel's and others that can be loaded with some main; they have the first numbers, and all others are made of them; no two numbers stand for one class, and a proxy with a number is that of a declared class
pub record AreLoaded (k : Numbering) : Type 0 where
  pub others : List Class
  pub main : Block
  pub is : k.classes ≡ kernel ++ others
  pub loads : Loads others main
  pub first : AreFirst k
  pub made : (n : ℕ) → IsNumbered k n → length k.classes ≤ n → IsDeclared (key_at k n) → ⊥
  pub apart : AreApart k
  pub targets : HaveTargets k
