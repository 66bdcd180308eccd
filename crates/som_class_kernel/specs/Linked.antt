-- A linked kernel: its classes, the main that they were linked with, and what there is of the classes that are made.
use Rattle.std.specs.Prelude.{◌≡◌, ◌↔◌, ℕ, ◌<◌, List, ◌++◌}
use Rattle.som_model.specs.declared.key.ClassKey.{ClassKey}
use Rattle.som_model.specs.declared.syntax.Block.{Block}
use Rattle.som_model.specs.Lists.{Mem}
use Rattle.som_model.specs.Class.{Class}
use Rattle.som_model.specs.Kernel.{kernel}
use Rattle.som_model.specs.Loads.{Loads}
use Rattle.som_model.specs.Made.{IsMade}
use Rattle.som_meta.specs.Numbering.{Numbering}
use Rattle.som_class_table.specs.Making.{HaveNeeds, IsMarked}
use Rattle.som_class_loaded.specs.Made.{AreParts, Parts}

pub record Linkage : Type 0 where
  pub classes : Numbering
  pub main : Block
  pub parts : Parts

abbrev pub linkage : Numbering → Block → Parts → Linkage
linkage k main parts = record { classes = k; main = main; parts = parts }

-- a class of this number is made
abbrev pub IsMadeIn : Linkage → ℕ → Type 0
IsMadeIn l n = IsMarked l.parts.made n

-- the classes are the kernel's and others that can be loaded with this very main; numbers have those that are made for a run of it; all rows, names and hooks are theirs; with each class that is made its parents and its metaclass are made, and the kernel's four are
pub record IsLinked (l : Linkage) : Type 0 where
  pub others : List Class
  pub is : l.classes.classes ≡ kernel ++ others
  pub loads : Loads others l.main
  pub numbered : (key : ClassKey) → Mem key l.classes.keys ↔ IsMade l.classes.classes l.main key
  pub are : AreParts l.classes l.parts
  pub closed : HaveNeeds l.classes (IsMadeIn l)
  pub kernel_made : (n : ℕ) → n < 4 → IsMadeIn l n
