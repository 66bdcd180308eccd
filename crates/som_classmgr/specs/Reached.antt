-- Which classes are made after any calls that reach for some.
use Rattle.std.specs.Prelude.{ℕ, List, ◌++◌}
use Rattle.som_model.specs.declared.key.ClassKey.{ClassKey}
use Rattle.som_model.specs.Kernel.{kernel}
use Rattle.som_model.specs.Loads.{keys_of}
use Rattle.som_model.specs.Made.{ComesOf}
use Rattle.som_meta.specs.Numbering.{IsNumbered, key_at}
use Rattle.som_class_kernel.specs.Linked.{IsMadeIn, Linkage}

-- all is made that comes of the kernel's classes and of those reached for, and besides only what comes of those for which memory ran out
pub record IsMadeBy (reached tried : List ClassKey) (l : Linkage) : Type 0 where
  pub all : (n : ℕ) → IsNumbered l.classes n → ComesOf l.classes.classes (keys_of kernel ++ reached) (key_at l.classes n) → IsMadeIn l n
  pub only : (n : ℕ) → IsMadeIn l n → ComesOf l.classes.classes (keys_of kernel ++ reached ++ tried) (key_at l.classes n)
