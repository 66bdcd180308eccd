-- What a linked kernel keeps beside what its contracts show.
use Rattle.std.specs.Prelude.{List}
use Rattle.som_class_kernel.specs.declared.entries.MethodEntry.{MethodEntry}
use Rattle.som_class_kernel.specs.Entries.{AreMethods}
use Rattle.som_class_kernel.specs.Linked.{IsLinked, Linkage}

-- it is linked, and these are the methods that its declared classes introduce
pub record IsHeld (l : Linkage) (all : List (List MethodEntry)) : Type 0 where
  pub linked : IsLinked l
  pub methods : AreMethods l.classes all
