-- The classes that a module knows.
use Rattle.std.specs.Prelude.{List, ◌++◌, map}
use Rattle.som_model.specs.declared.key.Module.{Module}
use Rattle.som_model.specs.declared.class.ClassDecl.{ClassDecl}
use Rattle.som_model.specs.Class.{Class, class_in}

-- the classes of a module after those of its base
abbrev pub after_base : Module → List Class → List ClassDecl → List Class
after_base m base ds = base ++ map (class_in m) ds
