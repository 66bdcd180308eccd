-- Classes with other selects in the place of their own.
use Rattle.std.proofs.Common.{List}
use Rattle.som_model.specs.declared.class.Select.{Select}
use Rattle.som_model.specs.declared.class.ClassDecl.{ClassDecl}

-- a class with these selects in the place of its own
abbrev pub with_own : ClassDecl → List Select → ClassDecl
with_own c ss = record { face = c.face; variables = c.variables; bodies = c.bodies; overrides = c.overrides; selects = ss }
