use Rattle.som_meta.specs.Numbering.{key_at, method_at}
use Rattle.som_class_table.proofs.Bodies.{derived_body}
use Rattle.som_class_table.proofs.LoadedClasses.{faces, laid}
use Rattle.som_class_table.proofs.classes.ClassesAncestry.has_body.Goals as goal

pub has_body-requires-clause-members : goal.has_body-requires-clause-members
has_body-requires-clause-members c = c.self.invariant.members_are

pub has_body-requires-clause-faces : goal.has_body-requires-clause-faces
has_body-requires-clause-faces c = faces c.self.inside.numbers c.self.invariant.loaded

pub has_body-requires-clause-laid : goal.has_body-requires-clause-laid
has_body-requires-clause-laid c = laid c.self.inside.numbers c.self.invariant.loaded

pub returns-in-Derived : goal.returns-in-Derived
returns-in-Derived c = derived_body c.args.self.now.classes (method_at c.args.self.now c.args.token) (key_at c.args.self.now c.args.class) _ (c.kind.ensures.derived c.in-Derived.is)
