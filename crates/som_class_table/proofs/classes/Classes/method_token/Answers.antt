use Rattle.som_class_table.proofs.LoadedClasses.{faces}
use Rattle.som_class_table.proofs.classes.Classes.method_token.Goals as goal

pub method_token-requires-clause-owners : goal.method_token-requires-clause-owners
method_token-requires-clause-owners c = c.self.invariant.owners_are

pub method_token-requires-clause-faces : goal.method_token-requires-clause-faces
method_token-requires-clause-faces c = faces c.self.inside.numbers c.self.invariant.loaded
