use Rattle.som_class_table.proofs.LoadedClasses.{faces, laid}
use Rattle.som_class_table.proofs.classes.Classes.selected.Goals as goal

pub selected-requires-clause-members : goal.selected-requires-clause-members
selected-requires-clause-members c = c.self.invariant.members_are

pub selected-requires-clause-faces : goal.selected-requires-clause-faces
selected-requires-clause-faces c = faces c.self.inside.numbers c.self.invariant.loaded

pub selected-requires-clause-laid : goal.selected-requires-clause-laid
selected-requires-clause-laid c = laid c.self.inside.numbers c.self.invariant.loaded
