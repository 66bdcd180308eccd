use Rattle.som_class_table.proofs.LoadedClasses.{declared, faces, laid, named}
use Rattle.som_class_table.proofs.class_laws.loaded_law.Goals as goal

pub returns-clause-declared : goal.returns-clause-declared
returns-clause-declared c = declared

pub returns-clause-faces : goal.returns-clause-faces
returns-clause-faces c = faces

pub returns-clause-named : goal.returns-clause-named
returns-clause-named c = named

pub returns-clause-laid : goal.returns-clause-laid
returns-clause-laid c = laid
