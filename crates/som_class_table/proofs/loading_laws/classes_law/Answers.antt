use Rattle.som_class_table.proofs.Loading.{are_declared, are_faces, are_few, entries_differ, named}
use Rattle.som_class_table.proofs.loading_laws.classes_law.Goals as goal

pub returns-clause-declared : goal.returns-clause-declared
returns-clause-declared c = are_declared

pub returns-clause-few : goal.returns-clause-few
returns-clause-few c = are_few

pub returns-clause-faces : goal.returns-clause-faces
returns-clause-faces c = are_faces

pub returns-clause-named : goal.returns-clause-named
returns-clause-named c = named

pub returns-clause-distinct : goal.returns-clause-distinct
returns-clause-distinct c = entries_differ
