use Rattle.som_rekey_rules.proofs.LoadedNames.{faces_named}
use Rattle.som_rekey_rules.proofs.LoadsRekeyed.{loadable_named, loads_main_named, compiled_named, compiled_main_named}
use Rattle.som_rekey_rules.proofs.loading.loaded_names_law.Goals as goal

pub returns-clause-faces : goal.returns-clause-faces
returns-clause-faces c = faces_named

pub returns-clause-classes : goal.returns-clause-classes
returns-clause-classes c = loadable_named

pub returns-clause-main : goal.returns-clause-main
returns-clause-main c = loads_main_named

pub returns-clause-own : goal.returns-clause-own
returns-clause-own c = compiled_named

pub returns-clause-own_main : goal.returns-clause-own_main
returns-clause-own_main c = compiled_main_named
