use Rattle.som_model.specs.Classes.{client_classes, library_classes}
use Rattle.std.proofs.Common.{◌++◌}
use Rattle.som_release_laws.proofs.Clients.{accepted_kept}
use Rattle.som_type_soundness.proofs.Preserving.{main_objects, main_same}
use Rattle.som_type_soundness.proofs.laws.typed_program_law.Goals as goal

pub returns-clause-checks : goal.returns-clause-checks
returns-clause-checks c = λ r p l otherwise fuel. main_same (library_classes r ++ client_classes p) p.main l otherwise fuel

pub returns-clause-objects : goal.returns-clause-objects
returns-clause-objects c = λ r p l fuel. main_objects (library_classes r ++ client_classes p) p.main l fuel

pub returns-clause-accepted : goal.returns-clause-accepted
returns-clause-accepted c = λ rs last r p accepted m base ok have news few counted main otherwise fuel.
    main_same (library_classes last ++ client_classes p) p.main ((accepted_kept rs last r p accepted m base ok have news).1 few counted main) otherwise fuel
