use Rattle.som_type_soundness.proofs.Preserving.{main_objects, main_same, name_signed}
use Rattle.som_type_soundness.proofs.Failing.{test_seen}
use Rattle.som_type_soundness.proofs.laws.typed_law.Goals as goal

pub returns-clause-checks : goal.returns-clause-checks
returns-clause-checks c = main_same

pub returns-clause-objects : goal.returns-clause-objects
returns-clause-objects c = main_objects

pub returns-clause-names : goal.returns-clause-names
returns-clause-names c = name_signed

pub returns-clause-seen : goal.returns-clause-seen
returns-clause-seen c = test_seen
