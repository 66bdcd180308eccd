use Rattle.som_model.specs.Classes.{hierarchy}
use Rattle.som_model.specs.Kernel.{kernel}
use Rattle.std.proofs.Common.{◌++◌}
use Rattle.som_model_laws.proofs.Laws.{ancestors, descends_test}
use Rattle.som_model_laws.proofs.Standing.{falls, tells}
use Rattle.som_model_laws.proofs.hierarchy_laws.ancestry_law.Goals as goal

pub returns-clause-members : goal.returns-clause-members
returns-clause-members c = λ cs o x a. ancestors (hierarchy (kernel ++ cs)) (tells cs o) (falls cs o) x a

pub returns-clause-test : goal.returns-clause-test
returns-clause-test c = λ cs o x a. descends_test (hierarchy (kernel ++ cs)) (tells cs o) (falls cs o) x a
