use Rattle.som_model.specs.declared.limits.TheConstants.{MAX_DEPTH}
use Rattle.som_semantics.specs.Means.{beginning}
use Rattle.som_machine_laws.proofs.Called.{matched, main_comes}
use Rattle.som_machine_laws.proofs.frame_laws.meaning_law.Goals as goal

pub returns-clause-main : goal.returns-clause-main
returns-clause-main c w tests main fuel = main_comes w tests MAX_DEPTH main (beginning w fuel)

pub returns-clause-calls : goal.returns-clause-calls
returns-clause-calls c w tests levels q waiting s = (matched w tests levels q waiting).by s
