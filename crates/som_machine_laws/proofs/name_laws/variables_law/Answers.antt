use Rattle.som_machine_laws.proofs.Declared.{class_code, held_code, main_code, writer_there}
use Rattle.som_machine_laws.proofs.name_laws.variables_law.Goals as goal

pub returns-clause-class : goal.returns-clause-class
returns-clause-class c cs main loads x b params m at = class_code cs main loads x b params m at

pub returns-clause-held : goal.returns-clause-held
returns-clause-held c cs main loads k r b params e = held_code cs main loads k r b params e

pub returns-clause-writer : goal.returns-clause-writer
returns-clause-writer c cs main loads k r n e = writer_there cs main loads k r n e

pub returns-clause-main : goal.returns-clause-main
returns-clause-main c cs main loads params = main_code cs main loads params
