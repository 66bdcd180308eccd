use Rattle.som_machine_laws.proofs.Worlds.{direct_program, without_hooks}
use Rattle.som_machine_laws.proofs.direct_laws.runs_law.Goals as goal

pub returns-clause-direct : goal.returns-clause-direct
returns-clause-direct c cs main made loads free = record { program = direct_program cs main loads free.no_names; hooks = without_hooks cs main made free }

pub returns-clause-free : goal.returns-clause-free
returns-clause-free c cs main made without only = record { no_names = without.no_names; no_hooks = λ k m. without.no_hooks k (only k m) }
