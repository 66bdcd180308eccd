use Rattle.std.proofs.Common.{refl}
use Rattle.som_machine_laws.proofs.test_laws.tests_law.Goals as goal

pub returns-clause-none : goal.returns-clause-none
returns-clause-none c w = record { call = λ q h e. refl; body = λ i h e. refl }

pub returns-clause-all : goal.returns-clause-all
returns-clause-all c w = record { call = λ q h e. e; body = λ i h e. e }
