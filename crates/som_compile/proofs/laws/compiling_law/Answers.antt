use Rattle.som_compile.proofs.CompileLaws.{some_compiling, one_compiling}
use Rattle.som_compile.proofs.laws.compiling_law.Goals as goal

pub returns-clause-some : goal.returns-clause-some
returns-clause-some c = some_compiling

pub returns-clause-one : goal.returns-clause-one
returns-clause-one c = one_compiling
