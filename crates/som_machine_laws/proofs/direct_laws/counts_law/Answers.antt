use Rattle.som_machine_laws.proofs.Counting.{count_both, count_front, looks_counted, looks_most}
use Rattle.som_machine_laws.proofs.direct_laws.counts_law.Goals as goal

pub returns-clause-goes : goal.returns-clause-goes
returns-clause-goes c w tests fs gs s t es sound h e = looks_counted w tests fs gs s t es sound h e

pub returns-clause-most : goal.returns-clause-most
returns-clause-most c now = looks_most now

pub returns-clause-both : goal.returns-clause-both
returns-clause-both c es fs = count_both es fs

pub returns-clause-front : goal.returns-clause-front
returns-clause-front c es fs p = count_front es fs p
