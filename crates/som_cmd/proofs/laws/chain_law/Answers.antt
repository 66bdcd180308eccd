use Rattle.som_cmd.proofs.ChainLaws.{base_is, checked, program_stays, programmed, release_stays, released, runs_first, runs_later}
use Rattle.som_cmd.proofs.laws.chain_law.Goals as goal

pub returns-clause-first : goal.returns-clause-first
returns-clause-first c = runs_first

pub returns-clause-later : goal.returns-clause-later
returns-clause-later c = runs_later

pub returns-clause-base : goal.returns-clause-base
returns-clause-base c = base_is

pub returns-clause-release : goal.returns-clause-release
returns-clause-release c = released

pub returns-clause-program : goal.returns-clause-program
returns-clause-program c = programmed

pub returns-clause-checked : goal.returns-clause-checked
returns-clause-checked c = checked

pub returns-clause-release_stays : goal.returns-clause-release_stays
returns-clause-release_stays c = release_stays

pub returns-clause-program_stays : goal.returns-clause-program_stays
returns-clause-program_stays c = program_stays
