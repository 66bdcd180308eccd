use Rattle.som_cmd.proofs.WitnessLaws.{base_is, program_put, program_stays, refused_as, refused_later, release_stays}
use Rattle.som_cmd.proofs.laws.witness_chain_law.Goals as goal

pub returns-clause-refused : goal.returns-clause-refused
returns-clause-refused c = refused_as

pub returns-clause-later : goal.returns-clause-later
returns-clause-later c = refused_later

pub returns-clause-base : goal.returns-clause-base
returns-clause-base c = base_is

pub returns-clause-program : goal.returns-clause-program
returns-clause-program c = program_put

pub returns-clause-release_stays : goal.returns-clause-release_stays
returns-clause-release_stays c = release_stays

pub returns-clause-program_stays : goal.returns-clause-program_stays
returns-clause-program_stays c = program_stays
