use Rattle.std.proofs.Common.{refl}
use Rattle.std.specs.Fmt.{digits}
use Rattle.som_generator.proofs.text_laws.written_law.Goals as goal

pub returns-clause-first_interfaces : goal.returns-clause-first_interfaces
unfolding digits
returns-clause-first_interfaces c = refl

pub returns-clause-first_bodies : goal.returns-clause-first_bodies
unfolding digits
returns-clause-first_bodies c = refl

pub returns-clause-second_interfaces : goal.returns-clause-second_interfaces
unfolding digits
returns-clause-second_interfaces c = refl

pub returns-clause-second_bodies : goal.returns-clause-second_bodies
unfolding digits
returns-clause-second_bodies c = refl

pub returns-clause-client_main : goal.returns-clause-client_main
unfolding digits
returns-clause-client_main c = refl

pub returns-clause-first_interfaces_of_five : goal.returns-clause-first_interfaces_of_five
unfolding digits
returns-clause-first_interfaces_of_five c = refl

pub returns-clause-first_bodies_of_five : goal.returns-clause-first_bodies_of_five
unfolding digits
returns-clause-first_bodies_of_five c = refl

pub returns-clause-second_interfaces_of_five : goal.returns-clause-second_interfaces_of_five
unfolding digits
returns-clause-second_interfaces_of_five c = refl

pub returns-clause-second_bodies_of_five : goal.returns-clause-second_bodies_of_five
unfolding digits
returns-clause-second_bodies_of_five c = refl

pub returns-clause-client_main_of_five : goal.returns-clause-client_main_of_five
unfolding digits
returns-clause-client_main_of_five c = refl
