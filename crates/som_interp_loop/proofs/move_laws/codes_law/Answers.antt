use Rattle.som_interp_loop.proofs.Fine.{are_fine, body_writes, main_writes}
use Rattle.som_interp_loop.proofs.move_laws.codes_law.Goals as goal

pub returns-clause-fine : goal.returns-clause-fine
returns-clause-fine c ks w k l main made cs agree can have codes = are_fine ks w k l main agree can cs codes made have

pub returns-clause-body : goal.returns-clause-body
returns-clause-body c ks w k l main cs class method params n agree can codes e = body_writes ks w k l main agree can cs codes class method params n e

pub returns-clause-main : goal.returns-clause-main
returns-clause-main c ks w k l main cs key agree can codes = main_writes ks w k l main agree can cs codes key
