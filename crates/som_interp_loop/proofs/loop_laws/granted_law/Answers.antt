use Rattle.som_interp_loop.proofs.Granting.{units_granted}
use Rattle.som_interp_loop.proofs.loop_laws.granted_law.Goals as goal

pub returns : goal.returns
returns c means n units granted begun fs s h none = units_granted means n units granted begun fs s h none
