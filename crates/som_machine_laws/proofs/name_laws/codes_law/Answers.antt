use Rattle.som_code.proofs.Led.{laid_sound}
use Rattle.som_machine_laws.proofs.name_laws.codes_law.Goals as goal

pub returns : goal.returns
returns c b params = laid_sound b params
