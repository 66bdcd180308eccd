use Rattle.som_model_laws.proofs.Metas.{meta_law}
use Rattle.som_model_laws.proofs.hierarchy_laws.metaclass_law.Goals as goal

pub returns : goal.returns
returns c = meta_law
