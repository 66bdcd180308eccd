use Rattle.som_model_laws.proofs.Metas.{meta_of_parent}
use Rattle.som_model_laws.proofs.hierarchy_laws.metaclass_parents_law.Goals as goal

pub returns : goal.returns
returns c = meta_of_parent
