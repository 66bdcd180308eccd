use Rattle.som_model_laws.proofs.Metas.{meta_rank}
use Rattle.som_model_laws.proofs.Owners.{metaclass_known}
use Rattle.som_model_laws.proofs.hierarchy_laws.metaclass_rank_law.Goals as goal

pub returns : goal.returns
returns c = λ cs f x high. meta_rank cs f.ordered (λ k d m e is. (metaclass_known cs f.ordered k d m e is).2) x high
