use Rattle.som_compat.proofs.Marking.{none_marked}
use Rattle.som_compat.proofs.view.ancestors_of.Goals as goal

pub mark_ancestors-requires-clause-clear : goal.mark_ancestors-requires-clause-clear
mark_ancestors-requires-clause-clear c = λ k m. none_marked 4100 k m
