use Rattle.std.proofs.Common.{suc, refl, ◌∙◌, arith, ◌+◌, ◌≡◌}
use Rattle.som_model_laws.proofs.Standing.{found, height_at, parents_known, rank_at}
use Rattle.som_model_laws.proofs.hierarchy_laws.class_law.Goals as goal

pub returns-clause-found : goal.returns-clause-found
returns-clause-found c = λ cs o k m. found cs o k k.key m refl

pub returns-clause-parents : goal.returns-clause-parents
returns-clause-parents c = λ cs o k m. parents_known cs o k.key k (found cs o k k.key m refl)

pub returns-clause-height : goal.returns-clause-height
returns-clause-height c = λ cs o i k e. let sum : suc i ≡ i + 1 = omega arith in height_at cs o i k k.key e refl ∙ sum

pub returns-clause-rank : goal.returns-clause-rank
returns-clause-rank c = λ cs o i k e. rank_at cs o i k k.key e refl
