use Rattle.som_classmgr.proofs.Counting.{made_counted}
use Rattle.som_classmgr.proofs.laws.made_law.Goals as goal

pub returns : goal.returns
returns c = λ l linked loaded. made_counted l linked loaded
