use Rattle.std.proofs.Common.{ap, ◌∙◌}
use Rattle.std.proofs.lemmas.Result.{IfOk-weaker}
use Rattle.som_witness.specs.Wording.{listed}
use Rattle.som_witness_programs.proofs.Joined.{parts}
use Rattle.som_witness_programs.proofs.lists.listed.Goals as goal

pub returns-in-len1-up : goal.returns-in-len1-up
returns-in-len1-up c = IfOk-weaker c.listed_after.result _ _ (λ t e. e ∙ ap listed (parts c.args.words.now c.first-item.result c.in-len1-up.len_at_least c.first-item.is)) c.listed_after.ensures
