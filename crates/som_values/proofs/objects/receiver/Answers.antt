use Rattle.std.proofs.Common.{sym, ◌∙◌}
use Rattle.som_values.proofs.Found.{receiver_seen}
use Rattle.som_values.proofs.objects.receiver.Goals as goal

pub returns-in-Some-clause-means : goal.returns-in-Some-clause-means
returns-in-Some-clause-means c = λ s h holds seen.
    receiver_seen s h c.args.cell.now c.in-Some.reference c.live.result (sym c.in-Some.is ∙ c.referred.ensures) (λ q. c.live.ensures.means s h holds q) seen
