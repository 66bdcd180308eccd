use Rattle.std.proofs.Common.{◌<◌, ℕ, refl, subst}
use Rattle.som_sema_names.specs.Ranking.{AreRanks}
use Rattle.som_sema_names.proofs.ranking.ranking_of.Goals as goal

pub returns : goal.returns
returns c = λ cs g e. record {
  introducers = g;
  on = refl;
  low = λ p m. subst (λ (n : ℕ). p < n) e (c.requires p m);
  ranks = subst (λ (n : ℕ). AreRanks c.args.list.now n c.in_ok-ranks.ranks.items) e c.in_ok-ranks.ensures;
}
