use Rattle.std.proofs.Common.{◌≡◌, ◌+◌, length, arith, sym, ◌∙◌}
use Rattle.som_model_laws.proofs.Listed.{mem_at}
use Rattle.som_sema_names.proofs.Ranked.{lower, no_lower, rank_none}
use Rattle.som_sema_names.proofs.ranking.least_rank.Goals as goal
use Rattle.som_sema_names.proofs.ranking.least_rank.Goals.{then-rank-least, else-rank-least}

pub loop-place-init : goal.loop-place-init
loop-place-init c =
    let e : length c.args.list.now ≡ 0 + length c.args.list.now = omega arith in
    e ∙ sym (rank_none 0 c.args.list.now)

pub rank_at-rank-requires : goal.rank_at-rank-requires
rank_at-rank-requires c = c.requires.low _ (mem_at c.args.places.now c.loop-place.place-index 0 c.loop-place-test.true)

pub loop-place-preserved : goal.loop-place-preserved
loop-place-preserved c = elim c.if-rank-least.branch [
  | then-rank-least w ↦ w.least-is ∙ lower c.args.list.now c.args.ranks.now c.args.places.now c.requires.low c.requires.ranks c.loop-place.place-index c.loop-place-test.true c.rank_at-rank.result c.loop-place.least
      c.rank_at-rank.ensures c.loop-place.invariant w.if-rank-least.true
  | else-rank-least w ↦ w.least-is ∙ no_lower c.args.list.now c.args.ranks.now c.args.places.now c.requires.low c.requires.ranks c.loop-place.place-index c.loop-place-test.true c.rank_at-rank.result c.loop-place.least
      c.rank_at-rank.ensures c.loop-place.invariant w.if-rank-least.false
]
