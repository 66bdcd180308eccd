use Rattle.std.proofs.Common.{◌-◌, arith, refl, sym, ◌∙◌}
use Rattle.som_model_laws.proofs.Listed.{mem_at}
use Rattle.som_sema_names.proofs.Ranked.{ranked_none}
use Rattle.som_sema_names.proofs.ranking.rank_all.Goals as goal

pub loop-rank-init : goal.loop-rank-init
loop-rank-init c = record {
  long = refl;
  within = omega arith;
  by = λ p lt. c.requires.none p lt ∙ sym (ranked_none c.args.list.now p);
}

pub set_rank-requires : goal.set_rank-requires
set_rank-requires c =
    let h = c.requires.low _ (mem_at c.args.list.now (c.loop-rank.rank - 1) 0 (omega (arith, c.loop-rank.invariant.within, c.loop-rank-test.true))) in
    omega (arith, h, c.loop-rank.invariant.long)
