use Rattle.std.proofs.Common.{slice_index_or}
use Rattle.som_class_ids.specs.Positions.{rank_list}
use Rattle.som_class_ids.proofs.Items.{item_mem}
use Rattle.som_class_ids.proofs.Numbered.{greatest_all, greatest_more}
use Rattle.som_class_ids.proofs.made.greatest_rank.Goals as goal

pub rank_at-requires : goal.rank_at-requires
rank_at-requires c = c.requires c.class-item.result (item_mem c.args.classes.now c.loop-class.class-index c.class-item.result c.loop-class-test.true c.class-item.is)

pub loop-class-preserved : goal.loop-class-preserved
loop-class-preserved c = rw (c.greater-rank.ensures, c.rank_at.ensures)
    (greatest_more (λ n. slice_index_or (rank_list c.args.positions.now) n 0) c.args.classes.now c.loop-class.class-index c.class-item.result c.loop-class.rank _ c.loop-class-test.true c.class-item.is c.loop-class.invariant)

pub returns : goal.returns
returns c = greatest_all (λ n. slice_index_or (rank_list c.args.positions.now) n 0) c.args.classes.now c.loop-class.class-index c.loop-class.rank _ c.loop-class-test.false c.loop-class.invariant
