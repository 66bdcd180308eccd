use Rattle.std.proofs.Common.{◌∙◌, arith, sym}
use Rattle.som_class_table.proofs.Listing.{count_none, count_one}
use Rattle.som_class_table.proofs.tokens.introduced_count.Goals as goal
use Rattle.som_class_table.proofs.tokens.introduced_count.Goals.{then-is_introduced, else-is_introduced}

pub loop-entry-preserved : goal.loop-entry-preserved
loop-entry-preserved c = elim c.if-is_introduced.branch [
  | then-is_introduced w ↦ rw w.count-is (record {
    count = count_one c.args.entries.now c.loop-entry.entry-index c.loop-entry.count c.entry-item.result c.loop-entry-test.true c.entry-item.is c.loop-entry.invariant.count (sym w.if-is_introduced.true ∙ c.is_introduced.ensures);
    few = (let f = c.loop-entry.invariant.few in omega (arith, f));
  })
  | else-is_introduced w ↦ rw w.count-is (record {
    count = count_none c.args.entries.now c.loop-entry.entry-index c.loop-entry.count c.entry-item.result c.loop-entry-test.true c.entry-item.is c.loop-entry.invariant.count (sym w.if-is_introduced.false ∙ c.is_introduced.ensures);
    few = (let f = c.loop-entry.invariant.few in omega (arith, f));
  })
]
