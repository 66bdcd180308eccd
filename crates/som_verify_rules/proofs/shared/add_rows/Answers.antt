use Rattle.som_model_laws.proofs.Listed.{mem_at}
use Rattle.som_verify_rules.proofs.shared.add_rows.Goals as goal

pub row_at-requires : goal.row_at-requires
row_at-requires c = c.requires _ (mem_at c.args.list.now c.loop-place.place-index 0 c.loop-place-test.true)
