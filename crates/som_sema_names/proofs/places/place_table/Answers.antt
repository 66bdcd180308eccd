use Rattle.som_sema_names.proofs.Noting.{next_place}
use Rattle.som_sema_names.proofs.places.place_table.Goals as goal

pub loop-noted-preserved : goal.loop-noted-preserved
loop-noted-preserved c = next_place c.args.all.now c.loop-noted.noted-index _ _ _ _ _ _ c.loop-noted-test.true c.in_ok-is_new.ensures.is_new c.in_ok-is_new.ensures.keys c.in_ok-push_if.ensures c.loop-noted.invariant
