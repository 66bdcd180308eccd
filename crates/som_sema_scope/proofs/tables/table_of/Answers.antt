use Rattle.som_sema_scope.proofs.OneTable.{once_all, once_more}
use Rattle.som_sema_scope.proofs.tables.table_of.Goals as goal

pub loop-name-preserved : goal.loop-name-preserved
loop-name-preserved c = once_more c.args.names.now c.loop-name.name-index _ _ _ _ _ c.loop-name-test.true c.in_ok-_is_new.ensures.is_new c.in_ok-_is_new.ensures.keys c.loop-name.invariant

pub returns : goal.returns
returns c = once_all c.args.names.now c.loop-name.name-index _ _ c.loop-name-test.false c.loop-name.invariant
