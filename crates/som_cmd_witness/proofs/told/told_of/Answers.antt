use Rattle.som_cmd_witness.proofs.Telling.{both_told}
use Rattle.som_cmd_witness.proofs.told.told_of.Goals as goal

pub returns-clause-tells : goal.returns-clause-tells
returns-clause-tells g c = both_told (g.S.Store.files c.args.store.now) c.args.old.now c.args.new.now c.in_ok-releases.releases c.in_ok-told.told c.in_ok-releases.ensures.answer c.in_ok-told.ensures
