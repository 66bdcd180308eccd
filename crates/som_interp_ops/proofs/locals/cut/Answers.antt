use Rattle.std.proofs.Common.{refl}
use Rattle.som_interp_ops.proofs.Done.{did_cut}
use Rattle.som_interp_ops.proofs.locals.cut.Goals as goal

pub returns-clause-did : goal.returns-clause-did
returns-clause-did c s h = did_cut s h c.args.body.now _ (record { levels = refl; me = refl; place = refl; zero = refl; code = refl }) refl c.args.place refl c.truncate.ensures.items
