use Rattle.std.proofs.Common.{refl}
use Rattle.som_interp_invoke.proofs.Asked.{does_nothing}
use Rattle.som_interp_invoke.proofs.nothing.begin_nothing.Goals as goal

pub returns : goal.returns
returns x c levels me args = does_nothing c x.args.begun me args levels x.args.begun.what refl x.requires
