use Rattle.std.proofs.Common.{ap}
use Rattle.std.specs.Prelude.{unwrap_or}
use Rattle.som_sema_decls.proofs.declared.introducer_place.Goals as goal

pub first_introducer-requires : goal.first_introducer-requires
first_introducer-requires c = c.requires

pub returns-in-Some : goal.returns-in-Some
returns-in-Some c = λ cs list ranks. ap (λ place. unwrap_or place c.args.place) (c.in-Some.ensures cs list ranks)

pub returns-in-None : goal.returns-in-None
returns-in-None c = λ cs list ranks. ap (λ place. unwrap_or place c.args.place) (c.in-None.ensures cs list ranks)
