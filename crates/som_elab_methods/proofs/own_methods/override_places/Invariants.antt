use Rattle.std.proofs.Common.{◌≡◌, ◌++◌, drop}
use Rattle.som_sema_names.specs.Noted.{all_at}
use Rattle.som_elab_methods.specs.Tables.{replaced}
use Rattle.som_elab_methods.proofs.own_methods.override_places.Given as goal

abbrev pub invariant-loop-place : goal.invariant-loop-place
invariant-loop-place l = all_at l.all.items ++ replaced l.place (drop l.place l.overrides) ≡ replaced 0 l.overrides
