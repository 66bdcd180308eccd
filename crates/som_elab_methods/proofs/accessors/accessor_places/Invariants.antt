use Rattle.std.proofs.Common.{◌≡◌, ◌++◌, drop, map}
use Rattle.som_sema_names.specs.Noted.{all_at}
use Rattle.som_elab_methods.specs.Accessors.{access}
use Rattle.som_elab_methods.specs.Tables.{accessed}
use Rattle.som_elab_methods.proofs.accessors.accessor_places.Given as goal

abbrev pub invariant-loop-place : goal.invariant-loop-place
invariant-loop-place l = all_at l.all.items ++ accessed l.place (map access (drop l.place l.accessors)) ≡ accessed 0 (map access l.accessors)
