use Rattle.std.proofs.Common.{◌≡◌, drop}
use Rattle.som_model.specs.Keys.{same_key}
use Rattle.som_model.specs.Lists.{place_from}
use Rattle.som_elab_body.proofs.names.place_of_parent.Given as goal

abbrev pub invariant-loop-place : goal.invariant-loop-place
invariant-loop-place l = place_from l.place (same_key l.parent) (drop l.place l.parents) ≡ place_from 0 (same_key l.parent) l.parents
