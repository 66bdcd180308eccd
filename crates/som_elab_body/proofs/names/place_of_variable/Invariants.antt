use Rattle.std.proofs.Common.{◌≡◌, drop}
use Rattle.std.specs.Str.{bytes_eq}
use Rattle.som_model.specs.Lists.{place_from}
use Rattle.som_model.specs.declared.class.Variable.{Variable as Slot}
use Rattle.som_elab_body.proofs.names.place_of_variable.Given as goal

abbrev pub invariant-loop-place : goal.invariant-loop-place
invariant-loop-place l = place_from l.place (λ (v : Slot). bytes_eq v.name l.name) (drop l.place l.variables) ≡ place_from 0 (λ (v : Slot). bytes_eq v.name l.name) l.variables
