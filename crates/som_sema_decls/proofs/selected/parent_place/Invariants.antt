use Rattle.std.proofs.Common.{◌≡◌, drop}
use Rattle.std.specs.Str.{bytes_eq}
use Rattle.som_model.specs.Lists.{place_from}
use Rattle.som_order.specs.Names.{texts}
use Rattle.som_sema_decls.proofs.selected.parent_place.Given as goal

abbrev pub invariant-loop-place : goal.invariant-loop-place
invariant-loop-place l = place_from l.place (bytes_eq l.name) (texts (drop l.place l.parents)) ≡ place_from 0 (bytes_eq l.name) (texts l.parents)
