use Rattle.std.proofs.Common.{◌≡◌, drop}
use Rattle.som_model.specs.Lists.{find}
use Rattle.som_sema_names.specs.Searching.{is_marked}
use Rattle.som_sema_names.proofs.search.first_marked.Given as goal

abbrev pub invariant-loop-place : goal.invariant-loop-place
invariant-loop-place l = find (is_marked l.row) (drop l.place-index l.places) ≡ find (is_marked l.row) l.places
