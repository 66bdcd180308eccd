use Rattle.std.proofs.Common.{◌≡◌, drop}
use Rattle.som_model.specs.Lists.{some}
use Rattle.som_sema_names.specs.Searching.{is_other}
use Rattle.som_sema_names.proofs.search.has_other.Given as goal

abbrev pub invariant-loop-other : goal.invariant-loop-other
invariant-loop-other l = some (is_other l.row l.place) (drop l.other-index l.places) ≡ some (is_other l.row l.place) l.places
