use Rattle.std.proofs.Common.{◌<◌, ℕ, take}
use Rattle.som_model.specs.Lists.{Mem}
use Rattle.som_sema_names.proofs.search.past.Given as goal

abbrev pub invariant-loop-place : goal.invariant-loop-place
invariant-loop-place l = (p : ℕ) → Mem p (take l.place-index l.list) → p < l.past
