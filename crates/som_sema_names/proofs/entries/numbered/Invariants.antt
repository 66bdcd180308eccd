use Rattle.std.proofs.Common.{◌≡◌, ◌++◌, drop}
use Rattle.som_sema_names.specs.Noted.{all_at, counted}
use Rattle.som_sema_names.proofs.entries.numbered.Given as goal

abbrev pub invariant-loop-place : goal.invariant-loop-place
invariant-loop-place l = all_at l.all.items ++ counted l.place (drop l.place l.entries) ≡ counted 0 l.entries
