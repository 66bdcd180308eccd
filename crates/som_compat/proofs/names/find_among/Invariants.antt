use Rattle.std.proofs.Common.{◌≡◌, ◌<◌, ℕ}
use Rattle.som_order.specs.Names.{name_at}
use Rattle.som_compat.specs.Finding.{face_names}
use Rattle.som_compat.proofs.names.find_among.Given as goal

abbrev pub invariant-loop-place : goal.invariant-loop-place
invariant-loop-place l = (k : ℕ) → k < l.place → name_at (face_names l.faces) k ≡ l.name → ⊥
