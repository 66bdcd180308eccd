use Rattle.std.proofs.Common.{◌≡◌, ℕ, ◌<◌}
use Rattle.som_tables.specs.Layout.{found_at, page_start}
use Rattle.som_tables.proofs.pages.is_page.Given as goal

abbrev pub invariant-loop-place : goal.invariant-loop-place
invariant-loop-place l = (p : ℕ) → p < l.place → page_start l.starts l.page p ≡ found_at l.wanted p
