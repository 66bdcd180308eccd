use Rattle.std.proofs.Common.{◌≡◌, ℕ, List, Option, drop}
use Rattle.std.specs.Option.{option_or}
use Rattle.som_tables.specs.Rows.{first_some}
use Rattle.som_tables.specs.Layout.{found_at, line_at, page_start, IsInside, AreInside}
use Rattle.som_tables.proofs.starts.common_page.Given as goal

abbrev pub invariant-loop-parent : goal.invariant-loop-parent
invariant-loop-parent l = record {
  inside : (starts : List (Option ℕ)) → ((c : ℕ) → AreInside starts (line_at l.lines c)) → IsInside starts l.common;
  page : (starts : List (Option ℕ)) (p : ℕ) → option_or (page_start starts l.common p) (first_some (λ q. page_start starts (found_at (line_at l.lines q) l.number) p) (drop l.parent-index l.parents))
      ≡ first_some (λ q. page_start starts (found_at (line_at l.lines q) l.number) p) l.parents;
}
