use Rattle.std.proofs.Common.{◌≡◌, ℕ, List, drop}
use Rattle.std.specs.List.{All}
use Rattle.som_semantics.specs.State.{Heap}
use Rattle.som_semantics.specs.Values.{all_fit}
use Rattle.som_values.specs.Shown.{IsSeen, all_shown, showing}
use Rattle.som_values.specs.Stored.{Holds}
use Rattle.som_values.proofs.tests.all_fit.Given as goal

-- whether all fit is whether those fit that are left
abbrev pub invariant-loop-place : goal.invariant-loop-place
invariant-loop-place g l = (serials : List ℕ) (h : Heap) → Holds (showing (g.C.Classes.keys l.classes) serials) l.objects h → All (IsSeen (showing (g.C.Classes.keys l.classes) serials)) l.cells
    → all_fit (g.C.Classes.world l.classes) h l.kinds (all_shown (showing (g.C.Classes.keys l.classes) serials) l.cells)
    ≡ all_fit (g.C.Classes.world l.classes) h (drop l.place l.kinds) (all_shown (showing (g.C.Classes.keys l.classes) serials) (drop l.place l.cells))
