use Rattle.std.proofs.Common.{◌≡◌, ◌++◌, take}
use Rattle.som_show.specs.Shown.{entry_lines}
use Rattle.som_show.proofs.entry.add_entries.Given as goal

abbrev pub invariant-loop-place : goal.invariant-loop-place
invariant-loop-place l = l.lines ≡ l.initial.lines ++ entry_lines 0 (take l.place l.entries)
