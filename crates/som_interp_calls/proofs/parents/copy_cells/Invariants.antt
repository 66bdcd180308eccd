use Rattle.std.proofs.Common.{◌≡◌, take}
use Rattle.som_interp_calls.proofs.parents.copy_cells.Given as goal

-- the cells so far are copied
abbrev pub invariant-loop-cell : goal.invariant-loop-cell
invariant-loop-cell l = l.copies.items ≡ take l.cell-index l.cells
