-- What puts leave that are set to fail.
use Rattle.std.specs.Prelude.{ℕ, ◌==◌, if◌then◌else◌, List, [], ◌∷◌}
use Rattle.std.specs.FinMap.{insert, remove}
use Rattle.som_model.specs.Bytes.{Files}
use Rattle.som_io.specs.declared.leaves.FailingPut.{FailingPut}
use Rattle.som_io.specs.declared.leaves.Leaves.{Leaves}
use Rattle.som_io.specs.declared.leaves.Leaves.TheVariants as leaves

-- what the call of a number leaves: as was said last of it, and so where nothing was said
abbrev pub left_after : Leaves → List FailingPut → ℕ → Leaves
left_after so [] call = so
left_after so (put ∷ puts) call = left_after (if put.call == call then put.leaves else so) puts call

-- what the call of a number leaves, as was said last of it, or the old bytes where nothing was said
abbrev pub left_by : List FailingPut → ℕ → Leaves
left_by puts call = left_after leaves.Old puts call

-- the files after a put of bytes under a name which failed and left this
abbrev pub leaving : Leaves → Files → List ℕ → List ℕ → Files
leaving leaves.Old files name bytes = files
leaving leaves.New files name bytes = insert files name bytes
leaving leaves.Nothing files name bytes = remove files name
