-- What a store in memory is.
use Rattle.std.specs.Prelude.{ℕ, List}
use Rattle.std.specs.FinMap.{from_entries}
use Rattle.std.specs.Cmp.Lexicographic.{slice_cmp}
use Rattle.std.specs.Ordering.{nat_cmp}
use Rattle.som_model.specs.Bytes.{Files}
use Rattle.som_io.specs.Calls.{Calls, counted_by}
use Rattle.som_io.specs.declared.leaves.FailingPut.{FailingPut}
use Rattle.som_io.specs.declared.mem_store.MemStore.{MemStore}

-- the files that the entries of an ordered map are
abbrev pub files_among : List (List ℕ × List ℕ) → Files
files_among entries = from_entries {R = slice_cmp nat_cmp} entries

-- the files that it holds
abbrev pub files_of : MemStore → Files
files_of store = files_among store.files.entries

-- its gets and puts, counted together
abbrev pub calls_of : MemStore → Calls
calls_of store = counted_by store.counter

-- what was said that its puts leave which fail, the last at the end
abbrev pub puts_of : MemStore → List FailingPut
puts_of store = store.failing.items
