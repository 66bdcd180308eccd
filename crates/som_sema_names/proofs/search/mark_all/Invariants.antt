use Rattle.std.proofs.Common.{◌≡◌, length, take}
use Rattle.som_sema_names.specs.Searching.{IsRow}
use Rattle.som_sema_names.proofs.search.mark_all.Given as goal

abbrev pub invariant-loop-place : goal.invariant-loop-place
invariant-loop-place l = record {
  long : length l.marks ≡ length l.fn.marks;
  by : IsRow (take l.place-index l.list) l.marks;
}
