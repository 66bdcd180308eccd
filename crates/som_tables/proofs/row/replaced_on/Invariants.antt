use Rattle.std.proofs.Common.{◌≡◌, take}
use Rattle.som_tables.specs.Layout.{on_page}
use Rattle.som_tables.proofs.row.replaced_on.Given as goal

abbrev pub invariant-loop-pair : goal.invariant-loop-pair
invariant-loop-pair g l = l.some.items ≡ on_page l.number (take l.pair-index l.replaced)
