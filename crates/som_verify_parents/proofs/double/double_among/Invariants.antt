use Rattle.std.proofs.Common.{◌≡◌, drop, take, []}
use Rattle.std.specs.Str.{bytes_eq}
use Rattle.som_model.specs.Lists.{first, doubles}
use Rattle.som_order.specs.Names.{texts}
use Rattle.som_verify_parents.proofs.double.double_among.Given as goal

abbrev pub invariant-loop-place : goal.invariant-loop-place
invariant-loop-place l = first (doubles bytes_eq (texts (take l.place l.names)) (texts (drop l.place l.names))) ≡ first (doubles bytes_eq [] (texts l.names))
