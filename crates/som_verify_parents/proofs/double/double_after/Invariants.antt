use Rattle.std.proofs.Common.{◌≡◌, drop}
use Rattle.std.specs.Str.{bytes_eq}
use Rattle.som_model.specs.Lists.{first, doubles}
use Rattle.som_order.specs.Names.{texts}
use Rattle.som_verify_parents.proofs.double.double_after.Given as goal

abbrev pub invariant-loop-name : goal.invariant-loop-name
invariant-loop-name l = first (doubles bytes_eq (texts l.seen.keys) (texts (drop l.name-index l.names))) ≡ first (doubles bytes_eq (texts l.fn.seen.keys) (texts l.names))
