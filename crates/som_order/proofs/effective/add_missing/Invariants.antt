use Rattle.std.proofs.Common.{◌≡◌, ◌++◌, drop}
use Rattle.som_model.specs.Lists.{among, without}
use Rattle.som_order.specs.Names.{texts}
use Rattle.som_order.proofs.effective.add_missing.Given as goal

abbrev pub invariant-loop-name : goal.invariant-loop-name
invariant-loop-name l = l.order ++ without (λ name. among name (texts l.known.keys)) (drop l.name-index l.names)
    ≡ l.fn.order ++ without (λ name. among name (texts l.known.keys)) l.names
