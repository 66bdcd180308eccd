use Rattle.std.proofs.Common.{◌≡◌, List, ℕ, drop}
use Rattle.som_model.specs.Lists.{among}
use Rattle.som_order.specs.Names.{texts}
use Rattle.som_order.proofs.Noted.{in_either}
use Rattle.som_order.proofs.effective.names_of.Given as goal

abbrev pub invariant-loop-name : goal.invariant-loop-name
invariant-loop-name l = (name : List ℕ) → in_either name (texts l.known.keys) (drop l.name-index l.names) ≡ among name l.names
