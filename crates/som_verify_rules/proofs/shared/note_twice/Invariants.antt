use Rattle.std.proofs.Common.{take}
use Rattle.som_order.specs.Names.{texts}
use Rattle.som_verify_rules.specs.Shared.{Covers}
use Rattle.som_verify_rules.proofs.shared.note_twice.Given as goal

abbrev pub invariant-loop-name : goal.invariant-loop-name
invariant-loop-name l = Covers (texts (take l.name-index l.names)) (texts l.seen.keys) (texts l.shared.keys)
