use Rattle.std.proofs.Common.{◌≡◌, ◌++◌, drop}
use Rattle.som_model.specs.Lists.{among, without}
use Rattle.som_order.specs.Names.{texts}
use Rattle.som_sema_drafts.proofs.tables.not_among.Given as goal

abbrev pub invariant-loop-name : goal.invariant-loop-name
invariant-loop-name l = texts l.kept.items ++ without (λ name. among name (texts l.known.keys)) (texts (drop l.name-index l.names)) ≡ without (λ name. among name (texts l.known.keys)) (texts l.names)
