use Rattle.std.proofs.Common.{◌≡◌, ◌++◌, drop}
use Rattle.som_sema_scope.specs.Words.{lent}
use Rattle.som_sema.proofs.build.add_interfaces.Given as goal

abbrev pub invariant-loop-interface : goal.invariant-loop-interface
invariant-loop-interface l = lent l.all.items ++ drop l.interface-index l.interfaces ≡ lent l.fn.all.items ++ l.interfaces
