use Rattle.std.proofs.Common.{◌≡◌, ◌++◌, drop, map}
use Rattle.som_order.specs.Names.{texts}
use Rattle.som_sema_scope.specs.ClassNames.{module_in_scope, key_of}
use Rattle.som_sema_scope.proofs.scope.keys_of.Given as goal

abbrev pub invariant-loop-name : goal.invariant-loop-name
invariant-loop-name l = l.keys ++ map (key_of (module_in_scope l.scope)) (texts (drop l.name-index l.names)) ≡ map (key_of (module_in_scope l.scope)) (texts l.names)
