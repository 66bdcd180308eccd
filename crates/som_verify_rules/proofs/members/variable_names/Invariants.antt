use Rattle.std.proofs.Common.{◌≡◌, ◌++◌, drop, map}
use Rattle.som_order.specs.Names.{texts}
use Rattle.som_verify_rules.proofs.members.variable_names.Given as goal

abbrev pub invariant-loop-variable : goal.invariant-loop-variable
invariant-loop-variable l = texts l.names.items ++ map (λ v. v.name) (drop l.variable-index l.variables) ≡ map (λ v. v.name) l.variables
