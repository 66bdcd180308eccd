use Rattle.std.proofs.Common.{◌≡◌, map, take}
use Rattle.som_rekey_laws.specs.Rekeying.{rekey_variable}
use Rattle.som_rekey.proofs.classes.rekey_variables.Given as goal

abbrev pub invariant-loop-variable : goal.invariant-loop-variable
invariant-loop-variable g l = l.copies ≡ map (rekey_variable (g.C.NewModules.change l.change)) (take l.variable-index l.variables)
