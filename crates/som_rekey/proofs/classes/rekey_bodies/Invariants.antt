use Rattle.std.proofs.Common.{◌≡◌, map, take}
use Rattle.som_rekey_laws.specs.Rekeying.{rekey_body}
use Rattle.som_rekey.proofs.classes.rekey_bodies.Given as goal

abbrev pub invariant-loop-body : goal.invariant-loop-body
invariant-loop-body g l = l.copies ≡ map (rekey_body (g.C.NewModules.change l.change)) (take l.body-index l.bodies)
