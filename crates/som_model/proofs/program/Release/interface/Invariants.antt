use Rattle.std.proofs.Common.{◌≡◌, map, take}
use Rattle.som_model.proofs.program.Release.interface.Given as goal

abbrev pub invariant-loop-class : goal.invariant-loop-class
invariant-loop-class l = l.faces ≡ map (λ c. c.face) (take l.class-index l.self.classes)
