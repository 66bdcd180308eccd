use Rattle.std.proofs.Common.{◌≡◌, ◌≤◌, ◌+◌, length, map, Some}
use Rattle.som_model.specs.Lists.{first}
use Rattle.som_model.specs.Compatible.{incompatible}
use Rattle.som_compat.specs.Told.{changed}
use Rattle.som_compat.specs.Views.{classes_of, shown}
use Rattle.som_compat.proofs.signatures.same_signatures.Given as goal

abbrev pub invariant-loop-olds : goal.invariant-loop-olds
invariant-loop-olds l = record {
  same : first (map (λ p. incompatible 5 (shown l.class) (Some p.0) p.1) (changed (classes_of l.old.faces.now) (classes_of l.new.faces.now) l.place l.olds l.news))
      ≡ first (map (λ p. incompatible 5 (shown l.class) (Some p.0) p.1) (changed (classes_of l.old.faces.now) (classes_of l.new.faces.now) 0 l.class.entries l.other.entries));
  few : l.place + length l.olds ≤ 256;
}

abbrev pub decreases-loop-olds : goal.decreases-loop-olds
decreases-loop-olds l = length l.olds
