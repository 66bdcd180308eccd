use Rattle.std.proofs.Common.{◌≡◌, ℕ, length, take}
use Rattle.som_meta.specs.Numbering.{Numbering, key_at}
use Rattle.som_class_variables.specs.Placed.{bases_from}
use Rattle.som_class_variables.specs.Variables.{own_variables}
use Rattle.som_class_variables.proofs.Filling.{after_all}
use Rattle.som_class_variables.proofs.bases.bases_above.Given as goal

abbrev counts : Numbering → ℕ → ℕ
counts k n = length (own_variables k.classes (key_at k n))

abbrev pub invariant-loop-class : goal.invariant-loop-class
invariant-loop-class l = record {
  bases : l.bases ≡ bases_from (counts l.classes) l.shift l.fn.place (take l.class-index l.all);
  place : l.place ≡ after_all (counts l.classes) l.fn.place (take l.class-index l.all);
}
