use Rattle.std.proofs.Common.{◌≡◌, drop, map}
use Rattle.som_model.specs.Typing as typing
use Rattle.som_verify_forms.specs.Kinds.{AllStand, kind_at}
use Rattle.som_verify_types.specs.Codes.{classes_in, typed_in}
use Rattle.som_verify_forms.proofs.KindLaws.{after_those}
use Rattle.som_verify_types.proofs.expressions.+kinds.Given as goal

abbrev pub invariant-values_in-loop-arg : goal.invariant-values_in-loop-arg
invariant-values_in-loop-arg l = record {
  typed : typing.values (map (typed_in l.code) l.args) ≡ after_those (map (kind_at (classes_in l.code)) l.kinds.items) (typing.values (map (typed_in l.code) (drop l.arg-index l.args)));
  stand : AllStand (classes_in l.code) l.kinds.items;
}
