use Rattle.std.proofs.Common.{◌≡◌, take}
use Rattle.som_verify_forms.specs.Kinds.{AreTypes}
use Rattle.som_verify_forms.specs.Knowing.{all_of}
use Rattle.som_verify_forms.specs.Scopes.{scope_at}
use Rattle.som_verify_forms.proofs.knowledge.kinds_of.Given as goal

abbrev pub invariant-loop-kind : goal.invariant-loop-kind
invariant-loop-kind l = record {
  are : scope_at (all_of l.known) l.kinds.items ≡ take l.kind-index l.types;
  types : AreTypes (all_of l.known) l.kinds.items;
}
