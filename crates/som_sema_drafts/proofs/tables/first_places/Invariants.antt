use Rattle.std.proofs.Common.{◌≡◌, drop}
use Rattle.std.specs.Str.{bytes_eq}
use Rattle.som_order.specs.Names.{texts}
use Rattle.som_model_laws.specs.Once.{adds}
use Rattle.som_sema_scope.specs.Words.{once}
use Rattle.som_sema_drafts.proofs.tables.first_places.Given as goal

abbrev pub invariant-loop-name : goal.invariant-loop-name
invariant-loop-name l = record {
  rest : adds bytes_eq (texts l.known.keys) (texts (drop l.name-index l.names)) ≡ once (texts l.names);
  kept : texts l.first.items ≡ texts l.known.keys;
}
