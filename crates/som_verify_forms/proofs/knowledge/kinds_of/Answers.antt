use Rattle.som_model.specs.Rules.{is_known}
use Rattle.som_model_laws.proofs.Lists.{every_mem}
use Rattle.som_verify_forms.specs.Knowing.{all_of}
use Rattle.som_verify_forms.proofs.KindLists.{item_mem, more_kinds, more_types}
use Rattle.som_verify_forms.proofs.knowledge.kinds_of.Goals as goal

pub known_kind-requires-clause-kind : goal.known_kind-requires-clause-kind
known_kind-requires-clause-kind c = every_mem (is_known (all_of c.args.known.now)) c.kind-item.result c.args.types.now c.requires.types (item_mem c.args.types.now c.loop-kind.kind-index c.kind-item.result c.loop-kind-test.true c.kind-item.is)

pub loop-kind-preserved : goal.loop-kind-preserved
loop-kind-preserved c = rw c.in_ok-push.ensures.items record {
  are = more_kinds (all_of c.args.known.now) c.loop-kind.kinds.items c.known_kind.result c.args.types.now c.loop-kind.kind-index c.kind-item.result c.loop-kind-test.true c.kind-item.is c.known_kind.ensures.is c.loop-kind.invariant.are;
  types = more_types (all_of c.args.known.now) c.loop-kind.kinds.items c.known_kind.result c.loop-kind.invariant.types c.known_kind.ensures.a_type;
}
