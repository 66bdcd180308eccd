use Rattle.std.proofs.Common.{◌∙◌}
use Rattle.som_verify_forms.specs.Knowing.{all_of}
use Rattle.som_verify_classes.specs.Modules.{class_of}
use Rattle.som_verify_types.proofs.BodySteps.{block_holds, sig_parts}
use Rattle.som_verify_types.proofs.typed_bodies.method_typed.Goals as goal

pub kinds_of-requires-clause-types : goal.kinds_of-requires-clause-types
kinds_of-requires-clause-types c = rw c.as_slice.ensures (sig_parts (all_of c.args.known.now) c.args.sig.now c.requires.sig).1

pub known_kind-requires-clause-kind : goal.known_kind-requires-clause-kind
known_kind-requires-clause-kind c = (sig_parts (all_of c.args.known.now) c.args.sig.now c.requires.sig).0

pub returns-in-Ok : goal.returns-in-Ok
returns-in-Ok c = block_holds c.args.known.now c.args.place (class_of c.args.class.now) c.args.sig.now c.args.block.now c.known_kind.result c.in_ok-scope.scope.items c.requires.class c.known_kind.ensures.is (c.in_ok-scope.ensures.are ∙ c.as_slice.ensures) c.args.name.now _ c.in-Ok.ensures
