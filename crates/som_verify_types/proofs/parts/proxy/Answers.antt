use Rattle.som_model.specs.Typing.{proxy_type}
use Rattle.som_verify_types.specs.Codes.{classes_in, facts_in}
use Rattle.som_verify_types.proofs.PartLaws.{comes_on, fails_on}
use Rattle.som_verify_types.proofs.parts.proxy.Goals as goal

pub proxy_kind-requires-clause-kind : goal.proxy_kind-requires-clause-kind
proxy_kind-requires-clause-kind c = rw c.in-Ok.is at c.requires.part

pub returns-in-Ok : goal.returns-in-Ok
returns-in-Ok c = λ typed types.
    c.ruled.ensures (classes_in c.args.code.now) _ (comes_on (classes_in c.args.code.now) typed (proxy_type (facts_in c.args.code.now) c.args.class.now) _ c.proxy_kind.result (rw c.in-Ok.is at types).0 (rw c.get.ensures at c.proxy_kind.ensures))

pub returns-in-Err : goal.returns-in-Err
returns-in-Err c = λ typed types. fails_on typed (proxy_type (facts_in c.args.code.now) c.args.class.now) c.in-Err.fault (rw c.in-Err.is at types)
