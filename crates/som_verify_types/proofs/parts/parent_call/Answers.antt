use Rattle.std.proofs.Common.{sym, subst}
use Rattle.som_model.specs.Typing.{parent_call_type}
use Rattle.som_verify_forms.specs.Kinds.{AllStand}
use Rattle.som_verify_types.specs.Codes.{classes_in, facts_in, place_in}
use Rattle.som_verify_types.proofs.PartLaws.{comes_all, fails_on}
use Rattle.som_verify_types.proofs.parts.parent_call.Goals as goal

pub parent_call_kind-requires-clause-args : goal.parent_call_kind-requires-clause-args
parent_call_kind-requires-clause-args c = subst (AllStand (classes_in c.args.code.now)) (sym c.deref.ensures.value) (rw c.in-Ok.is at c.requires.args)

pub returns-in-Ok : goal.returns-in-Ok
returns-in-Ok c = λ typed kinds fault.
    c.ruled.ensures (classes_in c.args.code.now) _ (comes_all (classes_in c.args.code.now) typed (parent_call_type (facts_in c.args.code.now) (place_in c.args.code.now) c.args.parent c.args.method.now) c.in-Ok.args.items c.deref.result.now c.parent_call_kind.result (rw c.in-Ok.is at kinds) c.deref.ensures.value (rw c.get.ensures at c.parent_call_kind.ensures))

pub returns-in-Err : goal.returns-in-Err
returns-in-Err c = λ typed kinds fault. fails_on typed (parent_call_type (facts_in c.args.code.now) (place_in c.args.code.now) c.args.parent c.args.method.now) c.in-Err.fault (rw c.in-Err.is at fault)
