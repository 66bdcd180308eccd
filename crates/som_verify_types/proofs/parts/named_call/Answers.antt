use Rattle.som_model.specs.Typing.{named_call_type}
use Rattle.som_verify_forms.specs.Kinds.{kind_at}
use Rattle.som_verify_types.specs.Codes.{classes_in, facts_in}
use Rattle.som_verify_types.proofs.PartLaws.{comes_all, fails_on}
use Rattle.som_verify_types.proofs.parts.named_call.Goals as goal

pub returns-in-Ok : goal.returns-in-Ok
returns-in-Ok c = λ typed kinds fault.
    c.ruled.ensures (classes_in c.args.code.now) _ (comes_all (classes_in c.args.code.now) typed (named_call_type (facts_in c.args.code.now) c.args.answer.now (kind_at (classes_in c.args.code.now) c.args.receiver)) c.in-Ok.args.items c.deref.result.now c.named_call_kind.result (rw c.in-Ok.is at kinds) c.deref.ensures.value (rw c.get.ensures at c.named_call_kind.ensures))

pub returns-in-Err : goal.returns-in-Err
returns-in-Err c = λ typed kinds fault. fails_on typed (named_call_type (facts_in c.args.code.now) c.args.answer.now (kind_at (classes_in c.args.code.now) c.args.receiver)) c.in-Err.fault (rw c.in-Err.is at fault)
