use Rattle.som_model.specs.Typing.{unary_type}
use Rattle.som_verify_types.proofs.PartLaws.{comes_on, fails_on}
use Rattle.som_verify_types.proofs.parts.unary.Goals as goal

pub returns-in-Ok : goal.returns-in-Ok
returns-in-Ok c = λ cs typed types.
    c.ruled.ensures cs _ (comes_on cs typed (unary_type c.args.op) _ c.unary_kind.result (rw c.in-Ok.is at types).0 (c.unary_kind.ensures cs))

pub returns-in-Err : goal.returns-in-Err
returns-in-Err c = λ cs typed types. fails_on typed (unary_type c.args.op) c.in-Err.fault (rw c.in-Err.is at types)
