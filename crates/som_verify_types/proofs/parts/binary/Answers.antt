use Rattle.som_model.specs.Typing.{binary_type}
use Rattle.som_verify_forms.specs.Kinds.{kind_at}
use Rattle.som_verify_types.proofs.PartLaws.{comes_on, fails_on}
use Rattle.som_verify_types.proofs.parts.binary.Goals as goal

pub returns-in-Ok : goal.returns-in-Ok
returns-in-Ok c = λ cs typed types.
    c.ruled.ensures cs _ (comes_on cs typed (binary_type c.args.op (kind_at cs c.args.left)) _ c.binary_kind.result (rw c.in-Ok.is at types).0 (c.binary_kind.ensures cs))

pub returns-in-Err : goal.returns-in-Err
returns-in-Err c = λ cs typed types. fails_on typed (binary_type c.args.op (kind_at cs c.args.left)) c.in-Err.fault (rw c.in-Err.is at types)
