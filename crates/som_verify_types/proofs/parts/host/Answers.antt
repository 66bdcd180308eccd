use Rattle.som_model.specs.Typing.{host_type}
use Rattle.som_verify_forms.specs.Kinds.{kind_at}
use Rattle.som_verify_types.proofs.PartLaws.{comes_on, fails_on}
use Rattle.som_verify_types.proofs.parts.host.Goals as goal

pub returns-in-Ok : goal.returns-in-Ok
returns-in-Ok c = λ cs typed types.
    c.ruled.ensures cs _ (comes_on cs typed (host_type (kind_at cs c.args.left)) _ c.host_kind.result (rw c.in-Ok.is at types).0 (c.host_kind.ensures cs))

pub returns-in-Err : goal.returns-in-Err
returns-in-Err c = λ cs typed types. fails_on typed (host_type (kind_at cs c.args.left)) c.in-Err.fault (rw c.in-Err.is at types)
