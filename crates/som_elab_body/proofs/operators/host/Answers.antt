use Rattle.som_model.specs.Typing.{host_type}
use Rattle.som_verify_forms.specs.Kinds.{kind_at}
use Rattle.som_elab_body.proofs.operators.host.Goals as goal

pub returns : goal.returns
returns c = λ cs.
    let code = c.args.code in
    let type = host_type (kind_at cs c.args.first.kind) (kind_at cs c.args.second.kind) in
    c.formed.ensures cs type (c.host_kind-kind.ensures cs)
