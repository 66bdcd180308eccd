use Rattle.som_model.specs.Typing.{binary_type}
use Rattle.som_verify_forms.specs.Kinds.{kind_at}
use Rattle.som_elab_body.proofs.operators.binary.Goals as goal

pub returns : goal.returns
returns c = λ cs.
    let op = c.args.op in
    let type = binary_type op (kind_at cs c.args.first.kind) (kind_at cs c.args.second.kind) in
    c.formed.ensures cs type (c.binary_kind-kind.ensures cs)
