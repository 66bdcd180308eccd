use Rattle.som_model.specs.Typing.{unary_type}
use Rattle.som_verify_forms.specs.Kinds.{kind_at}
use Rattle.som_elab_body.proofs.operators.unary.Goals as goal

pub returns : goal.returns
returns c = λ cs.
    let op = c.args.op in
    let type = unary_type op (kind_at cs c.args.part.kind) in
    c.formed.ensures cs type (c.unary_kind.ensures cs)
