use Rattle.std.proofs.Common.{refl}
use Rattle.som_model.specs.Typing.{proxy_type}
use Rattle.som_verify_forms.specs.Kinds.{kind_at}
use Rattle.som_elab_body.specs.Code.{among_at, classes_at, typed_at}
use Rattle.som_elab_body.specs.Forms.{facts_at}
use Rattle.som_elab_body.proofs.FormLaws.{proxy_made}
use Rattle.som_elab_body.proofs.operators.proxy.Goals as goal

pub returns : goal.returns
returns c =
    let s = c.args.context.now in
    let cs = classes_at s in
    let k = c.in_ok-key.key in
    proxy_made cs (among_at s) c.args.name.now k c.formed.result c.in_ok-key.ensures (typed_at cs c.args.part) c.args.part.expr refl
    (rw c.in_ok-class.ensures at (c.formed.ensures cs (proxy_type (facts_at s) k (kind_at cs c.args.part.kind)) c.proxy_kind-kind.ensures))
