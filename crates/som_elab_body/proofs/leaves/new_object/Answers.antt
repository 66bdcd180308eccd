use Rattle.som_model.specs.Typing.{new_type}
use Rattle.som_elab_body.specs.Code.{among_at, classes_at}
use Rattle.som_elab_body.specs.Forms.{facts_at}
use Rattle.som_elab_body.proofs.FormLaws.{new_made}
use Rattle.som_elab_body.proofs.leaves.new_object.Goals as goal

pub returns : goal.returns
returns c =
    let s = c.args.context.now in
    let k = c.in_ok-key.key in
    new_made (classes_at s) (among_at s) c.args.name.now k c.formed.result c.in_ok-key.ensures (rw c.in_ok-class.ensures at (c.formed.ensures (classes_at s) (new_type (facts_at s) k) c.new_kind-kind.ensures))
