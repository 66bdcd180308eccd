use Rattle.std.proofs.Common.{map}
use Rattle.som_model.specs.Typing.{parents_call_type}
use Rattle.som_verify_forms.specs.Kinds.{kind_at}
use Rattle.som_verify_classes.specs.Places.{key_at}
use Rattle.som_elab_body.specs.Code.{classes_at, place_at}
use Rattle.som_elab_body.specs.Forms.{facts_at}
use Rattle.som_elab_body.proofs.FormLaws.{parents_made}
use Rattle.som_elab_body.proofs.parent_calls.call_all.Goals as goal

pub returns : goal.returns
returns c =
    let s = c.args.context.now in
    let cs = classes_at s in
    let ks = c.as_slice.result.now in
    let method = c.in_ok-found.found in
    parents_made cs (facts_at s) c.args.args ks c.formed.result c.requires.args c.as_slice.ensures.value (place_at s) (record { class = key_at cs c.args.class; name = c.args.name.now }) method
    c.in_ok-found.ensures
    (rw c.in_ok-method.ensures at (c.formed.ensures cs (parents_call_type (facts_at s) (place_at s) method (map (kind_at cs) ks)) c.parents_call_kind-kind.ensures))
