use Rattle.std.proofs.Common.{map, refl}
use Rattle.som_model.specs.Typing.{named_call_type}
use Rattle.som_verify_forms.specs.Kinds.{kind_at}
use Rattle.som_elab_body.specs.Code.{classes_at, typed_at}
use Rattle.som_elab_body.specs.Forms.{facts_at}
use Rattle.som_elab_body.proofs.FormLaws.{lookup_made}
use Rattle.som_elab_body.proofs.calls.lookup.Goals as goal

pub returns : goal.returns
returns c =
    let s = c.args.context.now in
    let cs = classes_at s in
    let ks = c.as_slice.result.now in
    lookup_made cs (facts_at s) c.args.args ks c.formed.result c.requires.args c.as_slice.ensures.value c.args.answer c.args.name c.args.name
    (typed_at cs c.args.on) c.args.on.expr refl refl
    (c.formed.ensures cs (named_call_type (facts_at s) c.args.answer (kind_at cs c.args.on.kind) (map (kind_at cs) ks)) (rw c.get.ensures at c.named_call_kind-kind.ensures))
