use Rattle.std.proofs.Common.{map, refl}
use Rattle.som_model.specs.Typing.{offset_call_type}
use Rattle.som_verify_forms.specs.Kinds.{kind_at}
use Rattle.som_elab_body.specs.Code.{classes_at, typed_at}
use Rattle.som_elab_body.specs.Forms.{facts_at, method_at}
use Rattle.som_elab_body.proofs.FormLaws.{offset_made}
use Rattle.som_elab_body.proofs.FoundMethods.{found_known, offset_comes}
use Rattle.som_elab_body.proofs.calls.offset_call.Goals as goal

pub answer_kind-kind-requires-clause-sig : goal.answer_kind-kind-requires-clause-sig
answer_kind-kind-requires-clause-sig c =
    let s = c.args.context.now in
    let cs = classes_at s in
    found_known cs s.known.lists.now c.requires.context.known.lists c.requires.context.known.names c.args.name.now c.args.method.now c.requires.class (kind_at cs c.args.on.kind) c.requires.found

pub returns : goal.returns
returns c =
    let s = c.args.context.now in
    let cs = classes_at s in
    let ks = c.as_slice.result.now in
    let ts = map (kind_at cs) ks in
    let m = method_at cs c.args.name.now c.args.method.now in
    let found = c.in_ok-found.found in
    offset_made cs (facts_at s) c.args.args ks c.formed.result c.requires.args c.as_slice.ensures.value m.ref found
    (typed_at cs c.args.on) c.args.on.expr c.in_ok-found.ensures refl
    (rw c.in_ok-method.ensures at (c.formed.ensures cs (offset_call_type (facts_at s) found (kind_at cs c.args.on.kind) ts)
    (offset_comes cs m ts (kind_at cs c.args.on.kind) c.args.name.now found c.answer_kind-kind.result c.in_ok-found.ensures c.requires.found c.answer_kind-kind.ensures)))
