use Rattle.std.proofs.Common.{Some, refl, sym, ap, subst, ◌∙◌}
use Rattle.som_code.specs.declared.instruction.Instruction.TheVariants as ops
use Rattle.som_machine_laws.specs.Naming.{IsNaming}
use Rattle.som_semantics.specs.World.{World}
use Rattle.som_interp_loop.proofs.Fine.{class_numbered}
use Rattle.som_interp_loop.specs.Scene.{scene}
use Rattle.som_values.specs.Shown.{key_of}
use Rattle.som_interp_calls.proofs.Whole.{new_calls, still_calls}
use Rattle.som_interp_calls.proofs.called.call_by.Goals as goal

pub number_of-class-requires : goal.number_of-class-requires
number_of-class-requires g c =
    let r = c.args.runtime.now in
    class_numbered (g.R.Classes.keys r) (g.R.ClassKeys.known r) (g.R.Runtime.program r) (g.R.Classes.made r) c.know.ensures.numbers c.in-New.class (subst (IsNaming (g.R.ClassKeys.known r).classes) c.in-New.is c.requires.naming)

pub returns-in-New-clause-calls : goal.returns-in-New-clause-calls
returns-in-New-clause-calls g c t f frames is =
    let r = c.args.runtime.now in
    let n = c.new_call.new.runtime in
    let of = c.new_call.ensures in
    let key = key_of (g.R.Classes.keys r) c.number_of-class.result in
    let there = is ∙ ap (λ i. Some i) c.in-New.is ∙ ap (λ k. Some (ops.New k)) (sym c.number_of-class.ensures.key) in
    new_calls (scene (g.R.Runtime.linked r) (g.R.ClassKeys.known r) (g.R.Runtime.program r) (g.R.Classes.made r) c.args.objects.now t f)
    (scene (g.R.Runtime.linked n) (g.R.ClassKeys.known n) (g.R.Runtime.program n) (g.R.Classes.made n) c.args.objects.now (record t { frames = c.new_call.new.frames }) f) c.args.body c.new_call.result key there
    (of.comes t f frames there) of.made of.keeps of.only

pub returns-in-OffsetCall-clause-calls : goal.returns-in-OffsetCall-clause-calls
returns-in-OffsetCall-clause-calls g c t f frames is =
    let r = c.args.runtime.now in
    let there = is ∙ ap (λ i. Some i) c.in-OffsetCall.is in
    still_calls (g.R.Runtime.linked r) (g.R.ClassKeys.known r) (g.R.Runtime.program r) (g.R.Classes.made r) c.args.objects.now t c.offset_call.new.frames f c.args.body c.offset_call.result (ops.OffsetCall c.in-OffsetCall.method c.in-OffsetCall.args) there refl
    (c.offset_call.ensures.comes t f c.in-OffsetCall.method frames (ap (λ (w : World). w.owner c.in-OffsetCall.method) c.know.ensures.agree.linked_answers ∙ sym c.method_token-method.ensures.method) there)

pub returns-in-ParentCall-clause-calls : goal.returns-in-ParentCall-clause-calls
returns-in-ParentCall-clause-calls g c t f frames is =
    let r = c.args.runtime.now in
    let l = g.R.Runtime.linked r in
    let k = g.R.ClassKeys.known r in
    let main = g.R.Runtime.program r in
    let made = g.R.Classes.made r in
    let token = c.method_token-method-in-ParentCall in
    let there = is ∙ ap (λ i. Some i) c.in-ParentCall.is in
    still_calls l k main made c.args.objects.now t c.parent_call.new.frames f c.args.body c.parent_call.result (ops.ParentCall c.in-ParentCall.parent c.in-ParentCall.method c.in-ParentCall.args) there refl
    (c.parent_call.ensures.comes l k main made c.args.objects.now t f c.in-ParentCall.method c.in-ParentCall.parent frames (ap (λ (w : World). w.owner c.in-ParentCall.method) c.know.ensures.agree.linked_answers ∙ sym token.ensures.method)
    ((c.know.ensures.agree.tokens token.result).1 token.ensures.token) c.parent_at-parent.ensures.made c.parent_at-parent.ensures.key there)

pub returns-in-ParentsCall-clause-calls : goal.returns-in-ParentsCall-clause-calls
returns-in-ParentsCall-clause-calls g c t f frames is =
    let r = c.args.runtime.now in
    let there = is ∙ ap (λ i. Some i) c.in-ParentsCall.is in
    still_calls (g.R.Runtime.linked r) (g.R.ClassKeys.known r) (g.R.Runtime.program r) (g.R.Classes.made r) c.args.objects.now t c.parents_call.new.frames f c.args.body c.parents_call.result (ops.ParentsCall c.in-ParentsCall.method c.in-ParentsCall.args) there refl
    (c.parents_call.ensures.comes c.args.objects.now t f c.in-ParentsCall.method frames (ap (λ (w : World). w.owner c.in-ParentsCall.method) c.know.ensures.agree.linked_answers ∙ sym c.method_token-method-in-ParentsCall.ensures.method) there)
