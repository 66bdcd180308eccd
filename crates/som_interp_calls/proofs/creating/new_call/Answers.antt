use Rattle.std.proofs.Common.{◌+◌, [], ◌∷◌, ◌++◌, Ok, Err, sym, ap, subst, ◌∙◌}
use Rattle.std.proofs.lemmas.Result.{err_from_is_err_and}
use Rattle.som_code_cache.specs.Coded.{codes_of}
use Rattle.som_model.specs.Kernel.{som_new}
use Rattle.som_semantics.specs.State.{Used}
use Rattle.som_interp_state.specs.Named.{Owner}
use Rattle.som_values.specs.Shown.{IsNumbered, key_of}
use Rattle.som_interp_state.specs.declared.frames.Now.TheVariants as nows
use Rattle.som_interp_state.specs.declared.frames.Waiting.TheVariants as waits
use Rattle.som_interp_loop.specs.Scene.{scene}
use Rattle.som_interp_calls.specs.Calling.{ComesTo}
use Rattle.som_interp_calls.proofs.Objects.{class_owner, from_old, new_goes, new_stops, two_pushed}
use Rattle.som_interp_calls.proofs.creating.new_call.Goals as goal

pub test_offset-requires : goal.test_offset-requires
test_offset-requires g c =
    let r = c.reach.new.self in
    let l = g.R.Runtime.linked r in
    let keys = c.know.ensures.agree.linked_numbers ∙ c.reach.ensures.keys in
    class_owner l (g.R.Classes.made c.args.runtime.now) (g.R.Classes.made r) c.args.objects.now c.args.class c.new.result.items c.reach.ensures.keeps
    (subst (λ z. Owner z (g.R.Classes.made c.args.runtime.now) c.args.objects.now) (sym c.reach.ensures.linked) c.requires.owner)
    (subst (λ z. IsNumbered z c.args.class) (sym keys) c.requires.class)
    (ap (λ z. g.R.Classes.made r (key_of z c.args.class)) keys ∙ c.in_ok-reach.ensures.made) c.new.ensures.items

pub returns-in_err-call-clause-comes : goal.returns-in_err-call-clause-comes
returns-in_err-call-clause-comes g c t f frames is =
    let o = c.args.runtime.now in
    let r = c.reach.new.self in
    let l = g.R.Runtime.linked r in
    let made = g.R.Classes.made o in
    let keys = c.know.ensures.agree.linked_numbers ∙ c.reach.ensures.keys in
    let k = key_of (g.R.Classes.keys o) c.args.class in
    let token = c.new_token-method.ensures in
    let p = err_from_is_err_and c.from_residual-in_err-call.result c.from_residual-in_err-call.ensures.1 in
    let later = scene l (g.R.ClassKeys.known r) (g.R.Runtime.program r) (g.R.Classes.made r) c.args.objects.now (record t { frames = c.args.frames.now }) f in
    subst (λ z. ComesTo (scene (g.R.Runtime.linked o) (g.R.ClassKeys.known o) (g.R.Runtime.program o) made c.args.objects.now t f) later c.args.body z (Used k ∷ [])) (sym (p.1 ∙ ap (λ e. Err e) p.2))
    (from_old (g.R.Runtime.linked o) l (g.R.ClassKeys.known o) (g.R.ClassKeys.known r) (g.R.Runtime.program o) (g.R.Runtime.program r) made c.args.objects.now t f later c.args.body (Err c.in_err-call.field-0.0) (Used k ∷ []) c.reach.ensures.linked c.reach.ensures.known c.reach.ensures.program
    (new_stops l (g.R.ClassKeys.known r) (g.R.Runtime.program r) made (g.R.Classes.made r) c.reach.ensures.keeps c.args.objects.now t c.args.frames.now f c.args.body k is
    c.args.class (subst (λ z. IsNumbered z c.args.class) (sym keys) c.requires.class) (ap (λ z. key_of z c.args.class) keys) (ap (λ z. g.R.Classes.made r (key_of z c.args.class)) keys ∙ c.in_ok-reach.ensures.made) c.new.result.items c.new.ensures.items
    c.in_err-call.field-0.0 (λ h holds seen. c.in_err-call.ensures.passes t.serials (codes_of t.codes) h som_new (token.owner ∙ sym token.method) holds seen)))

pub returns-clause-comes : goal.returns-clause-comes
returns-clause-comes g c t f frames is =
    let o = c.args.runtime.now in
    let r = c.reach.new.self in
    let l = g.R.Runtime.linked r in
    let made = g.R.Classes.made o in
    let keys = c.know.ensures.agree.linked_numbers ∙ c.reach.ensures.keys in
    let k = key_of (g.R.Classes.keys o) c.args.class in
    let token = c.new_token-method.ensures in
    let of = c.in_ok-call.ensures in
    let later = scene l (g.R.ClassKeys.known r) (g.R.Runtime.program r) (g.R.Classes.made r) c.args.objects.now (record t { frames = c.wait-2.new.frames }) f in
    from_old (g.R.Runtime.linked o) l (g.R.ClassKeys.known o) (g.R.ClassKeys.known r) (g.R.Runtime.program o) (g.R.Runtime.program r) made c.args.objects.now t f later c.args.body (Ok (nows.Calling c.args.body.levels c.in_ok-call.call)) (Used k ∷ []) c.reach.ensures.linked c.reach.ensures.known c.reach.ensures.program
    (new_goes l (g.R.ClassKeys.known r) (g.R.Runtime.program r) made (g.R.Classes.made r) c.reach.ensures.keeps c.args.objects.now t c.wait-2.new.frames f c.args.body k is
    c.args.class (subst (λ z. IsNumbered z c.args.class) (sym keys) c.requires.class) (ap (λ z. key_of z c.args.class) keys) (ap (λ z. g.R.Classes.made r (key_of z c.args.class)) keys ∙ c.in_ok-reach.ensures.made) c.new.result.items c.new.ensures.items
    c.in_ok-call.call (λ h holds seen. of.passes t.serials (codes_of t.codes) h som_new (token.owner ∙ sym token.method) holds seen) (λ place on args. of.usable t.serials (codes_of t.codes) place token.token on args) of.live
    (two_pushed t.frames.waiting.items c.wait.new.frames.waiting.items c.wait-2.new.frames.waiting.items (waits.Call c.go_past.new.body) (waits.Call (record c.args.body { at = c.args.body.at + 1 })) c.object_of-object.result (waits.Object c.args.body.place c.args.body.code c.args.body.at)
    (c.in_ok-wait.ensures.items ∙ ap (λ fs. fs.waiting.items ++ waits.Call c.go_past.new.body ∷ []) (sym frames)) c.in_ok-wait-2.ensures.items (ap (λ b. waits.Call b) c.go_past.ensures) c.object_of-object.ensures))
