use Rattle.std.proofs.Common.{[], ◌∷◌, ◌++◌, None, Err, sym, ap, subst, ◌∙◌, append-nil}
use Rattle.std.proofs.lemmas.Result.{err_from_is_err_and}
use Rattle.som_code_cache.specs.Coded.{codes_of}
use Rattle.som_model.specs.declared.key.MethodRef.{MethodRef}
use Rattle.som_interp_dispatch.proofs.Known.{method_class}
use Rattle.som_interp_state.specs.Asked.{IsClosed}
use Rattle.som_trace.specs.declared.running.Place.TheVariants as places
use Rattle.som_interp_state.specs.declared.body.Zero.TheVariants as zeros
use Rattle.som_values.specs.Shown.{key_of}
use Rattle.som_interp_loop.specs.Scene.{scene}
use Rattle.som_interp_calls.specs.Parents.{IsFirst, IsNone, Nexts}
use Rattle.som_interp_calls.proofs.Nexts.{first_goes, first_stops, none_moved}
use Rattle.som_interp_calls.proofs.parents.next_call.Goals as goal

pub returns-in_default : goal.returns-in_default
returns-in_default g c = record {
  nexts = λ os t f r frames owner named. (
      let rt = c.args.runtime.now in
      let l = g.R.Runtime.linked rt in
      let known = c.know.ensures in
      let ks = g.R.Classes.keys rt in
      let agree = known.agree in
      none_moved l (g.R.ClassKeys.known rt) (g.R.Runtime.program rt) (g.R.Classes.made rt) (subst (λ w. IsClosed w (g.R.Classes.made rt)) (sym agree.linked_answers) known.closed) os t c.args.frames.now f c.args.levels c.args.me c.args.from c.args.parent c.args.code r c.args.args.items
      c.class_at-class.result c.class.result (ap (λ z. key_of z c.class_at-class.result) agree.linked_numbers ∙ c.class_at-class.ensures.key)
      (ap (λ (m : MethodRef). m.class) owner ∙ method_class ks (g.R.Classes.world rt) (g.R.ClassKeys.known rt) l (g.R.Runtime.program rt) agree known.loads c.args.method ∙ sym (ap (λ n. key_of ks n) c.class.ensures) ∙ sym (ap (λ z. key_of z c.class.result) agree.linked_numbers))
      (ap (λ fs. fs.waiting.items) (sym frames) ∙ sym (append-nil t.frames.waiting.items))
      (subst (λ z. IsNone z l.world c.class_at-class.result c.class.result c.args.parent) (sym agree.linked_numbers) (subst (λ z. IsNone ks z c.class_at-class.result c.class.result c.args.parent) (sym agree.linked_answers) c.in_default.ensures.first)));
}

pub returns-in_err-call : goal.returns-in_err-call
returns-in_err-call g c = record {
  nexts = λ os t f r frames owner named. (
      let rt = c.args.runtime.now in
      let l = g.R.Runtime.linked rt in
      let known = c.know.ensures in
      let ks = g.R.Classes.keys rt in
      let agree = known.agree in
      let p = err_from_is_err_and c.from_residual-in_err-call.result c.from_residual-in_err-call.ensures.1 in
      subst (λ z. Nexts (scene l (g.R.ClassKeys.known rt) (g.R.Runtime.program rt) (g.R.Classes.made rt) os t f) (scene l (g.R.ClassKeys.known rt) (g.R.Runtime.program rt) (g.R.Classes.made rt) os (record t { frames = c.args.frames.now }) f) c.args.levels c.args.me c.args.from c.args.parent c.args.code r c.args.args.items z) (sym (p.1 ∙ ap (λ e. Err e) p.2))
      (first_stops l (g.R.ClassKeys.known rt) (g.R.Runtime.program rt) (g.R.Classes.made rt) (subst (λ w. IsClosed w (g.R.Classes.made rt)) (sym agree.linked_answers) known.closed) os t c.args.frames.now f c.args.levels c.args.me c.args.from c.args.parent c.args.code r c.args.args.items
      c.class_at-class.result c.class.result (ap (λ z. key_of z c.class_at-class.result) agree.linked_numbers ∙ c.class_at-class.ensures.key)
      (ap (λ (m : MethodRef). m.class) owner ∙ method_class ks (g.R.Classes.world rt) (g.R.ClassKeys.known rt) l (g.R.Runtime.program rt) agree known.loads c.args.method ∙ sym (ap (λ n. key_of ks n) c.class.ensures) ∙ sym (ap (λ z. key_of z c.class.result) agree.linked_numbers))
      c.in-Some.first.0 c.in-Some.first.1
      (subst (λ z. IsFirst z l.world c.class_at-class.result c.class.result c.args.parent c.in-Some.first) (sym agree.linked_numbers) (subst (λ z. IsFirst ks z c.class_at-class.result c.class.result c.args.parent c.in-Some.first) (sym agree.linked_answers) c.in-Some.ensures.first))
      c.in_err-call.field-0.0 (λ h. c.in_err-call.ensures.passes l t.serials (codes_of t.codes) h r owner)));
}

pub returns : goal.returns
returns g c = record {
  nexts = λ os t f r frames owner named. (
      let rt = c.args.runtime.now in
      let l = g.R.Runtime.linked rt in
      let made = g.R.Classes.made rt in
      let known = c.know.ensures in
      let ks = g.R.Classes.keys rt in
      let agree = known.agree in
      let of = c.in_ok-call.ensures in
      first_goes l (g.R.ClassKeys.known rt) (g.R.Runtime.program rt) made (subst (λ w. IsClosed w made) (sym agree.linked_answers) known.closed) os t c.wait.new.frames f c.args.levels c.args.me c.args.from c.args.parent c.args.code r c.args.args.items
      c.class_at-class.result c.class.result (ap (λ z. key_of z c.class_at-class.result) agree.linked_numbers ∙ c.class_at-class.ensures.key)
      (ap (λ (m : MethodRef). m.class) owner ∙ method_class ks (g.R.Classes.world rt) (g.R.ClassKeys.known rt) l (g.R.Runtime.program rt) agree known.loads c.args.method ∙ sym (ap (λ n. key_of ks n) c.class.ensures) ∙ sym (ap (λ z. key_of z c.class.result) agree.linked_numbers))
      c.in-Some.first.0 c.in-Some.first.1
      (subst (λ z. IsFirst z l.world c.class_at-class.result c.class.result c.args.parent c.in-Some.first) (sym agree.linked_numbers) (subst (λ z. IsFirst ks z c.class_at-class.result c.class.result c.args.parent c.in-Some.first) (sym agree.linked_answers) c.in-Some.ensures.first))
      (record { levels = 0; me = None; place = places.Main; zero = zeros.Nil; code = 0; at = 0; operands = c.in_ok-again.again; locals = c.in_ok-again.again }) (c.in_ok-again.ensures ∙ c.as_slice.ensures.value) c.args.at named
      c.in_ok-call.call (λ h. of.passes l t.serials (codes_of t.codes) h r owner) (λ place class me args. of.usable l made t.serials (codes_of t.codes) os place class c.requires.token me args) (of.live os)
      (c.in_ok-wait.ensures.items ∙ ap (λ fs. fs.waiting.items ++ c.for_parent-waiting.result ∷ []) (sym frames) ∙ ap (λ x. t.frames.waiting.items ++ x ∷ []) c.for_parent-waiting.ensures));
}
