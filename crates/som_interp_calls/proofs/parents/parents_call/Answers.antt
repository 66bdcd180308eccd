use Rattle.std.proofs.Common.{[], ◌∷◌, ◌++◌, refl, sym, ap, subst, ◌∙◌}
use Rattle.som_code_cache.specs.Coded.{codes_of}
use Rattle.som_interp_state.specs.Settings.{instruction_at, method_named}
use Rattle.som_interp_state.specs.declared.frames.Waiting.TheVariants as waits
use Rattle.som_interp_loop.specs.Scene.{scene}
use Rattle.som_interp_calls.specs.Parents.{Nexts}
use Rattle.som_interp_calls.proofs.Beginning.{parents_begin}
use Rattle.som_interp_calls.proofs.parents.parents_call.Goals as goal

pub returns : goal.returns
returns g c = record {
  comes = λ os t f r frames owner is. (
      let rt = c.args.runtime.now in
      let l = g.R.Runtime.linked rt in
      let new = c.take_parent_call.new.body in
      let k = g.R.ClassKeys.known rt in
      let main = g.R.Runtime.program rt in
      let made = g.R.Classes.made rt in
      let later = scene l k main made os (record t { frames = c.next_call.new.frames }) f in
      let between = scene l k main made os (record t { frames = c.wait.new.frames }) f in
      parents_begin l k main made os t c.wait.new.frames c.next_call.new.frames f c.args.body r c.args.count is c.in_ok-args.args.items c.in_ok-args.ensures.args c.next_call.result new c.in_ok-args.ensures.same c.in_ok-args.ensures.rest
      (c.in_ok-wait.ensures.items ∙ ap (λ fs. fs.waiting.items ++ waits.Call new ∷ []) (sym frames))
      (subst (λ me. Nexts between later new.levels me new.place 0 new.code r c.in_ok-args.args.items c.next_call.result) c.self_of-me.ensures
      (subst (λ at. Nexts between later new.levels c.self_of-me.result at 0 new.code r c.in_ok-args.args.items c.next_call.result) c.place_of-from.ensures
      (c.next_call.ensures.nexts os (record t { frames = c.wait.new.frames }) f r refl owner (ap (λ b. method_named (instruction_at (codes_of t.codes) b.code c.args.body.at)) c.in_ok-args.ensures.same ∙ ap method_named is)))));
}
