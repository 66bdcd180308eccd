use Rattle.std.proofs.Common.{◌≡◌, sym, ap, subst, ◌∙◌}
use Rattle.som_interp_loop.specs.Scene.{scene}
use Rattle.som_interp_invoke.specs.Beginning.{Began, write_at}
use Rattle.som_trace.specs.declared.running.Place.TheVariants as places
use Rattle.som_interp_state.specs.declared.task.Task.{Task}
use Rattle.som_interp_invoke.proofs.variables.begin_writing.Goals as goal

pub write_variable-requires-clause-can : goal.write_variable-requires-clause-can
write_variable-requires-clause-can g c = (c.args.task.now.frames, c.args.args.items, c.requires.can)

pub returns : goal.returns
returns g c f levels =
    let r = c.args.runtime.now in
    let l = g.R.Runtime.linked r in
    let kn = g.R.ClassKeys.known r in
    let main = g.R.Runtime.program r in
    let made = g.R.Classes.made r in
    let b = c.args.begun in
    let t = c.args.task.now in
    let args = c.args.args.items in
    let put = c.write_variable.new.task in
    subst (λ z. Began (scene l kn main made c.args.objects.now t f) (scene l kn main made c.write_variable.new.objects put f) b levels c.args.me args z) (sym (c.done.ensures ∙ ap (λ at. write_at at c.write_variable.result) c.place_of-at.ensures))
    (subst (λ (z : Task). Began (scene l kn main made c.args.objects.now t f) (scene l kn main made c.write_variable.new.objects z f) b levels c.args.me args (write_at (places.Body b.class b.method) c.write_variable.result)) (frames_kept put t c.write_variable.ensures.same)
    (c.write_variable.ensures.began t.frames f levels args c.first-cell.ensures))
  where
    frames_kept : (put t : Task) → put ≡ record t { statics = put.statics } → record put { frames = t.frames } ≡ put
    frames_kept put t e = ap (λ (z : Task). record put { frames = z.frames }) (sym e)
