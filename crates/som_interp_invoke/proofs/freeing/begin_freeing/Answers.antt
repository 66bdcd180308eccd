use Rattle.std.proofs.Common.{◌++◌, ◌∷◌, [], Err, refl, ap, sym, subst, ◌∙◌}
use Rattle.std.proofs.lemmas.Result.{err_from_is_err_and}
use Rattle.som_model.specs.Kernel.{som_uninit}
use Rattle.som_model.specs.declared.program.Fault.TheVariants as faults
use Rattle.som_code_cache.specs.Coded.{codes_of}
use Rattle.som_objects.specs.declared.cell.Cell.TheVariants as cells
use Rattle.som_values.specs.declared.reference.Reference.{Reference}
use Rattle.som_trace.specs.declared.running.Place.{Place}
use Rattle.som_trace.specs.declared.running.Place.TheVariants as places
use Rattle.som_trace.specs.declared.manner.Manner.TheVariants as ways
use Rattle.som_interp_state.specs.declared.frames.Waiting.TheVariants as waits
use Rattle.som_interp_state.specs.declared.task.Task.{Task}
use Rattle.som_interp_state.specs.Own.{IsOwnPlace}
use Rattle.som_interp_state.specs.Holding.{IsUsable, IsUsableRef}
use Rattle.som_interp_loop.specs.declared.stop.Stop.TheVariants as stops
use Rattle.som_interp_loop.specs.Scene.{Scene, scene, setting_of}
use Rattle.som_interp_invoke.specs.Beginning.{Began, call_at}
use Rattle.som_interp_invoke.proofs.Called.{all_none, frames_wanting, no_arguments, not_freed, object_freed, offset_at}
use Rattle.som_interp_invoke.proofs.freeing.begin_freeing.Goals as goal

pub returns-in_default : goal.returns-in_default
returns-in_default g c f args =
    let r = c.args.runtime.now in
    let l = g.R.Runtime.linked r in
    let t = c.args.task.now in
    let here : Scene = scene l (g.R.ClassKeys.known r) (g.R.Runtime.program r) (g.R.Classes.made r) c.args.objects.now t f in
    subst (λ p. Began here here c.args.begun c.args.levels c.args.me args (Err (stops.Fault faults.ClassFree p))) (sym c.place_of.ensures)
    (not_freed l (g.R.ClassKeys.known r) (g.R.Runtime.program r) (g.R.Classes.made r) c.args.objects.now t t f refl refl refl refl refl c.args.begun c.requires.what c.args.levels args c.args.me c.in_default.not-Object)

pub returns-in_err-wait_for : goal.returns-in_err-wait_for
returns-in_err-wait_for g c f args =
    let p = err_from_is_err_and c.from_residual.result c.from_residual.ensures.1 in
    let r = c.args.runtime.now in
    let l = g.R.Runtime.linked r in
    let k = g.R.ClassKeys.known r in
    let main = g.R.Runtime.program r in
    let made = g.R.Classes.made r in
    let os = c.args.objects.now in
    let t = c.args.task.now in
    let t' : Task = record t { frames = record t.frames { waiting = c.wait_for.new.waiting } } in
    subst (λ z. Began (scene l k main made os t f) (scene l k main made os t' f) c.args.begun c.args.levels c.args.me args z) (sym (p.1 ∙ ap (λ z. Err z) p.2))
    (frames_wanting l k main made os t t' f refl refl refl refl refl c.args.begun c.args.levels c.args.me args)

pub pass_offset-call-requires : goal.pass_offset-call-requires
pass_offset-call-requires g c =
    let r = c.args.runtime.now in
    let l = g.R.Runtime.linked r in
    let made = g.R.Classes.made r in
    let t = c.args.task.now in
    let began = c.requires.can.1.4 in
    let self = subst (λ (m : Reference). IsUsableRef l made t.serials c.args.objects.now m) c.in-Object.is began.self in
    no_arguments l made t.serials c.args.objects.now t.statics.items c.requires.can.1.1 began.around.holding (cells.Object c.in-Object.object) (record { own = self.own; made_of = self.made_of }) c.new-none.result.items c.new-none.ensures.items

pub returns : goal.returns
returns g c f args =
    let r = c.args.runtime.now in
    let l = g.R.Runtime.linked r in
    let k = g.R.ClassKeys.known r in
    let main = g.R.Runtime.program r in
    let made = g.R.Classes.made r in
    let os = c.args.objects.now in
    let t = c.args.task.now in
    let t' : Task = record t { frames = record t.frames { waiting = c.wait_for.new.waiting } } in
    let old : Scene = scene l k main made os t f in
    let new : Scene = scene l k main made os t' f in
    let b = c.args.begun in
    let o = c.in-Object.object in
    let at = places.Body b.class b.method in
    let call = c.pass_offset-call.result in
    let none = c.new-none.result.items in
    let pushed = c.in_ok-wait_for.ensures ∙ ap (λ (p : Place). t.frames.waiting.items ++ waits.Uninit p o ∷ []) c.place_of-from.ensures in
    subst (λ z. Began old new b c.args.levels c.args.me args z) (sym (c.called.ensures ∙ ap (λ p. call_at c.args.levels p call) c.place_of-2.ensures))
    (subst (λ (m : Reference). Began old new b c.args.levels m args (call_at c.args.levels at call)) (sym c.in-Object.is)
    (object_freed l k main made os t t' f refl refl refl refl refl b c.requires.what c.args.levels args o pushed none c.new-none.ensures.items call c.pass_offset-call.ensures.live (λ h holding usable class token.
    (let tok = c.uninit_token-method in (
      offset_at l os c.place_of-at.result at c.place_of-at.ensures call ways.Offset tok.result (cells.Object o) none c.pass_offset-call.ensures.passes t'.serials (codes_of t'.codes) h som_uninit (tok.ensures.owner ∙ sym tok.ensures.method) holding.heap.holds usable.own.0,
      c.pass_offset-call.ensures.usable t'.serials (codes_of t'.codes) (subst (IsOwnPlace (setting_of new) os) (sym c.place_of-at.ensures) (class, token)) tok.ensures.token usable (all_none (IsUsable l made t'.serials os) none c.new-none.ensures.items),
    )))))
