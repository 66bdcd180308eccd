use Rattle.std.proofs.Common.{Err, refl, ap, sym, subst, ◌∙◌}
use Rattle.std.proofs.lemmas.Result.{err_from_is_err_and}
use Rattle.som_model.specs.Kernel.{som_init}
use Rattle.som_model.specs.declared.program.Fault.TheVariants as faults
use Rattle.som_code_cache.specs.Coded.{codes_of}
use Rattle.som_objects.specs.declared.cell.Cell.TheVariants as cells
use Rattle.som_values.specs.declared.reference.Reference.{Reference}
use Rattle.som_trace.specs.declared.running.Place.TheVariants as places
use Rattle.som_trace.specs.declared.manner.Manner.TheVariants as ways
use Rattle.som_interp_state.specs.declared.task.Task.{Task}
use Rattle.som_interp_state.specs.Own.{IsOwnPlace}
use Rattle.som_interp_state.specs.Holding.{IsUsable}
use Rattle.som_interp_builtins.specs.declared.kinds.KernelBody.TheVariants as kinds
use Rattle.som_interp_loop.specs.declared.stop.Stop.TheVariants as stops
use Rattle.som_interp_loop.specs.Scene.{Scene, scene, setting_of}
use Rattle.som_interp_invoke.specs.Beginning.{Began, call_at}
use Rattle.som_interp_invoke.proofs.Called.{all_none, offset_at}
use Rattle.som_interp_invoke.proofs.Made.{keeps_none, keeps_one, no_class_answer, object_called, object_owner, wanting}
use Rattle.som_interp_invoke.proofs.making.begin_new.Goals as goal

pub returns-in_default : goal.returns-in_default
returns-in_default g c f args =
    let r = c.args.runtime.now in
    let here : Scene = scene (g.R.Runtime.linked r) (g.R.ClassKeys.known r) (g.R.Runtime.program r) (g.R.Classes.made r) c.args.objects.now c.args.task.now f in
    subst (λ p. Began here here c.args.begun c.args.levels c.args.me args (Err (stops.Fault faults.NotClass p))) (sym c.place_of.ensures)
    (no_class_answer (g.R.Runtime.linked r) (g.R.ClassKeys.known r) (g.R.Runtime.program r) (g.R.Classes.made r) c.args.objects.now c.args.task.now f c.args.begun c.args.levels args kinds.New tt c.requires.what c.args.me c.in_default.not-Class)

pub returns-in_err-object : goal.returns-in_err-object
returns-in_err-object g c f args =
    let p = err_from_is_err_and c.from_residual.result c.from_residual.ensures.1 in
    let r = c.args.runtime.now in
    let l = g.R.Runtime.linked r in
    let k = g.R.ClassKeys.known r in
    let main = g.R.Runtime.program r in
    let made = g.R.Classes.made r in
    let os = c.args.objects.now in
    let t = c.args.task.now in
    let t' : Task = record t { serials = c.make.new.serials } in
    let old : Scene = scene l k main made os t f in
    let new : Scene = scene l k main made c.make.new.objects t' f in
    let keeps = keeps_none l k main made os t f c.args.begun c.args.levels args c.in-Class.class c.make.new.objects t' refl refl refl refl c.make.ensures.keeps c.make.ensures.others c.in_err-object.ensures.err_serials c.in_err-object.ensures.err in
    subst (λ z. Began old new c.args.begun c.args.levels c.args.me args z) (sym (p.1 ∙ ap (λ z. Err z) p.2))
    (subst (λ (m : Reference). Began old new c.args.begun c.args.levels m args (Err stops.NoMemory)) (sym c.in-Class.is)
    (wanting l k main made os t f c.args.begun c.args.levels args c.in-Class.class c.make.new.objects t' refl refl refl refl c.make.ensures.keeps c.make.ensures.others keeps))

pub returns-in_err-wait_for : goal.returns-in_err-wait_for
returns-in_err-wait_for g c f args =
    let p = err_from_is_err_and c.from_residual-in_err-wait_for.result c.from_residual-in_err-wait_for.ensures.1 in
    let r = c.args.runtime.now in
    let l = g.R.Runtime.linked r in
    let k = g.R.ClassKeys.known r in
    let main = g.R.Runtime.program r in
    let made = g.R.Classes.made r in
    let os = c.args.objects.now in
    let t = c.args.task.now in
    let t' : Task = record t { serials = c.make.new.serials; frames = record t.frames { waiting = c.wait_for.new.waiting } } in
    let old : Scene = scene l k main made os t f in
    let new : Scene = scene l k main made c.make.new.objects t' f in
    let o = c.in_ok-object in
    let keeps = keeps_one l k main made os t f c.args.begun c.args.levels args c.in-Class.class c.make.new.objects t' refl refl refl refl c.make.ensures.keeps c.make.ensures.others o.object o.ensures.serials o.ensures.serial o.ensures.count in
    subst (λ z. Began old new c.args.begun c.args.levels c.args.me args z) (sym (p.1 ∙ ap (λ z. Err z) p.2))
    (subst (λ (m : Reference). Began old new c.args.begun c.args.levels m args (Err stops.NoMemory)) (sym c.in-Class.is)
    (wanting l k main made os t f c.args.begun c.args.levels args c.in-Class.class c.make.new.objects t' refl refl refl refl c.make.ensures.keeps c.make.ensures.others keeps))

pub pass_offset-call-requires : goal.pass_offset-call-requires
pass_offset-call-requires g c =
    let r = c.args.runtime.now in
    let l = g.R.Runtime.linked r in
    let k = g.R.ClassKeys.known r in
    let main = g.R.Runtime.program r in
    let made = g.R.Classes.made r in
    let os = c.args.objects.now in
    let t = c.args.task.now in
    let t' : Task = record t { serials = c.make.new.serials } in
    let o = c.in_ok-object in
    object_owner l k main made os t 0 c.args.begun c.args.levels c.requires.can.0 c.in-Class.class c.make.new.objects t' refl refl refl refl c.make.ensures.keeps c.make.ensures.others o.object o.ensures.serials
    (λ h holding. o.ensures.next t.statics.items h holding (record { own = (tt, tt); made_of = tt })) c.requires.can.1.1 c.requires.can.1.4.around.holding c.new-none.result.items c.new-none.ensures.items

pub returns : goal.returns
returns g c f args =
    let r = c.args.runtime.now in
    let l = g.R.Runtime.linked r in
    let k = g.R.ClassKeys.known r in
    let main = g.R.Runtime.program r in
    let made = g.R.Classes.made r in
    let os = c.args.objects.now in
    let os' = c.make.new.objects in
    let t = c.args.task.now in
    let t' : Task = record t { serials = c.make.new.serials; frames = record t.frames { waiting = c.wait_for.new.waiting } } in
    let old : Scene = scene l k main made os t f in
    let new : Scene = scene l k main made os' t' f in
    let b = c.args.begun in
    let o = c.in_ok-object in
    let at = places.Body b.class b.method in
    let call = c.pass_offset-call.result in
    let none = c.new-none.result.items in
    let keeps = keeps_one l k main made os t f b c.args.levels args c.in-Class.class os' t' refl refl refl refl c.make.ensures.keeps c.make.ensures.others o.object o.ensures.serials o.ensures.serial o.ensures.count in
    subst (λ z. Began old new b c.args.levels c.args.me args z) (sym (c.called.ensures ∙ ap (λ p. call_at c.args.levels p call) c.place_of-2.ensures))
    (subst (λ (m : Reference). Began old new b c.args.levels m args (call_at c.args.levels at call)) (sym c.in-Class.is)
    (object_called l k main made os t f b c.args.levels args c.in-Class.class os' t' refl refl refl refl c.make.ensures.keeps c.make.ensures.others o.object o.ensures.serials
    (λ h holding. o.ensures.next t.statics.items h holding (record { own = (tt, tt); made_of = tt })) c.requires.what c.in_ok-wait_for.ensures keeps none c.new-none.ensures.items call c.pass_offset-call.ensures.live (λ h holding usable class token.
    (let tok = c.init_token-method in (
      offset_at l os' c.place_of-at.result at c.place_of-at.ensures call ways.Offset tok.result (cells.Object o.object) none c.pass_offset-call.ensures.passes t'.serials (codes_of t'.codes) h som_init (tok.ensures.owner ∙ sym tok.ensures.method) holding.heap.holds usable.own.0,
      c.pass_offset-call.ensures.usable t'.serials (codes_of t'.codes) (subst (IsOwnPlace (setting_of new) os') (sym c.place_of-at.ensures) (class, token)) tok.ensures.token usable (all_none (IsUsable l made t'.serials os') none c.new-none.ensures.items),
    )))))
