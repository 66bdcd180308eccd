use Rattle.std.proofs.Common.{Ok, Err, refl, ap, sym, subst, ◌∙◌}
use Rattle.std.proofs.lemmas.Result.{err_from_is_err_and}
use Rattle.som_model.specs.declared.program.Fault.TheVariants as faults
use Rattle.som_objects.specs.declared.cell.Cell.TheVariants as cells
use Rattle.som_interp_state.specs.declared.frames.Now.TheVariants as nows
use Rattle.som_interp_state.specs.declared.task.Task.{Task}
use Rattle.som_values.specs.declared.reference.Reference.{Reference}
use Rattle.som_interp_builtins.specs.declared.kinds.KernelBody.TheVariants as kinds
use Rattle.som_interp_loop.specs.declared.stop.Stop.TheVariants as stops
use Rattle.som_interp_loop.specs.Scene.{Scene, scene}
use Rattle.som_interp_invoke.specs.Beginning.{Began}
use Rattle.som_interp_invoke.proofs.Made.{keeps_none, keeps_one, no_class_answer, object_made, wanting}
use Rattle.som_interp_invoke.proofs.making.begin_making.Goals as goal

pub returns-in_default : goal.returns-in_default
returns-in_default g c f levels args =
    let r = c.args.runtime.now in
    let here : Scene = scene (g.R.Runtime.linked r) (g.R.ClassKeys.known r) (g.R.Runtime.program r) (g.R.Classes.made r) c.args.objects.now c.args.task.now f in
    subst (λ p. Began here here c.args.begun levels c.args.me args (Err (stops.Fault faults.NotClass p))) (sym c.place_of.ensures)
    (no_class_answer (g.R.Runtime.linked r) (g.R.ClassKeys.known r) (g.R.Runtime.program r) (g.R.Classes.made r) c.args.objects.now c.args.task.now f c.args.begun levels args kinds.NewNoInit tt c.requires.what c.args.me c.in_default.not-Class)

pub returns-in_err-object : goal.returns-in_err-object
returns-in_err-object g c f levels args =
    let p = err_from_is_err_and c.from_residual.result c.from_residual.ensures.1 in
    let r = c.args.runtime.now in
    let l = g.R.Runtime.linked r in
    let k = g.R.ClassKeys.known r in
    let main = g.R.Runtime.program r in
    let made = g.R.Classes.made r in
    let os = c.args.objects.now in
    let t = c.args.task.now in
    let t' : Task = record t { serials = c.make.new.serials } in
    let old : Scene = scene l k main made os t f in
    let new : Scene = scene l k main made c.make.new.objects t' f in
    let keeps = keeps_none l k main made os t f c.args.begun levels args c.in-Class.class c.make.new.objects t' refl refl refl refl c.make.ensures.keeps c.make.ensures.others c.in_err-object.ensures.err_serials c.in_err-object.ensures.err in
    subst (λ z. Began old new c.args.begun levels c.args.me args z) (sym (p.1 ∙ ap (λ z. Err z) p.2))
    (subst (λ (m : Reference). Began old new c.args.begun levels m args (Err stops.NoMemory)) (sym c.in-Class.is)
    (wanting l k main made os t f c.args.begun levels args c.in-Class.class c.make.new.objects t' refl refl refl refl c.make.ensures.keeps c.make.ensures.others keeps))

pub returns : goal.returns
returns g c f levels args =
    let r = c.args.runtime.now in
    let l = g.R.Runtime.linked r in
    let k = g.R.ClassKeys.known r in
    let main = g.R.Runtime.program r in
    let made = g.R.Classes.made r in
    let os = c.args.objects.now in
    let t = c.args.task.now in
    let t' : Task = record t { serials = c.make.new.serials } in
    let old : Scene = scene l k main made os t f in
    let new : Scene = scene l k main made c.make.new.objects t' f in
    let o = c.in_ok-object in
    let keeps = keeps_one l k main made os t f c.args.begun levels args c.in-Class.class c.make.new.objects t' refl refl refl refl c.make.ensures.keeps c.make.ensures.others o.object o.ensures.serials o.ensures.serial o.ensures.count in
    subst (λ (m : Reference). Began old new c.args.begun levels m args (Ok (nows.Answering (cells.Object o.object)))) (sym c.in-Class.is)
    (object_made l k main made os t f c.args.begun levels args c.in-Class.class c.make.new.objects t' refl refl refl refl c.make.ensures.keeps c.make.ensures.others o.object o.ensures.serials
    (λ h holding. o.ensures.next t.statics.items h holding (record { own = (tt, tt); made_of = tt })) c.requires.what refl keeps)
