use Rattle.std.proofs.Common.{Some, refl, sym, subst}
use Rattle.som_objects.specs.declared.cell.Cell.{Cell}
use Rattle.som_values.specs.Shown.{key_of, shown, showing}
use Rattle.som_interp_state.specs.declared.task.Task.{Task}
use Rattle.som_interp_state.specs.Holding.{IsUsable}
use Rattle.som_interp_objects.specs.Acting.{Becomes, assigned, me_value}
use Rattle.som_interp_invoke.proofs.Written.{set_held, variable_there, was_written, written_keeps}
use Rattle.som_interp_invoke.proofs.variables.write_variable.Goals as goal

pub assign-requires-clause-variable : goal.assign-requires-clause-variable
assign-requires-clause-variable g c =
    let r = c.args.runtime.now in
    let l = g.R.Runtime.linked r in
    let b = c.args.begun.now in
    let began = c.requires.can.2.4.begun in
    variable_there (g.R.Classes.keys r) (g.R.Classes.world r) (g.R.ClassKeys.known r) l (g.R.Runtime.program r) c.know.ensures.agree c.know.ensures.loads (key_of l.keys b.class) (l.method b.method) c.args.variable
    (set_held l c.args.task.now.codes b c.args.variable c.requires.what _ _ began)

pub returns-clause-began : goal.returns-clause-began
returns-clause-began g c fr f levels args is =
    let r = c.args.runtime.now in
    let l = g.R.Runtime.linked r in
    let made = g.R.Classes.made r in
    let b = c.args.begun.now in
    let t : Task = record c.args.task.now { frames = fr } in
    let os = c.args.objects.now in
    let t' : Task = record t { statics = c.assign.new.statics } in
    let began = c.requires.can.2.4 in
    let keeps = written_keeps l (g.R.ClassKeys.known r) (g.R.Runtime.program r) made os c.assign.new.objects t t' f refl refl refl refl refl c.assign.ensures.keeps c.assign.ensures.count c.args.me began.self.own c.assign.ensures.others in
    was_written l (g.R.ClassKeys.known r) (g.R.Runtime.program r) made os c.assign.new.objects t t' f refl refl refl refl refl c.assign.ensures.keeps c.assign.ensures.count b c.args.variable c.requires.what levels c.args.me args c.assign.result keeps
    (λ h a usable. subst (λ (x : Cell). Becomes l made t.serials c.assign.new.objects c.assign.new.statics.items c.assign.result (assigned (key_of l.keys b.class) c.args.variable (me_value l t.serials (Some c.args.me)) (shown (showing l.keys t.serials) x) h)) is
    (c.assign.ensures.means t.serials h a (subst (IsUsable l made t.serials os) (sym is) usable)))
    (c.assign.ensures.held t.serials)
