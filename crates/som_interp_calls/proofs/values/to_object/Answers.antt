use Rattle.std.proofs.Common.{Ok, Err}
use Rattle.som_interp_loop.specs.Scene.{scene}
use Rattle.som_interp_state.specs.declared.frames.Waiting.TheVariants as waits
use Rattle.som_interp_calls.proofs.Casting.{cast_moved, object_fails, object_resumes, value_classed}
use Rattle.som_interp_calls.proofs.values.to_object.Goals as goal

pub cast_to-requires-clause-classed : goal.cast_to-requires-clause-classed
cast_to-requires-clause-classed g c =
    let r = c.args.runtime.now in
    let met = c.requires in
    value_classed (g.R.Classes.keys r) (scene (g.R.Runtime.linked r) (g.R.ClassKeys.known r) (g.R.Runtime.program r) (g.R.Classes.made r) c.args.objects.now c.args.task.now met.0) (waits.Object c.args.from c.args.code c.args.at) c.args.value met.1.0 met.1.1 met.1.2 c.know.ensures.agree.linked_numbers

pub returns-in-Ok : goal.returns-in-Ok
returns-in-Ok g c f =
    let r = c.args.runtime.now in
    let agree = c.know.ensures.agree in
    object_resumes (scene (g.R.Runtime.linked r) (g.R.ClassKeys.known r) (g.R.Runtime.program r) (g.R.Classes.made r) c.args.objects.now c.args.task.now f) c.args.from c.args.code c.args.at c.args.value c.in-Ok.field-0
    (cast_moved c.args.objects.now c.args.value (Ok c.in-Ok.field-0) (g.R.Classes.keys r) (g.R.Runtime.linked r).keys (g.R.Classes.world r) (g.R.Runtime.linked r).world _ _ agree.linked_numbers agree.linked_answers c.class_named-class.ensures.key c.in-Ok.ensures)

pub returns-in-Err : goal.returns-in-Err
returns-in-Err g c f =
    let r = c.args.runtime.now in
    let agree = c.know.ensures.agree in
    object_fails (scene (g.R.Runtime.linked r) (g.R.ClassKeys.known r) (g.R.Runtime.program r) (g.R.Classes.made r) c.args.objects.now c.args.task.now f) c.args.from c.args.code c.args.at c.args.value c.in-Err.fault
    (cast_moved c.args.objects.now c.args.value (Err c.in-Err.fault) (g.R.Classes.keys r) (g.R.Runtime.linked r).keys (g.R.Classes.world r) (g.R.Runtime.linked r).world _ _ agree.linked_numbers agree.linked_answers c.class_named-class.ensures.key c.in-Err.ensures)
