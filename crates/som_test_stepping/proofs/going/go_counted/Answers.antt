use Rattle.som_trace.specs.Filters.{shows_of}
use Rattle.som_test_stepping.proofs.Staying.{beside_ok, can_go_on_ok}
use Rattle.som_test_stepping.proofs.going.go_counted.Goals as goal

pub returns-clause-stands : goal.returns-clause-stands
returns-clause-stands g c =
    let r = c.args.kernel.now in
    let q = c.advance-answer.new.runtime in
    can_go_on_ok (g.R.Runtime.linked r) (g.R.Runtime.linked q) (g.R.ClassKeys.known r) (g.R.ClassKeys.known q) (g.R.Runtime.program r) (g.R.Runtime.program q) (g.R.Classes.made r) (g.R.Classes.made q) c.args.objects.now c.advance-answer.new.objects c.args.task.now c.advance-answer.new.task c.args.units (shows_of c.args.trace.now) c.args.prefix.now _ _ c.advance-answer.result
    c.advance-answer.ensures.comes c.advance-answer.ensures.live c.after_advance.result

pub returns-clause-beside : goal.returns-clause-beside
returns-clause-beside g c =
    let r = c.args.kernel.now in
    let q = c.advance-answer.new.runtime in
    beside_ok (g.R.Runtime.linked r) (g.R.Runtime.linked q) (g.R.ClassKeys.known r) (g.R.ClassKeys.known q) (g.R.Runtime.program r) (g.R.Runtime.program q) (g.R.Classes.made r) (g.R.Classes.made q) c.args.objects.now c.advance-answer.new.objects c.args.task.now c.advance-answer.new.task c.args.units (shows_of c.args.trace.now) c.args.prefix.now _ _ c.advance-answer.result
    c.advance-answer.ensures.comes c.advance-answer.ensures.live c.after_advance.result c.requires.live
