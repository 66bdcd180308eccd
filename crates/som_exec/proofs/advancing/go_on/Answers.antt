use Rattle.std.proofs.Common.{rules}
use Rattle.som_interp_loop.specs.Scene.{scene}
use Rattle.som_trace.specs.Filters.{shows_of}
use Rattle.som_exec.proofs.Alone.{comes_left}
use Rattle.som_exec.proofs.Counting.{advance_counts}
use Rattle.som_exec.proofs.advancing.go_on.Goals as goal

pub returns-clause-comes : goal.returns-clause-comes
returns-clause-comes g c =
    let r = c.args.runtime.now in
    comes_left (scene (g.R.Runtime.linked r) (g.R.ClassKeys.known r) (g.R.Runtime.program r) (g.R.Classes.made r) c.args.objects.now c.args.task.now 0) c.args.units (shows_of c.args.trace.now) c.args.prefix.now (g.K.Sink.written c.args.out.now) c.advance.new.moves.fuel c.advance.result c.advance.ensures.comes
    (search rules) (search rules) (search rules) (search rules) (search rules) (search rules) (search rules)

pub returns-clause-steps : goal.returns-clause-steps
returns-clause-steps g c =
    let r = c.args.runtime.now in
    let m = c.advance.new.moves in
    let q = m.runtime.now in
    let keeps = c.advance.ensures.comes.keeps in
    advance_counts (scene (g.R.Runtime.linked r) (g.R.ClassKeys.known r) (g.R.Runtime.program r) (g.R.Classes.made r) c.args.objects.now c.args.task.now 0)
    (scene (g.R.Runtime.linked q) (g.R.ClassKeys.known q) (g.R.Runtime.program q) (g.R.Classes.made q) m.objects.now m.task.now m.fuel) keeps.linked keeps.classes keeps.main _ (search rules) c.args.steps.now m.steps.now c.args.units (shows_of c.args.trace.now) c.args.prefix.now (g.K.Sink.written c.args.out.now) c.advance.result c.advance.ensures.counted (search rules) (search rules)
