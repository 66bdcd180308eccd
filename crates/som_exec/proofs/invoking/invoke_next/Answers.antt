use Rattle.som_code_cache.specs.Coded.{codes_of}
use Rattle.som_interp_loop.specs.Scene.{scene}
use Rattle.som_exec.proofs.StepCounting.{invoked_counted}
use Rattle.som_exec.proofs.Entering.{invoked_came, same_four}
use Rattle.som_exec.proofs.invoking.invoke_next.Goals as goal

pub returns-clause-came : goal.returns-clause-came
returns-clause-came g c =
    let r = c.args.runtime.now in
    let q = c.invoke.new.runtime in
    let was = scene (g.R.Runtime.linked r) (g.R.ClassKeys.known r) (g.R.Runtime.program r) (g.R.Classes.made r) c.args.objects.now c.args.task.now c.args.fuel.now in
    let new = scene (g.R.Runtime.linked q) (g.R.ClassKeys.known q) (g.R.Runtime.program q) (g.R.Classes.made q) c.invoke.new.objects c.invoke.new.task c.invoke.new.fuel in
    invoked_came was _ c.args.prefix.now (g.K.Sink.written c.args.out.now) (g.K.Sink.written c.invoke.new.out) new c.invoke.result
    (λ e. let x = c.invoke.ensures.spent e in
    same_four (λ a t os f. scene (g.R.Runtime.linked a) (g.R.ClassKeys.known a) (g.R.Runtime.program a) (g.R.Classes.made a) os t f) x.0 x.1 x.2 x.3)
    c.requires.somewhere c.invoke.ensures.invoked

pub returns-clause-counted : goal.returns-clause-counted
returns-clause-counted g c =
    let r = c.args.runtime.now in
    let t = c.args.task.now in
    let was = scene (g.R.Runtime.linked r) (g.R.ClassKeys.known r) (g.R.Runtime.program r) (g.R.Classes.made r) c.args.objects.now t c.args.fuel.now in
    let i = c.requires.invoking in
    invoked_counted was _ _ i.0 i.1 i.2 (c.invoke.ensures.steps i.0 i.1 t.serials (codes_of t.codes) i.2) (λ n. c.invoke.ensures.searches i.0 i.1 t.serials (codes_of t.codes) n i.2)
