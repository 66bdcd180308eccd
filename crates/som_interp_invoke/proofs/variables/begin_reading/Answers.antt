use Rattle.std.proofs.Common.{sym, ap, subst, ◌∙◌}
use Rattle.som_interp_loop.specs.Scene.{Scene, scene}
use Rattle.som_interp_invoke.specs.Beginning.{Began, answer_at}
use Rattle.som_interp_invoke.proofs.variables.begin_reading.Goals as goal

pub read_variable-requires-clause-can : goal.read_variable-requires-clause-can
read_variable-requires-clause-can g c = (c.args.task.now.frames, c.requires.can.0, c.requires.can.1)

pub returns : goal.returns
returns g c f levels args =
    let r = c.args.runtime.now in
    let here : Scene = scene (g.R.Runtime.linked r) (g.R.ClassKeys.known r) (g.R.Runtime.program r) (g.R.Classes.made r) c.args.objects.now c.args.task.now f in
    subst (λ z. Began here here c.args.begun levels c.args.me args z) (sym (c.answered.ensures ∙ ap (λ at. answer_at at c.read_variable.result) c.place_of-at.ensures))
    (c.read_variable.ensures c.args.task.now.frames f levels args)
