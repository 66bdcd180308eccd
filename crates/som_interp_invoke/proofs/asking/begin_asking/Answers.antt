use Rattle.std.proofs.Common.{sym, subst}
use Rattle.som_interp_loop.specs.Scene.{Scene, scene}
use Rattle.som_interp_builtins.specs.Kinds.{asking_shown}
use Rattle.som_interp_invoke.specs.Beginning.{Began}
use Rattle.som_interp_invoke.proofs.Asked.{asked, by_linked, may_ask}
use Rattle.som_interp_invoke.proofs.asking.begin_asking.Goals as goal

pub returns-clause-began : goal.returns-clause-began
returns-clause-began g c t f levels =
    let l = g.R.Runtime.linked c.args.runtime.now in
    let made = g.R.Classes.made c.args.runtime.now in
    let os = c.args.objects.now in
    let here : Scene = scene l (g.R.ClassKeys.known c.args.runtime.now) (g.R.Runtime.program c.args.runtime.now) made os t f in
    let agree = c.know.ensures.agree in
    subst (λ r. Began here here c.args.begun levels c.args.me c.args.args.now r) (sym c.answered.ensures)
    (asked here c.args.begun c.args.me c.args.args.now c.args.asking c.requires.what c.ask.result levels (λ body ws s began.
    by_linked l made (g.R.Classes.keys c.args.runtime.now) (g.R.Classes.world c.args.runtime.now) t.serials os c.ask.result (asking_shown c.args.asking) c.args.me c.args.args.now s.heap agree.linked_numbers agree.linked_answers
    (c.ask.ensures.answered t.serials t.statics.items s.heap (may_ask here c.args.begun c.args.me c.args.args.now body ws s began))))
