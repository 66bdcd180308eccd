use Rattle.std.proofs.Common.{sym, subst}
use Rattle.som_interp_state.specs.Named.{HasOwner}
use Rattle.som_interp_invoke.proofs.planning.test.Goals as goal

pub can_run-requires-clause-me : goal.can_run-requires-clause-me
can_run-requires-clause-me g c =
    let r = c.args.runtime.now in
    subst (HasOwner (g.R.Runtime.linked r) (g.R.Classes.made r) c.args.objects.now) (sym c.me.ensures) c.requires.me
