use Rattle.std.proofs.Common.{subst, sym}
use Rattle.som_semantics.specs.Runs.{with_more}
use Rattle.som_interp_loop.specs.Scene.{Scene}
use Rattle.som_interp_loop.specs.Standing.{IsSomewhere}
use Rattle.som_interp_task.proofs.Ending.{stands_mid}
use Rattle.som_interp_task.proofs.advancing.go_on.Goals as goal

pub run_on-requires : goal.run_on-requires
run_on-requires g c =
    let stands = c.requires.stands in
    let old = g.M.Moves.scene c.args.moves.now in
    subst (λ (z : Scene). IsSomewhere z) (sym c.grant.ensures.scene) (stands.frames, with_more c.args.units stands.state, (stands_mid old c.args.units stands).at)
