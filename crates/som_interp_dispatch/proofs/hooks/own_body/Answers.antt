use Rattle.som_interp_dispatch.proofs.Finding.{not_own}
use Rattle.som_interp_dispatch.proofs.hooks.own_body.Goals as goal

pub returns-else-eq : goal.returns-else-eq
returns-else-eq g c =
    let know = c.know.ensures in
    record { own = not_own _ _ _ _ _ know.agree know.loads _ _ _ c.requires.class.0 c.resolve-body.ensures.body c.if-eq.ensures }
