use Rattle.som_interp_dispatch.proofs.Known.{live_made}
use Rattle.som_interp_dispatch.proofs.classes.live_class.Goals as goal

pub returns-clause-made : goal.returns-clause-made
returns-clause-made g c =
    let know = c.know.ensures in
    live_made _ _ _ _ _ know.agree know.loads _ know.closed _ _ _ c.requires.me c.in-Ok.ensures.numbered c.in-Ok.ensures.means
