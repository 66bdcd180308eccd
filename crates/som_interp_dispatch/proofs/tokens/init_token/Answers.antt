use Rattle.std.proofs.Common.{ℕ, sym, subst}
use Rattle.som_model.specs.Kernel.{som_init}
use Rattle.som_interp_state.specs.Named.{IsTokenOf}
use Rattle.som_interp_dispatch.proofs.Known.{init_token}
use Rattle.som_interp_dispatch.proofs.tokens.init_token.Goals as goal

pub returns : goal.returns
returns g c =
    let know = c.know.ensures in
    subst (λ (t : ℕ × ℕ). IsTokenOf (g.R.Runtime.linked c.args.runtime.now) som_init t) (sym c.token.ensures) (init_token _ _ _ _ _ know.agree know.loads)
