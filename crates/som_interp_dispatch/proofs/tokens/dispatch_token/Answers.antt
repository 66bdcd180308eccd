use Rattle.std.proofs.Common.{ℕ, sym, subst}
use Rattle.som_model.specs.Kernel.{som_dispatch_name}
use Rattle.som_interp_state.specs.Named.{IsTokenOf}
use Rattle.som_interp_dispatch.proofs.Known.{dispatch_token}
use Rattle.som_interp_dispatch.proofs.tokens.dispatch_token.Goals as goal

pub returns : goal.returns
returns g c =
    let know = c.know.ensures in
    subst (λ (t : ℕ × ℕ). IsTokenOf (g.R.Runtime.linked c.args.runtime.now) som_dispatch_name t) (sym c.token.ensures) (dispatch_token _ _ _ _ _ know.agree know.loads)
