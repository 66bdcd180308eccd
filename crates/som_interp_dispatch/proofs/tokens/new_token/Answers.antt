use Rattle.std.proofs.Common.{ℕ, sym, subst}
use Rattle.som_model.specs.Kernel.{som_new}
use Rattle.som_interp_state.specs.Named.{IsTokenOf}
use Rattle.som_interp_dispatch.proofs.Known.{new_token}
use Rattle.som_interp_dispatch.proofs.tokens.new_token.Goals as goal

pub returns : goal.returns
returns g c =
    let know = c.know.ensures in
    subst (λ (t : ℕ × ℕ). IsTokenOf (g.R.Runtime.linked c.args.runtime.now) som_new t) (sym c.token.ensures) (new_token _ _ _ _ _ know.agree know.loads)
