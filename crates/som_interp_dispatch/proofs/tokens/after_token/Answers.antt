use Rattle.std.proofs.Common.{ℕ, sym, subst}
use Rattle.som_model.specs.Kernel.{after_method}
use Rattle.som_interp_state.specs.Named.{IsTokenOf}
use Rattle.som_interp_dispatch.proofs.Known.{after_token}
use Rattle.som_interp_dispatch.proofs.tokens.after_token.Goals as goal

pub returns : goal.returns
returns g c =
    let know = c.know.ensures in
    subst (λ (t : ℕ × ℕ). IsTokenOf (g.R.Runtime.linked c.args.runtime.now) after_method t) (sym c.token.ensures) (after_token _ _ _ _ _ know.agree know.loads)
