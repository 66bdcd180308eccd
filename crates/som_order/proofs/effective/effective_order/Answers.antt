use Rattle.std.proofs.Common.{◌++◌, ◌∙◌, List, ℕ, ap}
use Rattle.som_model.specs.Lists.{among, without}
use Rattle.som_order.specs.Names.{texts}
use Rattle.som_order.proofs.Noted.{without_alike}
use Rattle.som_order.proofs.effective.effective_order.Goals as goal

pub returns : goal.returns
returns c =
    c.in_ok-add_missing.ensures
    ∙ ap (λ (z : List (List ℕ)). z ++ without (λ name. among name (texts c.in_ok-known.known.keys)) c.args.introduced.now) c.in_ok-order.ensures
    ∙ ap (λ z. c.args.listed.now ++ z) (without_alike (λ name. among name (texts c.in_ok-known.known.keys)) (λ name. among name c.args.listed.now) c.args.introduced.now c.in_ok-known.ensures)
