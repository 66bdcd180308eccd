use Rattle.std.proofs.Common.{◌++◌, ap, sym, ◌∙◌}
use Rattle.som_model.specs.Kernel.{kernel}
use Rattle.som_model.specs.Owner.{owner}
use Rattle.som_release_laws.proofs.OneOwner.{exchange_owner}
use Rattle.som_release_laws.proofs.laws.one_owner_law.Goals as goal

pub returns : goal.returns
returns c = λ olds news own fa fn keep kept apart r s r_there s_there same.
    exchange_owner olds news own fa fn keep apart kept r r_there
    ∙ ap (owner (kernel ++ (news ++ own))) same
    ∙ sym (exchange_owner olds news own fa fn keep apart kept s s_there)
