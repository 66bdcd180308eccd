use Rattle.std.proofs.Common.{ap, ◌∙◌, subst}
use Rattle.som_order.specs.Names.{texts}
use Rattle.som_verify_rules.specs.Shared.{Covers}
use Rattle.som_verify_rules.proofs.shared.shared_rows.Goals as goal

pub rows_of_shared-requires-clause-shared : goal.rows_of_shared-requires-clause-shared
rows_of_shared-requires-clause-shared c =
    let s = c.in_ok-shared.ensures in
    (s.0, subst (λ z. Covers z s.0 (texts c.in_ok-shared.shared.keys)) (ap texts c.deref.ensures.value ∙ c.in_ok-names.ensures) s.1)
