use Rattle.std.proofs.Common.{ap, sym, ◌∙◌}
use Rattle.som_semantics.specs.Invoked.{kernel_body, table}
use Rattle.som_interp_builtins.proofs.Rows.{past_three}
use Rattle.som_interp_builtins.proofs.kinds.kernel_body.Goals as goal

pub returns-else-is-3 : goal.returns-else-is-3
returns-else-is-3 c =
    c.object_body.ensures
    ∙ past_three c.as_slice-name.result.now (sym c.is.ensures ∙ c.if-is.false) (sym c.is-else-is.ensures ∙ c.if-is-2.false) (sym c.is-else-is-2.ensures ∙ c.if-is-3.false)
    ∙ ap (λ n. kernel_body table n) c.as_slice-name.ensures
