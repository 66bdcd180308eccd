use Rattle.std.proofs.Common.{◌∙◌}
use Rattle.som_elab.proofs.elaborated.bodies_in_context.Goals as goal

pub introducers_of-requires : goal.introducers_of-requires
introducers_of-requires c = c.as_slice.ensures ∙ c.requires.parts.kernel
