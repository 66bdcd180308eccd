use Rattle.std.proofs.Common.{ap, ◌∙◌}
use Rattle.som_verify_classes.specs.Modules.{classes_of}
use Rattle.som_sema.proofs.build.built.Goals as goal

pub built_among-requires-clause-known : goal.built_among-requires-clause-known
built_among-requires-clause-known c = ap classes_of c.as_slice.ensures.value ∙ c.in_ok-classes.ensures
