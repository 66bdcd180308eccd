use Rattle.std.proofs.Common.{◌∙◌}
use Rattle.som_verify_forms.specs.Knowing.{all_of}
use Rattle.som_verify_forms.proofs.Facts.{kind_said}
use Rattle.som_verify_forms.proofs.knowledge.known_kind.Goals as goal

pub unreachable-requires : goal.unreachable-requires
unreachable-requires c = let known = c.in-None.ensures.known ∙ kind_said (all_of c.args.known.now) c.args.kind.now ∙ c.requires.kind in cc
