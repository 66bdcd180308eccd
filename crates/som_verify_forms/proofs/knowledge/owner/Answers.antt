use Rattle.std.proofs.Common.{sym, ◌∙◌}
use Rattle.som_verify_forms.specs.Knowing.{all_of}
use Rattle.som_verify_forms.proofs.Facts.{owner_said}
use Rattle.som_verify_forms.proofs.knowledge.owner.Goals as goal

pub returns : goal.returns
returns c = c.owner_of.ensures ∙ sym (owner_said (all_of c.args.known.now) c.args.method.now)
