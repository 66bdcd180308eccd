use Rattle.som_release_laws.proofs.Accepting.{interface_ordered}
use Rattle.som_breach_laws.proofs.Breaking.{first_told}
use Rattle.som_breach_laws.proofs.Moving.{interface_stands}
use Rattle.som_witness.proofs.Shown.{never_binds}
use Rattle.som_witness.proofs.refusals.refused_law.Goals as goal

pub returns : goal.returns
returns c = λ old new b eo en told. never_binds old new (interface_stands old eo) (interface_stands new en) b (first_told old new (interface_ordered new en) b told)
