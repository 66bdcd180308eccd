use Rattle.som_class_layout_laws.proofs.Scheme.{is_scheme}
use Rattle.som_class_layout_laws.proofs.scheme_laws.scheme_law.Goals as goal

pub returns : goal.returns
returns c = is_scheme
