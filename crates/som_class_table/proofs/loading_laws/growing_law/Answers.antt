use Rattle.som_class_table.proofs.Loading.{grown_derived, grown_made, grown_proxy}
use Rattle.som_class_table.proofs.loading_laws.growing_law.Goals as goal

pub returns-clause-derived : goal.returns-clause-derived
returns-clause-derived c = grown_derived

pub returns-clause-proxy : goal.returns-clause-proxy
returns-clause-proxy c = grown_proxy

pub returns-clause-made : goal.returns-clause-made
returns-clause-made c = λ k main have key one. grown_made k key main have one
