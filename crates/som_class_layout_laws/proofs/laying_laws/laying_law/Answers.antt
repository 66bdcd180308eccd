use Rattle.som_tables.proofs.LateRows.{Filled-set}
use Rattle.som_class_layout_laws.proofs.Rows.{laid_filled, none_laid, parents_have}
use Rattle.som_class_layout_laws.proofs.laying_laws.laying_law.Goals as goal

pub returns-clause-none : goal.returns-clause-none
returns-clause-none g c = none_laid

pub returns-clause-next : goal.returns-clause-next
returns-clause-next g c = λ s ok old now rows laid n a kept row declared. laid_filled s ok old rows laid n a now kept row _ (Filled-set rows n a declared)

pub returns-clause-known : goal.returns-clause-known
returns-clause-known g c = λ s ok b rows laid n a row t is ne d. parents_have s ok b rows laid n a row.numbered row.parents row.below t is ne d
