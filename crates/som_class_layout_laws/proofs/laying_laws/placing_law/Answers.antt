use Rattle.som_tables.proofs.LateRows.{Filled-set}
use Rattle.som_class_layout_laws.proofs.DataRows.{none_placed, parents_place, placed_filled, placed_others}
use Rattle.som_class_layout_laws.proofs.laying_laws.placing_law.Goals as goal

pub returns-clause-none : goal.returns-clause-none
returns-clause-none g c = none_placed

pub returns-clause-next : goal.returns-clause-next
returns-clause-next g c = λ s ok own shift rows placed n a row declared. placed_filled s ok own shift rows placed n a row _ (Filled-set rows n a declared)

pub returns-clause-known : goal.returns-clause-known
returns-clause-known g c = λ s ok own shift rows placed n a row t is ne d. parents_place s ok own shift rows placed n a row.numbered row.parents row.below t is ne d

pub returns-clause-others : goal.returns-clause-others
returns-clause-others g c = placed_others
