use Rattle.som_sema.proofs.TextsConform.{library_conforms, texts_conform, texts_select}
use Rattle.som_sema.proofs.laws.declarations_law.Goals as goal

pub returns-clause-over_base : goal.returns-clause-over_base
returns-clause-over_base c = texts_conform

pub returns-clause-alone : goal.returns-clause-alone
returns-clause-alone c = library_conforms

pub returns-clause-selects : goal.returns-clause-selects
returns-clause-selects c = texts_select
