use Rattle.som_sema.proofs.TextInherited.{inherited_law}
use Rattle.som_sema.proofs.TextLaws.{bases_law, items_law, metaclasses_law, modifiers_law, names_law}
use Rattle.som_sema.proofs.laws.text_rules_law.Goals as goal

pub returns-clause-bases : goal.returns-clause-bases
returns-clause-bases c = bases_law

pub returns-clause-metaclasses : goal.returns-clause-metaclasses
returns-clause-metaclasses c = metaclasses_law

pub returns-clause-names : goal.returns-clause-names
returns-clause-names c = names_law

pub returns-clause-modifiers : goal.returns-clause-modifiers
returns-clause-modifiers c = modifiers_law

pub returns-clause-items : goal.returns-clause-items
returns-clause-items c = items_law

pub returns-clause-inherited : goal.returns-clause-inherited
returns-clause-inherited c = inherited_law
