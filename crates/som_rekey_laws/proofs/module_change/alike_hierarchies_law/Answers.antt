use Rattle.som_rekey_laws.proofs.Renaming.{ancestors_alike, descent_alike, answers_alike, names_alike}
use Rattle.som_rekey_laws.proofs.module_change.alike_hierarchies_law.Goals as goal

pub returns-clause-ancestors : goal.returns-clause-ancestors
returns-clause-ancestors t c g h r P like x k = ancestors_alike g h r P like x k

pub returns-clause-descent : goal.returns-clause-descent
returns-clause-descent t c g h r P like x a k l = descent_alike g h r P like x a k l

pub returns-clause-answers : goal.returns-clause-answers
returns-clause-answers t c g h r P like has new_has chosen new_chosen bodies choices known a x is k =
    answers_alike g h r P like has new_has chosen new_chosen bodies choices known a is x k

pub returns-clause-names : goal.returns-clause-names
returns-clause-names t c g h r P like old new same x k = names_alike g h r P like old new same x k
