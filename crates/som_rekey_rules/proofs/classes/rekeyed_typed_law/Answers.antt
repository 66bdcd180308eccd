use Rattle.som_model.specs.Typing.{class_facts, running_facts}
use Rattle.som_rekey_laws.specs.Rekeying.{rekey_classes}
use Rattle.som_rekey_laws.proofs.FactsKept.{facts_kept, running_kept}
use Rattle.som_rekey_rules.proofs.ClassesNamed.{all_named, all_targets, all_metaclasses, declared_answers, running_answers}
use Rattle.som_rekey_rules.proofs.ClassesTyped.{class_typed_kept, main_kept}
use Rattle.som_rekey_rules.proofs.classes.rekeyed_typed_law.Goals as goal

pub returns-clause-declared : goal.returns-clause-declared
returns-clause-declared c f names kk apart cs are d is =
    class_typed_kept f names kk apart (class_facts cs) (class_facts (rekey_classes f cs)) (facts_kept f names kk cs apart (all_named names cs are) (all_targets names cs are))
    (declared_answers names cs are f kk apart) d is cs are

pub returns-clause-running : goal.returns-clause-running
returns-clause-running c f names kk apart cs are d is =
    class_typed_kept f names kk apart (running_facts cs) (running_facts (rekey_classes f cs)) (running_kept f names kk cs apart (all_named names cs are) (all_targets names cs are) (all_metaclasses names cs are))
    (running_answers names cs are f kk apart) d is cs are

pub returns-clause-main_declared : goal.returns-clause-main_declared
returns-clause-main_declared c f names kk apart cs are main n =
    main_kept f names kk apart (class_facts cs) (class_facts (rekey_classes f cs)) (facts_kept f names kk cs apart (all_named names cs are) (all_targets names cs are))
    (declared_answers names cs are f kk apart) main n

pub returns-clause-main_running : goal.returns-clause-main_running
returns-clause-main_running c f names kk apart cs are main n =
    main_kept f names kk apart (running_facts cs) (running_facts (rekey_classes f cs)) (running_kept f names kk cs apart (all_named names cs are) (all_targets names cs are) (all_metaclasses names cs are))
    (running_answers names cs are f kk apart) main n
