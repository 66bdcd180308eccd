use Rattle.som_verify_classes.proofs.pass.refusal.Goals as goal

pub returns-in-Ok : goal.returns-in-Ok
returns-in-Ok c = λ o found. rw c.in-Ok.ensures found

pub returns-in-Err : goal.returns-in-Err
returns-in-Err c = λ o found. tt
