use Rattle.som_model_laws.proofs.Listed.{marks_more}
use Rattle.som_verify_parents.proofs.ancestry.note.Goals as goal

pub returns-in_ok-push-clause-marks : goal.returns-in_ok-push-clause-marks
returns-in_ok-push-clause-marks c = rw c.in_ok-push.ensures.ok (marks_more c.args.marks.now c.args.list.now c.args.class c.requires.class c.requires.marks)
