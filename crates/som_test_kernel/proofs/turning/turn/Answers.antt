use Rattle.som_test_stepping.proofs.Staying.{on_ok}
use Rattle.som_test_kernel.proofs.turning.turn.Goals as goal

pub returns-clause-stands : goal.returns-clause-stands
returns-clause-stands g c = on_ok c.tell_task.result c.in_ok-ending.ensures.stands

pub returns-clause-beside : goal.returns-clause-beside
returns-clause-beside g c = on_ok c.tell_task.result c.in_ok-ending.ensures.beside
