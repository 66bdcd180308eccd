use Rattle.std.proofs.Common.{[], ◌∷◌}
use Rattle.som_cmd_steps.proofs.Printed.{ends, fails, fronts}
use Rattle.som_cmd_steps.proofs.Statuses.{ends_in}
use Rattle.som_cmd_check.specs.ShowAnswer.{IsShowAnswer}
use Rattle.som_cmd_check.specs.Cause.{FailsShowing}
use Rattle.som_cmd_check.proofs.ShowLaws.{some_show_answer}
use Rattle.som_cmd_check.proofs.show.show_image.Goals as goal

pub returns-clause-answered : goal.returns-clause-answered
returns-clause-answered g c = λ not6 not8 not10.
    ends (IsShowAnswer c.args.name.now) (g.S.Store.files c.args.store.now) c.show_output.result c.show_output.ensures.answer c.tell.result (g.S.Store.files c.show_output.new.store) c.show_output.ensures.files (g.K.Sink.written c.args.out.now) (g.K.Sink.written c.tell.new.out) (c.tell.ensures.all not6 not8 not10)

pub returns-clause-store_failed : goal.returns-clause-store_failed
returns-clause-store_failed g c = λ six. fails (FailsShowing (g.S.Store.files c.args.store.now) c.args.name.now) c.show_output.result (g.S.Store.faults c.args.store.now) (g.S.Store.faults c.show_output.new.store) c.show_output.ensures.cause (g.K.Sink.written c.args.out.now) (g.K.Sink.written c.tell.new.out) (c.tell.ensures.store_failed six)

pub returns-clause-front : goal.returns-clause-front
returns-clause-front g c = λ _.
    fronts (IsShowAnswer c.args.name.now) (FailsShowing (g.S.Store.files c.args.store.now) c.args.name.now) (λ before. some_show_answer before c.args.name.now) (g.S.Store.files c.args.store.now) c.show_output.result c.show_output.ensures.answer (g.S.Store.faults c.args.store.now) (g.S.Store.faults c.show_output.new.store) c.show_output.ensures.cause (g.K.Sink.written c.args.out.now) (g.K.Sink.written c.tell.new.out) c.tell.ensures.front

pub returns-clause-statuses : goal.returns-clause-statuses
returns-clause-statuses g c = ends_in (0 ∷ 5 ∷ 7 ∷ []) c.tell.result (g.K.Sink.written c.args.out.now) (g.K.Sink.written c.tell.new.out) c.show_output.result c.show_output.ensures.ends c.tell.ensures.all
