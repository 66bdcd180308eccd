use Rattle.som_trace.specs.Filters.{shows_of}
use Rattle.som_tasks.proofs.Keeping.{calms_so, counts_so, goes_on, is_kept}
use Rattle.som_tasks.proofs.one_turn.go_on.Goals as goal

pub returns-clause-goes : goal.returns-clause-goes
returns-clause-goes g c = goes_on _ _ _ _ _ _ c.advance-answer.result _ c.keep_end.result (shows_of c.args.trace.now) c.requires.unseen c.advance-answer.ensures.comes c.advance-answer.ensures.live c.keep_end.ensures

pub returns-clause-kept : goal.returns-clause-kept
returns-clause-kept g c =
    let keeps = c.advance-answer.ensures.comes.keeps in
    is_kept _ _ _ _ _ _ _ c.know.ensures.agree c.know-2.ensures.agree keeps.classes keeps.linked keeps.main

pub returns-clause-counts : goal.returns-clause-counts
returns-clause-counts g c = counts_so c.advance-answer.result c.keep_end.new.end c.keep_end.result _ _ c.keep_end.ensures c.advance-answer.ensures.counts

pub returns-clause-calms : goal.returns-clause-calms
returns-clause-calms g c = calms_so c.advance-answer.result c.keep_end.new.end c.keep_end.result _ _ _ _ c.keep_end.ensures c.advance-answer.ensures.calms
