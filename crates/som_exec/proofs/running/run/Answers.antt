use Rattle.som_exec.proofs.running.run.Goals as goal

pub returns-clause-steps : goal.returns-clause-steps
returns-clause-steps g c = c.finish-outcome.ensures.steps.steps

pub returns-clause-searches : goal.returns-clause-searches
returns-clause-searches g c = c.finish-outcome.ensures.steps.searches
