use Rattle.som_interp_loop.specs.Counted.{IsBoundedScene}
use Rattle.som_interp_task.proofs.Whole.{counts_done, counts_fault, counts_short, counts_spent, done_runs, fault_runs, leaves_run, spent_runs, starved_runs, sunk_runs}
use Rattle.som_interp_task.proofs.running.run.Goals as goal

pub returns-in-Going-clause-runs : goal.returns-in-Going-clause-runs
returns-in-Going-clause-runs g c = spent_runs (g.M.Moves.scene c.args.moves.now) c.args.fuel c.requires.granted c.requires.begun _ _ _ _ _ c.in-Going.ensures.comes

pub returns-in-Done-clause-runs : goal.returns-in-Done-clause-runs
returns-in-Done-clause-runs g c = done_runs (g.M.Moves.scene c.args.moves.now) c.args.fuel c.requires.granted c.requires.begun _ _ _ _ _ c.in-Done.ensures.comes

pub returns-in-SourceFault-clause-runs : goal.returns-in-SourceFault-clause-runs
returns-in-SourceFault-clause-runs g c = fault_runs (g.M.Moves.scene c.args.moves.now) c.args.fuel c.requires.granted c.requires.begun _ _ _ _ _ _ _ c.in-SourceFault.ensures.comes

pub returns-in-SinkFailed-clause-runs : goal.returns-in-SinkFailed-clause-runs
returns-in-SinkFailed-clause-runs g c = sunk_runs (g.M.Moves.scene c.args.moves.now) c.args.fuel c.requires.granted c.requires.begun _ _ _ _ _ c.in-SinkFailed.ensures.comes

pub returns-in-NoMemory-clause-runs : goal.returns-in-NoMemory-clause-runs
returns-in-NoMemory-clause-runs g c = starved_runs (g.M.Moves.scene c.args.moves.now) c.args.fuel c.requires.granted c.requires.begun _ _ _ _ _ c.in-NoMemory.ensures.comes

pub returns-in-Going-clause-counted : goal.returns-in-Going-clause-counted
returns-in-Going-clause-counted g c =
    counts_spent (g.M.Moves.scene c.args.moves.now) c.args.fuel c.requires.granted c.requires.begun (IsBoundedScene (g.M.Moves.scene c.advance.new.moves)) (g.M.Moves.shows c.args.moves.now) (g.M.Moves.prefix c.args.moves.now)
    (g.M.Moves.written c.args.moves.now) (g.M.Moves.written c.advance.new.moves) (g.M.Moves.counted c.args.moves.now) (g.M.Moves.counted c.advance.new.moves) c.in-Going.ensures.counted

pub returns-in-Done-clause-counted : goal.returns-in-Done-clause-counted
returns-in-Done-clause-counted g c =
    counts_done (g.M.Moves.scene c.args.moves.now) c.args.fuel c.requires.granted c.requires.begun (IsBoundedScene (g.M.Moves.scene c.advance.new.moves)) (g.M.Moves.shows c.args.moves.now) (g.M.Moves.prefix c.args.moves.now)
    (g.M.Moves.written c.args.moves.now) (g.M.Moves.written c.advance.new.moves) (g.M.Moves.counted c.args.moves.now) (g.M.Moves.counted c.advance.new.moves) c.in-Done.ensures.counted

pub returns-in-SourceFault-clause-counted : goal.returns-in-SourceFault-clause-counted
returns-in-SourceFault-clause-counted g c =
    counts_fault (g.M.Moves.scene c.args.moves.now) c.args.fuel c.requires.granted c.requires.begun (IsBoundedScene (g.M.Moves.scene c.advance.new.moves)) (g.M.Moves.shows c.args.moves.now) (g.M.Moves.prefix c.args.moves.now)
    (g.M.Moves.written c.args.moves.now) (g.M.Moves.written c.advance.new.moves) (g.M.Moves.counted c.args.moves.now) (g.M.Moves.counted c.advance.new.moves) c.in-SourceFault.fault c.in-SourceFault.at c.in-SourceFault.ensures.counted

pub returns-in-SinkFailed-clause-counted : goal.returns-in-SinkFailed-clause-counted
returns-in-SinkFailed-clause-counted g c = counts_short (g.M.Moves.scene c.args.moves.now) c.args.fuel c.requires.granted c.requires.begun _ _ _ _ _ _ _ c.in-SinkFailed.ensures.counted

pub returns-in-NoMemory-clause-counted : goal.returns-in-NoMemory-clause-counted
returns-in-NoMemory-clause-counted g c = counts_short (g.M.Moves.scene c.args.moves.now) c.args.fuel c.requires.granted c.requires.begun _ _ _ _ _ _ _ c.in-NoMemory.ensures.counted

pub returns-in-Done-clause-left : goal.returns-in-Done-clause-left
returns-in-Done-clause-left g c = leaves_run (g.M.Moves.scene c.args.moves.now) c.args.fuel c.requires.granted c.requires.begun (g.M.Moves.scene c.advance.new.moves).fuel c.in-Done.ensures.left
