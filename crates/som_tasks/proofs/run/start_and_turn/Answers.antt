use Rattle.std.proofs.Common.{List, length, Result, sym, subst}
use Rattle.std.proofs.lemmas.Result.{err_from_is_err_and}
use Rattle.som_trace.specs.declared.line.Untold.{Untold}
use Rattle.som_trace.specs.declared.line.Untold.TheVariants as untold
use Rattle.som_interp_task.specs.declared.advanced.Advanced.{Advanced}
use Rattle.som_tasks.specs.Answered.{turned_by}
use Rattle.som_tasks.specs.Taken.{TakesTurns, clients_of}
use Rattle.som_tasks.proofs.Finishing.{not_begun}
use Rattle.som_tasks.proofs.run.start_and_turn.Goals as goal

pub returns-in-Err-clause-turns : goal.returns-in-Err-clause-turns
returns-in-Err-clause-turns g c =
    not_begun (clients_of g.R.Classes.world g.R.Runtime.program c.args.kernels.now) (length c.args.kernels.now) c.args.turns.now (g.K.Sink.written c.args.out.now) c.args.objects.now untold.NoMemory

pub returns-in_err-clients-clause-turns : goal.returns-in_err-clients-clause-turns
returns-in_err-clients-clause-turns g c =
    let p = err_from_is_err_and c.from_residual.result c.from_residual.ensures.1 in
    let written = g.K.Sink.written c.args.out.now in
    subst (λ (r : Result (List Advanced) Untold). TakesTurns (clients_of g.R.Classes.world g.R.Runtime.program c.args.kernels.now) (length c.args.kernels.now) c.args.turns.now written written c.args.objects.now c.args.objects.now (turned_by r)) (sym p.1)
    (not_begun (clients_of g.R.Classes.world g.R.Runtime.program c.args.kernels.now) (length c.args.kernels.now) c.args.turns.now written c.args.objects.now p.0)
