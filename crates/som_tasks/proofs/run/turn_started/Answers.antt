use Rattle.std.proofs.Common.{◌≡◌, ◌∙◌, List, [], length, replicate, drop, Result, sym, ap, subst, arith}
use Rattle.std.proofs.lemmas.List.{take_at}
use Rattle.std.proofs.lemmas.Result.{err_from_is_err_and}
use Rattle.som_trace.specs.declared.line.Untold.{Untold}
use Rattle.som_interp_task.specs.declared.advanced.Advanced.{Advanced}
use Rattle.som_interp_task.specs.declared.advanced.Advanced.TheVariants as answers
use Rattle.som_tasks.specs.declared.turned.Turned.TheVariants as turned
use Rattle.som_tasks.specs.Answered.{turned_by}
use Rattle.som_tasks.specs.Stage.{AreAfter}
use Rattle.som_tasks.specs.Taken.{TakesTurns, clients_of}
use Rattle.som_tasks.proofs.Beginning.{all_begin}
use Rattle.som_tasks.proofs.Finishing.{finished, not_begun}
use Rattle.som_tasks.proofs.run.turn_started.Goals as goal

pub returns-in_err-ends-clause-turns : goal.returns-in_err-ends-clause-turns
returns-in_err-ends-clause-turns g c =
    let p = err_from_is_err_and c.from_residual.result c.from_residual.ensures.1 in
    let written = g.K.Sink.written c.args.out.now in
    subst (λ (r : Result (List Advanced) Untold). TakesTurns (clients_of g.R.Classes.world g.R.Runtime.program c.args.kernels.now) (length c.args.kernels.now) c.args.turns.now written written c.args.objects.now c.args.objects.now (turned_by r)) (sym p.1)
    (not_begun (clients_of g.R.Classes.world g.R.Runtime.program c.args.kernels.now) (length c.args.kernels.now) c.args.turns.now written c.args.objects.now p.0)

pub turn_listed-requires-clause-begins : goal.turn_listed-requires-clause-begins
turn_listed-requires-clause-begins g c =
    let going : c.as_mut_slice.result.now ≡ replicate (length c.args.clients.now) answers.Going = c.as_mut_slice.ensures.value ∙ c.in_ok-ends.ensures in
    subst (λ (es : List Advanced). AreAfter g.R.Runtime.linked g.R.ClassKeys.known g.R.Runtime.program g.R.Classes.made (length c.args.objects.now) (clients_of g.R.Classes.world g.R.Runtime.program c.args.kernels.now) [] c.args.objects.now c.args.kernels.now c.args.clients.now es) (sym going)
    (all_begin g.R.Classes.world g.R.Runtime.linked g.R.ClassKeys.known g.R.Runtime.program g.R.Classes.made c.args.kernels.now c.args.clients.now c.args.objects.now c.requires.started)

pub returns-clause-turns : goal.returns-clause-turns
returns-clause-turns g c =
    let held = c.in_ok-ends.ends in
    let told = c.turn_listed.new.ends in
    let long : length told ≡ held.len = omega (arith, c.turn_listed.auto.ends, ap (λ (es : List Advanced). length es) c.as_mut_slice.ensures.value, held.ok.0) in
    let ends : c.from_vec.result ≡ told = c.from_vec.ensures ∙ take_at told (drop (length told) held.items) held.len long in
    subst (λ (es : List Advanced). TakesTurns (clients_of g.R.Classes.world g.R.Runtime.program c.args.kernels.now) (length c.args.kernels.now) c.args.turns.now (g.K.Sink.written c.args.out.now) (g.K.Sink.written c.turn_listed.new.out) c.args.objects.now c.turn_listed.new.objects (turned.Finished es)) (sym ends)
    (finished _ _ _ _ _ _ _ _ _ _ _ _ _ _ _ c.turn_listed.new.ends c.in_ok-turn_listed.ensures.turned)
