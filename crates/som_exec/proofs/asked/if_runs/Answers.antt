use Rattle.std.proofs.Common.{subst}
use Rattle.som_interp_sites.proofs.Sited.{through}
use Rattle.som_interp_state.specs.Named.{IsMadeParent}
use Rattle.som_exec.proofs.Asking.{in_parent}
use Rattle.som_exec.proofs.asked.if_runs.Goals as goal

pub returns-then-can_run : goal.returns-then-can_run
returns-then-can_run g c =
    let r = c.args.runtime.now in
    let l = g.R.Runtime.linked r in
    let made = g.R.Classes.made r in
    let know = c.know.ensures in
    let p = c.args.parent in
    in_parent l made c.args.objects.now c.args.call.now p c.requires.parent (through _ _ _ l _ know.agree know.loads)
    (subst (IsMadeParent l made) c.requires.parent c.requires.asked.parent) c.if-can_run.ensures
