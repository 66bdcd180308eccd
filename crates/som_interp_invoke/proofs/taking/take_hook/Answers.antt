use Rattle.std.proofs.Common.{refl}
use Rattle.som_interp_invoke.proofs.Waits.{hook_taken}
use Rattle.som_interp_invoke.proofs.taking.take_hook.Goals as goal

pub returns : goal.returns
returns g c =
    hook_taken (g.R.Runtime.linked c.args.runtime.now) c.args.left c.args.answer c.args.role c.requires.role c.args.rest c.args.waiting.now.items c.push.new.self.items _ refl c.me.ensures c.in_ok-hook_args.ensures
    (record c.args.left { stage = c.args.rest }, record { is = refl; given = refl }, c.in_ok-push.ensures.items)
