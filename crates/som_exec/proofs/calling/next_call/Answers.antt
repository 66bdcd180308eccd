use Rattle.std.proofs.Common.{◌≡◌, true, slice_get, subst, sym}
use Rattle.som_interp_loop.specs.NextInstruction.{is_call}
use Rattle.som_exec.proofs.Giving.{call_there}
use Rattle.som_exec.proofs.calling.next_call.Goals as goal

pub at-requires : goal.at-requires
at-requires c = call_there c.get-code.result.now c.args.body.now.at (subst (λ code. is_call (slice_get code c.args.body.now.at) ≡ true) (sym c.get-code.ensures) c.requires.call)
