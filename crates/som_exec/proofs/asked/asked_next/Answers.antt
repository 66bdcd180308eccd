use Rattle.std.proofs.Common.{◌≡◌, length, ◌-◌, ◌<◌, arith, refl, ap, ◌∙◌}
use Rattle.som_interp_state.specs.declared.frames.Now.TheVariants as nows
use Rattle.som_exec.proofs.Asking.{call_asked}
use Rattle.som_exec.proofs.Direct.{one_deeper}
use Rattle.som_exec.proofs.asked.asked_next.Goals as goal

pub class_asked-requires : goal.class_asked-requires
class_asked-requires g c =
    let r = c.args.runtime.now in
    call_asked (g.R.Runtime.linked r) (g.R.ClassKeys.known r) (g.R.Runtime.program r) (g.R.Classes.made r) c.args.objects.now c.args.task.now c.args.fuel c.requires c.in-Calling.levels c.in-Calling.call c.in-Calling.is

pub returns-in_ok-class-in-Calling-clause-asked : goal.returns-in_ok-class-in-Calling-clause-asked
returns-in_ok-class-in-Calling-clause-asked g c =
    let r = c.args.runtime.now in
    let known = call_asked (g.R.Runtime.linked r) (g.R.ClassKeys.known r) (g.R.Runtime.program r) (g.R.Classes.made r) c.args.objects.now c.args.task.now c.args.fuel c.requires c.in-Calling.levels c.in-Calling.call c.in-Calling.is in
    let many : c.len.result ≡ length c.in-Calling.call.args.items = omega (arith, c.len.ensures) in
    let some : 0 < c.in-Calling.levels = omega arith in
    record {
      levels = c.in-Calling.levels - 1;
      call = c.in-Calling.call;
      next = c.in-Calling.is ∙ ap (λ n. nows.Calling n c.in-Calling.call) (one_deeper c.in-Calling.levels some);
      method = refl;
      token = known.method;
      count = many;
      class = c.in_ok-class-in-Calling.ensures;
    }
