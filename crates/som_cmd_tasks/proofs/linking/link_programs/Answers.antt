use Rattle.std.proofs.Common.{◌≡◌, ◌++◌, ◌∷◌, [], length-append, arith}
use Rattle.som_cmd_tasks.proofs.Laying.{one_kernel_more}
use Rattle.som_cmd_tasks.proofs.linking.link_programs.Goals as goal

pub loop-program-preserved : goal.loop-program-preserved
loop-program-preserved c =
    let pushed : c.push.new.self ≡ c.loop-program.kernels ++ c.in_ok-link_program.field-0 ∷ [] = c.in_ok-push.ensures.ok in
    rw pushed (record {
      kernels = one_kernel_more c.args.release.now c.args.programs.now c.loop-program.kernels c.loop-program.program-index c.program-item.result c.in_ok-link_program.field-0 c.loop-program-test.true c.program-item.is c.loop-program.invariant.kernels
          c.in_ok-link_program.ensures;
      long = let l = length-append c.loop-program.kernels (c.in_ok-link_program.field-0 ∷ []) in omega (arith, l, c.loop-program.invariant.long);
    })
