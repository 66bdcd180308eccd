use Rattle.std.proofs.Common.{◌≡◌, length, take}
use Rattle.som_cmd_tasks.specs.Kernels.{AreKernelsOf}
use Rattle.som_cmd_tasks.proofs.Laying.{one_kernel_more}
use Rattle.som_cmd_tasks.proofs.linking.link_programs.Given as goal

abbrev pub invariant-loop-program : goal.invariant-loop-program
invariant-loop-program l = record {
  kernels : AreKernelsOf l.release (take l.program-index l.programs) l.kernels;
  long : length l.kernels ≡ l.program-index;
}
