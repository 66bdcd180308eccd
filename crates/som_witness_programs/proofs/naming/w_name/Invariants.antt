use Rattle.std.proofs.Common.{◌≡◌, ◌≤◌, ◌-◌, length}
use Rattle.som_model.specs.declared.program.Interface.{Interface}
use Rattle.som_witness.specs.Program.{class_names, free_from}
use Rattle.som_witness_programs.specs.Lent.{IsOf}
use Rattle.som_witness_programs.proofs.naming.w_name.Given as goal

abbrev pub invariant-loop-number : goal.invariant-loop-number
invariant-loop-number l = record {
  within : l.number ≤ length l.olds.classes.now;
  tried : (i : Interface) → IsOf i l.olds → free_from (class_names i) (length i.classes - l.number) l.number ≡ free_from (class_names i) (length i.classes) 0;
}
