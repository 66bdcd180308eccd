-- What linking two images answers.
use Rattle.std.specs.Prelude.{◌≡◌, ℕ, List, Option, Some, None, Result, Ok, Err}
use Rattle.som_model.specs.Bytes.{Files}
use Rattle.som_model.specs.Classes.{classes as all_classes}
use Rattle.som_class_kernel.specs.Linked.{Linkage}
use Rattle.som_cmd_steps.specs.declared.stop.Refusal.{Refusal}
use Rattle.som_cmd_steps.specs.declared.stop.CommandStop.{CommandStop}
use Rattle.som_cmd_steps.specs.Steps.{Stops}
use Rattle.som_cmd_link.specs.declared.pair.Pair.{Pair}
use Rattle.som_cmd_link.specs.Pairs.{linked_in}

-- the kernel has the classes of the release and of the client program, and the program's main
pub record IsKernelOf (pair : Pair) (k : Linkage) : Type 0 where
  pub classes : k.classes.classes ≡ all_classes pair.release pair.program
  pub main : k.main ≡ pair.program.main

-- the kernel of the pair that the steps come to, or what they refuse, unless the store failed or memory ran out
abbrev pub Links : Result Pair Refusal → Result Linkage CommandStop → Type 0
Links steps (Ok k) = (pair : Pair) × (steps ≡ Ok pair) × IsKernelOf pair k
Links steps (Err stop) = Stops stop steps

-- the kernel that linking over a store comes to, or what is refused, where the store tells its files
abbrev pub LinksTold : Option Files → List ℕ → List ℕ → Result Linkage CommandStop → Type 0
LinksTold None client library result = Unit {0}
LinksTold (Some files) client library result = Links (linked_in client library files) result
