-- What linking clients with a library answers.
use Rattle.std.specs.Prelude.{◌≡◌, ℕ, List, [], ◌∷◌, Option, Some, None, Result, Ok, Err}
use Rattle.som_model.specs.declared.program.ClientProgram.{ClientProgram}
use Rattle.som_model.specs.declared.program.Release.{Release}
use Rattle.som_model.specs.Bytes.{Files}
use Rattle.som_class_kernel.specs.Linked.{Linkage}
use Rattle.som_cmd_steps.specs.declared.stop.Refusal.{Refusal}
use Rattle.som_cmd_steps.specs.declared.stop.CommandStop.{CommandStop}
use Rattle.som_cmd_steps.specs.Steps.{Stops}
use Rattle.som_cmd_link.specs.Kernels.{IsKernelOf}
use Rattle.som_cmd_tasks.specs.declared.group.Group.{Group}
use Rattle.som_cmd_tasks.specs.Groups.{group_in}

-- for each of these client programs a kernel of it and the release, in their order
abbrev pub AreKernelsOf : Release → List ClientProgram → List Linkage → Type 0
AreKernelsOf r [] [] = Unit {0}
AreKernelsOf r [] (k ∷ ks) = ⊥
AreKernelsOf r (p ∷ ps) [] = ⊥
AreKernelsOf r (p ∷ ps) (k ∷ ks) = IsKernelOf (record { program = p; release = r }) k × AreKernelsOf r ps ks

-- the kernels of the group that the steps come to, or what they refuse, unless the store failed or memory ran out
abbrev pub LinksAll : Result Group Refusal → Result (List Linkage) CommandStop → Type 0
LinksAll steps (Ok ks) = (group : Group) × (steps ≡ Ok group) × AreKernelsOf group.release group.programs ks
LinksAll steps (Err stop) = Stops stop steps

-- the kernels that linking over a store comes to, or what is refused, where the store tells its files
abbrev pub LinksAllTold : Option Files → List ℕ → List (List ℕ) → Result (List Linkage) CommandStop → Type 0
LinksAllTold None library clients result = Unit {0}
LinksAllTold (Some files) library clients result = LinksAll (group_in library clients files) result
