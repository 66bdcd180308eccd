-- A task that is stopped, and what it has told so far.
use Rattle.std.specs.Prelude.{◌≡◌, ℕ, Bool, if◌then◌else◌, List, [], length}
use Rattle.som_model.specs.declared.key.ClassKey.{ClassKey}
use Rattle.som_model.specs.declared.syntax.Block.{Block}
use Rattle.som_semantics.specs.Means.{means_in}
use Rattle.som_semantics.specs.State.{Event, State}
use Rattle.som_semantics.specs.Runs.{Ran, end_of}
use Rattle.som_machine_laws.specs.Frames.{Frames}
use Rattle.som_meta.specs.Numbering.{Numbering}
use Rattle.som_objects.specs.Objects.{Objects}
use Rattle.som_interp_state.specs.Settings.{Linked}
use Rattle.som_interp_loop.specs.Scene.{Scene, scene}
use Rattle.som_interp_task.specs.declared.task.Task.{Task}
use Rattle.som_interp_loop.specs.Standing.{StandsFor}

-- what main means, with so many units
abbrev pub meaning : Scene → ℕ → Ran (Unit {0})
meaning c = means_in c.linked.world c.main

-- what a task has told: nothing before it is first gone on with, and after that all that its main means with the units granted
abbrev pub told_so_far : Scene → List Event
told_so_far c = if c.task.begun then (end_of (meaning c c.task.granted)).events else []

-- no unit is left, and the task stands for what its main means with the units granted: its next event comes after those that it told, and it has made as many objects
pub record Stands (c : Scene) : Type 0 where
  pub frames : Frames
  pub state : State
  pub stands : StandsFor c (meaning c) c.task.granted frames state
  pub nothing_left : state.fuel ≡ 0
  pub events : state.events ≡ told_so_far c
  pub objects : length c.task.serials ≡ length (end_of (meaning c c.task.granted)).heap.objects

-- so a task stands, among the classes of a linked kernel of which these are made, with this store
abbrev pub IsStanding : Linked → Numbering → Block → (ClassKey → Bool) → Objects → Task → Type 0
IsStanding l known main made os t = Stands (scene l known main made os t.task 0)

-- it does so with every store
abbrev pub StandsAnywhere : Linked → Numbering → Block → (ClassKey → Bool) → Task → Type 0
StandsAnywhere l known main made t = (os : Objects) → IsStanding l known main made os t
