-- What one turn of a client comes to.
use Rattle.std.specs.Prelude.{◌≡◌, ◌≢◌, ◌≤◌, ◌<◌, ◌+◌, ◌^◌, ℕ, Bool, true, false, List, Option, Result, Ok, Err}
use Rattle.som_model.specs.declared.key.ClassKey.{ClassKey}
use Rattle.som_model.specs.declared.syntax.Block.{Block}
use Rattle.som_semantics.specs.World.{World}
use Rattle.som_semantics.specs.RunText.{no_trace}
use Rattle.som_meta.specs.Numbering.{Numbering}
use Rattle.som_objects.specs.Objects.{Objects}
use Rattle.som_io.specs.Outside.{Rose}
use Rattle.som_trace.specs.declared.line.Untold.{Untold}
use Rattle.som_trace.specs.declared.line.Untold.TheVariants as untold
use Rattle.som_interp_state.specs.Settings.{Linked}
use Rattle.som_interp_loop.specs.Scene.{Scene, scene}
use Rattle.som_interp_task.specs.declared.advanced.Advanced.{Advanced}
use Rattle.som_interp_task.specs.declared.advanced.Advanced.TheVariants as answers
use Rattle.som_interp_task.specs.declared.task.Task.{Task}
use Rattle.som_interp_task.specs.Advance.{Comes}
use Rattle.som_interp_task.specs.Stands.{Stands}
use Rattle.som_exec.specs.Going.{is_going}
use Rattle.som_tasks.specs.declared.client.Client.{Client as Held}

-- an answer is kept as an end, or it is why the turn wasn't told whole
abbrev pub IsKeptEnd : Advanced → Advanced → Result (Unit {0}) Untold → Type 0
IsKeptEnd answers.SinkFailed end result = result ≡ Err untold.SinkFailed
IsKeptEnd answers.NoMemory end result = result ≡ Err untold.NoMemory
IsKeptEnd answer end result = (end ≡ answer) × (result ≡ Ok tt)

-- a live task went on by one unit, without a trace, and its answer is kept
pub record GoesOn (prefix : List ℕ) (before after : Option (List ℕ)) (old new : Scene) (live : Bool) (end : Advanced) (result : Result (Unit {0}) Untold) : Type 0 where
  pub answer : Advanced
  pub comes : Comes old 1 no_trace prefix before after new answer
  pub live_is : live ≡ is_going answer
  pub kept : IsKeptEnd answer end result

-- a task with the store, in the kernel whose main it runs
abbrev pub scene_of : {A : Type 0} → (A → Linked) → (A → Numbering) → (A → Block) → (A → ClassKey → Bool) → Objects → A → Task → Scene
scene_of linked known main made os kernel t = scene (linked kernel) (known kernel) (main kernel) (made kernel) os t.task 0

-- a live client can be gone on with: it stands, and a unit can be granted
pub record CanTurn {A : Type 0} (linked : A → Linked) (known : A → Numbering) (main : A → Block) (made : A → ClassKey → Bool) (os : Objects) (kernel : A) (client : Held) : Type 0 where
  pub stands : client.task.live ≡ true → Stands (scene_of linked known main made os kernel client.task)
  pub units : client.task.live ≡ true → client.task.task.granted + 1 < 2 ^ 32

-- nothing happens in the turn of a client that has ended
pub record Rests {A : Type 0} (before after : Option (List ℕ)) (os os' : Objects) (kernel kernel' : A) (client client' : Held) (end end' : Advanced) (result : Result (Unit {0}) Untold) : Type 0 where
  pub kernel_is : kernel' ≡ kernel
  pub client_is : client' ≡ client
  pub end_is : end' ≡ end
  pub objects : os' ≡ os
  pub written : after ≡ before
  pub result_is : result ≡ Ok tt

-- a kernel has the hierarchy and the main that it had
pub record IsKept {A : Type 0} (keys : A → List ClassKey) (world : A → World) (known : A → Numbering) (linked : A → Linked) (main : A → Block) (old new : A) : Type 0 where
  pub same_keys : keys new ≡ keys old
  pub same_world : world new ≡ world old
  pub same_classes : known new ≡ known old
  pub same_linked : linked new ≡ linked old
  pub same_main : main new ≡ main old

-- a turn: the client goes on by one unit where it is live, and rests where it has ended
pub record Turns {A : Type 0} (linked : A → Linked) (known : A → Numbering) (main : A → Block) (made : A → ClassKey → Bool) (before after : Option (List ℕ)) (os os' : Objects) (kernel kernel' : A) (client client' : Held) (end end' : Advanced) (result : Result (Unit {0}) Untold) : Type 0 where
  pub prefix : client'.prefix ≡ client.prefix
  pub goes : client.task.live ≡ true → GoesOn client.prefix before after (scene_of linked known main made os kernel client.task) (scene_of linked known main made os' kernel' client'.task) client'.task.live end' result
  pub rests : client.task.live ≡ false → Rests before after os os' kernel kernel' client client' end end' result

-- the count of the sink's faults never falls, and rose where it failed
pub record Counts (before now : ℕ) (result : Result (Unit {0}) Untold) : Type 0 where
  pub later : before ≤ now
  pub cause : result ≡ Err untold.SinkFailed → Rose before now

-- a calm sink stays so, and doesn't fail
pub record StaysCalm (calm calm' : Type 0) (before now : ℕ) (result : Result (Unit {0}) Untold) : Type 0 where
  pub stays : calm → calm'
  pub count : calm → now ≡ before
  pub fine : calm → result ≢ Err untold.SinkFailed
