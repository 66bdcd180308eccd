-- What turns come to that clients take over one store.
use Rattle.std.specs.Prelude.{◌≡◌, ◌≢◌, ◌≤◌, ◌<◌, ◌+◌, ℕ, zero, suc, List, [], length, map, Option, Some, None, slice_get}
use Rattle.som_model.specs.declared.key.ClassKey.{ClassKey}
use Rattle.som_model.specs.declared.syntax.Block.{Block}
use Rattle.som_semantics.specs.World.{World}
use Rattle.som_semantics.specs.State.{Nil}
use Rattle.som_semantics.specs.Runs.{Goes, end_of}
use Rattle.som_semantics.specs.Means.{means_in}
use Rattle.som_turn_laws.specs.Clients.{Client, ClientEnd, Going, Done, AtFault, end_after}
use Rattle.som_turn_laws.specs.Turns.{Clients, turns_of, turns_text}
use Rattle.som_meta.specs.Numbering.{Numbering}
use Rattle.som_objects.specs.Objects.{Objects, live_at}
use Rattle.som_io.specs.Outside.{Rose, ShowsAll, ShowsFront}
use Rattle.som_trace.specs.Places.{running_in}
use Rattle.som_interp_state.specs.Settings.{Linked}
use Rattle.som_interp_task.specs.declared.advanced.Advanced.{Advanced}
use Rattle.som_interp_task.specs.declared.advanced.Advanced.TheVariants as answers
use Rattle.som_tasks.specs.declared.turned.Turned.{Turned}
use Rattle.som_tasks.specs.declared.turned.Turned.TheVariants as turned

-- ---- clients by kernels

-- what stands in the place of a client where no kernel has the number: nothing happens
abbrev pub no_client : Client
no_client units = Goes tt (record { fuel = units; events = []; heap = record { objects = []; statics = λ k c n. Nil } })

module _ {A : Type 0} (world : A → World) (main : A → Block) where
  -- what the main of a kernel means, by units
  abbrev pub client_of : A → Client
  client_of kernel units = means_in (world kernel) (main kernel) units

  abbrev pub client_at : Option A → Client
  client_at None = no_client
  client_at (Some kernel) = client_of kernel

  -- the client of each number is what the main of the kernel at that place means
  abbrev pub clients_of : List A → Clients
  clients_of kernels i = client_at (slice_get kernels i)

-- ---- ends and objects

-- the answer that tells an end
abbrev pub answer_of : ClientEnd → Advanced
answer_of Going = answers.Going
answer_of Done = answers.Done
answer_of (AtFault f at) = answers.SourceFault f (running_in at)

-- how many objects a client has made after so many units: none before its first one
abbrev pub objects_after : Client → ℕ → ℕ
objects_after client zero = 0
objects_after client (suc n) = length (end_of (client (suc n))).heap.objects

module _ (clients : Clients) (turns : List ℕ) where
  -- for each of so many clients its end after its turns
  pub record AreEnds (count : ℕ) (ends : List Advanced) : Type 0 where
    pub all : length ends ≡ count
    pub each : (i : ℕ) → i < count → slice_get ends i ≡ Some (answer_of (end_after (clients i) (turns_of i turns)))

  -- how many objects the first so many clients have made together after their turns
  abbrev pub objects_of : ℕ → ℕ
  objects_of zero = 0
  objects_of (suc n) = objects_of n + objects_after (clients n) (turns_of n turns)

-- ---- what turns come to

-- this holds where all turns were taken
abbrev pub IfFinished : Turned → (List Advanced → Type 0) → Type 0
IfFinished (turned.Finished ends) P = P ends
IfFinished turned.SinkFailed P = Unit {0}
IfFinished turned.NoMemory P = Unit {0}

-- the turns of so many clients: their text is told, or a front of it where memory was wanting or the sink failed; each client has the end that its units bring it to; as many objects were made as all of them make; and objects that were made before stay as they were
pub record TakesTurns (clients : Clients) (count : ℕ) (turns : List ℕ) (before after : Option (List ℕ)) (old new : Objects) (answer : Turned) : Type 0 where
  pub text : IfFinished answer (λ ends. ShowsAll before after (turns_text clients turns))
  pub front : ShowsFront before after (turns_text clients turns)
  pub ends : IfFinished answer (AreEnds clients turns count)
  pub made : IfFinished answer (λ ends. length new ≡ length old + objects_of clients turns count)
  pub older : (n : ℕ) → n ≤ length old → live_at new n ≡ live_at old n

-- each kernel has the hierarchy and the main that it had
pub record AreKept {A : Type 0} (keys : A → List ClassKey) (world : A → World) (known : A → Numbering) (linked : A → Linked) (main : A → Block) (old new : List A) : Type 0 where
  pub same_keys : map keys new ≡ map keys old
  pub same_worlds : map world new ≡ map world old
  pub same_classes : map known new ≡ map known old
  pub same_linked : map linked new ≡ map linked old
  pub same_mains : map main new ≡ map main old

-- the count of the sink's faults never falls, and rose where it failed
pub record Counts (before now : ℕ) (answer : Turned) : Type 0 where
  pub later : before ≤ now
  pub cause : answer ≡ turned.SinkFailed → Rose before now

-- a calm sink stays so, and doesn't fail
pub record StaysCalm (calm calm' : Type 0) (before now : ℕ) (answer : Turned) : Type 0 where
  pub stays : calm → calm'
  pub count : calm → now ≡ before
  pub fine : calm → answer ≢ turned.SinkFailed
