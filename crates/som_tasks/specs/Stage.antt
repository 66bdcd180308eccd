-- Clients after some turns, with their kernels and the store that they share.
use Rattle.std.specs.Prelude.{◌≡◌, ◌≢◌, ◌≤◌, ◌<◌, ◌+◌, ℕ, zero, suc, Bool, true, false, List, length, Option, Some, slice_get}
use Rattle.std.specs.List.{sum_by}
use Rattle.som_model.specs.declared.key.ClassKey.{ClassKey}
use Rattle.som_model.specs.declared.syntax.Block.{Block}
use Rattle.som_semantics.specs.World.{World}
use Rattle.som_semantics.specs.Means.{means_in}
use Rattle.som_turn_laws.specs.Clients.{Client, end_after, is_going}
use Rattle.som_turn_laws.specs.Turns.{Clients, client_prefix, turns_of, turns_text}
use Rattle.som_meta.specs.Numbering.{Numbering}
use Rattle.som_objects.specs.Objects.{Objects, live_at}
use Rattle.som_io.specs.Outside.{ShowsAll}
use Rattle.som_values.specs.Shown.{IsMade}
use Rattle.som_interp_state.specs.Settings.{Linked}
use Rattle.som_interp_task.specs.declared.advanced.Advanced.{Advanced}
use Rattle.som_interp_task.specs.Stands.{Stands}
use Rattle.som_tasks.specs.declared.client.Client.{Client as Held}
use Rattle.som_tasks.specs.Beside.{AreApart}
use Rattle.som_tasks.specs.Taken.{AreKept, answer_of, objects_after}
use Rattle.som_tasks.specs.Turning.{scene_of}

-- whether a task was ever gone on with, where each time it had one unit
abbrev pub is_begun : ℕ → Bool
is_begun zero = false
is_begun (suc n) = true

-- the serials of a client's objects
abbrev pub serials_of : Held → List ℕ
serials_of c = c.task.task.serials

-- how many objects it made
abbrev pub made_by : Held → ℕ
made_by c = length (serials_of c)

module _ {A : Type 0} (linked : A → Linked) (known : A → Numbering) (main : A → Block) (made : A → ClassKey → Bool) (first : ℕ) where
  -- a client after so many turns of its own: it is live where it goes on, and then all units are granted and it stands; its end is kept; it has made as many objects as its main means, all after the first so many
  pub record IsAfter (client : Client) (number turns : ℕ) (os : Objects) (kernel : A) (held : Held) (end : Advanced) : Type 0 where
    pub means : (units : ℕ) → client units ≡ means_in (linked kernel).world (main kernel) units
    pub prefix : held.prefix ≡ client_prefix number
    pub live : held.task.live ≡ is_going (end_after client turns)
    pub end_is : end ≡ answer_of (end_after client turns)
    pub granted : held.task.live ≡ true → held.task.task.granted ≡ turns
    pub begun : held.task.live ≡ true → held.task.task.begun ≡ is_begun turns
    pub stands : held.task.live ≡ true → Stands (scene_of linked known main made os kernel held.task)
    pub objects : made_by held ≡ objects_after client turns
    pub own : (n : ℕ) → IsMade (serials_of held) n → (first < n) × (n ≤ length os)

  -- so is each client after these turns, no object is of two of them, and together they made all that were made since
  pub record AreAfter (clients : Clients) (turns : List ℕ) (os : Objects) (kernels : List A) (held : List Held) (ends : List Advanced) : Type 0 where
    pub all_held : length held ≡ length kernels
    pub all_ends : length ends ≡ length kernels
    pub each : (i : ℕ) (kernel : A) (client : Held) (end : Advanced) → slice_get kernels i ≡ Some kernel → slice_get held i ≡ Some client → slice_get ends i ≡ Some end → IsAfter (clients i) i (turns_of i turns) os kernel client end
    pub apart : (i j : ℕ) (client other : Held) → i ≢ j → slice_get held i ≡ Some client → slice_get held j ≡ Some other → AreApart (serials_of client) (serials_of other)
    pub count : length os ≡ first + sum_by made_by held

-- these turns were taken since a store and kernels were so: the clients are after them, their text is told, the kernels are kept, and the objects that were made before stay
pub record HaveTurned {A : Type 0} (keys : A → List ClassKey) (world : A → World) (linked : A → Linked) (known : A → Numbering) (main : A → Block) (made : A → ClassKey → Bool) (clients : Clients) (turns : List ℕ) (before after : Option (List ℕ)) (os os' : Objects) (kernels kernels' : List A) (held : List Held) (ends : List Advanced) : Type 0 where
  pub stage : AreAfter linked known main made (length os) clients turns os' kernels' held ends
  pub text : ShowsAll before after (turns_text clients turns)
  pub kept : AreKept keys world known linked main kernels kernels'
  pub older : (n : ℕ) → n ≤ length os → live_at os' n ≡ live_at os n
