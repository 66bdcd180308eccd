-- Clients where their mains begin.
use Rattle.std.specs.Prelude.{◌≡◌, ℕ, Bool, true, false, List, [], length, Some, slice_get}
use Rattle.som_model.specs.declared.key.ClassKey.{ClassKey}
use Rattle.som_model.specs.declared.syntax.Block.{Block}
use Rattle.som_semantics.specs.World.{World}
use Rattle.som_turn_laws.specs.Turns.{client_prefix}
use Rattle.som_meta.specs.Numbering.{Numbering}
use Rattle.som_interp_state.specs.Settings.{Linked}
use Rattle.som_interp_task.specs.Stands.{StandsAnywhere}
use Rattle.som_tasks.specs.declared.client.Client.{Client as Held}

module _ {A : Type 0} (world : A → World) (linked : A → Linked) (known : A → Numbering) (main : A → Block) (made : A → ClassKey → Bool) where
  -- a client of this number was just started: nothing is granted, it has no objects, and it stands with every store
  pub record IsStarted (number : ℕ) (kernel : A) (client : Held) : Type 0 where
    pub answers : (linked kernel).world ≡ world kernel
    pub prefix : client.prefix ≡ client_prefix number
    pub live : client.task.live ≡ true
    pub granted : client.task.task.granted ≡ 0
    pub begun : client.task.task.begun ≡ false
    pub serials : client.task.task.serials ≡ []
    pub stands : StandsAnywhere (linked kernel) (known kernel) (main kernel) (made kernel) client.task

  -- so each kernel has a client
  pub record AreStarted (kernels : List A) (clients : List Held) : Type 0 where
    pub count : length clients ≡ length kernels
    pub each : (i : ℕ) (kernel : A) (client : Held) → slice_get kernels i ≡ Some kernel → slice_get clients i ≡ Some client → IsStarted i kernel client
