-- Tasks that take turns over one linked kernel and one store.
use Rattle.std.specs.Prelude.{◌≡◌, ℕ, Bool, true}
use Rattle.som_model.specs.declared.key.ClassKey.{ClassKey}
use Rattle.som_model.specs.declared.syntax.Block.{Block}
use Rattle.som_meta.specs.Numbering.{Numbering}
use Rattle.som_objects.specs.Objects.{Objects}
use Rattle.som_values.specs.Shown.{IsMade}
use Rattle.som_interp_state.specs.Settings.{Linked}
use Rattle.som_interp_task.specs.declared.task.Task.{Task}
use Rattle.som_interp_task.specs.Stands.{IsStanding}

module _ (l : Linked) (known : Numbering) (main : Block) (made : ClassKey → Bool) (os : Objects) where
  -- where the task is live, it stands
  abbrev pub CanGoOn : Task → Type 0
  CanGoOn t = t.live ≡ true → IsStanding l known main made os t

  -- each of two tasks can be gone on with where it is live, and no object is both's
  pub record AreBeside (t other : Task) : Type 0 where
    pub one : CanGoOn t
    pub other_one : CanGoOn other
    pub apart : t.live ≡ true → other.live ≡ true → (n : ℕ) → IsMade t.task.serials n → IsMade other.task.serials n → ⊥
