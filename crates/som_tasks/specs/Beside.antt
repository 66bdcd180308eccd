-- A task that stands while a task of another kernel goes on over the same store.
use Rattle.std.specs.Prelude.{ℕ, List}
use Rattle.som_objects.specs.Objects.{Objects}
use Rattle.som_values.specs.Shown.{IsMade}
use Rattle.som_interp_loop.specs.Scene.{Scene}
use Rattle.som_interp_task.specs.Stands.{Stands}

-- no object is of both tasks
abbrev pub AreApart : List ℕ → List ℕ → Type 0
AreApart serials others = (n : ℕ) → IsMade serials n → IsMade others n → ⊥

-- the same task with another store
abbrev pub with_store : Scene → Objects → Scene
with_store c objects = record c { objects = objects }

-- with this store it stands as before, and no object of the task that went on is one of its own
pub record StandsBeside (other : Scene) (objects : Objects) (serials : List ℕ) : Type 0 where
  pub stands : Stands (with_store other objects)
  pub apart : AreApart serials other.task.serials
