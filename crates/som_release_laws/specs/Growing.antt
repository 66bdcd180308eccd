-- When a list of classes still has what another has.
use Rattle.std.specs.Prelude.{◌≡◌, ℕ, List, Some, IsSome}
use Rattle.som_model.specs.declared.key.ClassKey.{ClassKey}
use Rattle.som_model.specs.declared.class.Sig.{Sig}
use Rattle.som_model.specs.Ancestors.{Descends}
use Rattle.som_model.specs.Class.{Class}
use Rattle.som_model.specs.Classes.{class_at, hierarchy}
use Rattle.som_model.specs.Owner.{entry_at}
use Rattle.som_model.specs.Compatible.{signature}

-- what is known in the first list is known in the second, descends from what it descended from there, and has the entries that it had, with the same signatures through their owners
pub record Grows (olds news : List Class) : Type 0 where
  pub known : (k : ClassKey) (c : Class) → class_at olds k ≡ Some c → (d : Class) × (class_at news k ≡ Some d)
  pub descends : (x y : ClassKey) → Descends (hierarchy olds) x y → Descends (hierarchy news) x y
  pub entries : (k : ClassKey) (name : List ℕ) → IsSome (entry_at olds k name) → IsSome (entry_at news k name)
  pub signatures : (k : ClassKey) (name : List ℕ) (s : Sig) → signature olds k name ≡ Some s → signature news k name ≡ Some s
