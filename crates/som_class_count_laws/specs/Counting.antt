-- Classes that are made for a run, none of them twice.
use Rattle.std.specs.Prelude.{◌≡◌, ℕ, List, Some, slice_get}
use Rattle.som_model.specs.declared.key.ClassKey.{ClassKey}
use Rattle.som_model.specs.declared.syntax.Block.{Block}
use Rattle.som_model.specs.Lists.{Mem}
use Rattle.som_model.specs.Class.{Class}
use Rattle.som_model.specs.Made.{IsMade}

-- each of these classes is made for a run of main among the declared ones, and none stands at two places
pub record AreMadeOnce (cs : List Class) (main : Block) (ks : List ClassKey) : Type 0 where
  pub made : (k : ClassKey) → Mem k ks → IsMade cs main k
  pub once : (i j : ℕ) (k : ClassKey) → slice_get ks i ≡ Some k → slice_get ks j ≡ Some k → i ≡ j
