-- The metaclass of each class, by number.
use Rattle.std.specs.Prelude.{◌≡◌, ℕ, ◌<◌, ◌≤◌, List, [], ◌∷◌, length, Option, Some, None, slice_index_or}
use Rattle.som_model.specs.declared.key.ClassKey.{ClassKey}
use Rattle.som_model.specs.Lists.{Mem}
use Rattle.som_model.specs.Class.{Class}
use Rattle.som_model.specs.Classes.{parents_of}
use Rattle.som_model.specs.Made.{ComesOf}
use Rattle.som_model.specs.Metaclass.{meta}
use Rattle.som_meta.specs.declared.plan.MetaPlan.{MetaPlan}
use Rattle.som_meta.specs.declared.plan.MetaPlan.TheVariants as plans
use Rattle.som_meta.specs.Numbering.{IsNumbered, Numbering, key_at}

-- the metaclass that a class declares, where it is a declared class and declares one
abbrev pub metaclass_in : Option Class → Option ClassKey
metaclass_in None = None
metaclass_in (Some c) = c.decl.face.metaclass

-- the classes that are planned: the metaclass itself, or those from which it is to be derived
abbrev pub plan_numbers : MetaPlan → List ℕ
plan_numbers (plans.Existing n) = n ∷ []
plan_numbers (plans.Derive ns) = ns

-- the number of the metaclass of a class
abbrev pub meta_at : List ℕ → ℕ → ℕ
meta_at ms n = slice_index_or ms n 0

-- these are the metaclasses of the classes of the first numbers
pub record HaveMetas (k : Numbering) (ms : List ℕ) : Type 0 where
  pub within : length ms ≤ length k.keys
  pub numbered : (n : ℕ) → n < length ms → IsNumbered k (meta_at ms n)
  pub keys : (n : ℕ) → n < length ms → key_at k (meta_at ms n) ≡ meta k.classes (key_at k n)

-- each parent of the class has a number
abbrev pub HasParents : Numbering → ClassKey → Type 0
HasParents k x = (p : ClassKey) → Mem p (parents_of k.classes x) → Mem p k.keys

-- with each class that has a number its parents and its metaclass have one
pub record AreClosed (k : Numbering) : Type 0 where
  pub parents : (x : ClassKey) → Mem x k.keys → HasParents k x
  pub metaclass : (x : ClassKey) → Mem x k.keys → Mem (meta k.classes x) k.keys

-- these are the metaclasses of all classes that have numbers, so that these are closed
pub record AreMetas (k : Numbering) (ms : List ℕ) : Type 0 where
  pub each : length ms ≡ length k.keys
  pub metas : HaveMetas k ms
  pub closed : AreClosed k

-- the numbers that classes had at the start are there still, others were given to what comes of these alone, and these are the metaclasses of the first ones, whose parents have numbers
pub record IsClosing (start k : Numbering) (ms : List ℕ) : Type 0 where
  pub classes : k.classes ≡ start.classes
  pub metas : HaveMetas k ms
  pub parents : (n : ℕ) → n < length ms → HasParents k (key_at k n)
  pub roots : (key : ClassKey) → Mem key start.keys → Mem key k.keys
  pub made : (key : ClassKey) → Mem key k.keys → ComesOf k.classes start.keys key
