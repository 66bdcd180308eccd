-- Classes that are made of others, by what they are made of.
use Rattle.std.specs.Prelude.{◌≡◌, ℕ, ◌≤◌, ◌<◌, nat_eq, List, Option, Some, None}
use Rattle.std.specs.Cmp.Lexicographic.{pointwise}
use Rattle.std.specs.Map.{lookup}
use Rattle.std.specs.HashMap.{spare}
use Rattle.som_class_ids.specs.declared.made_table.MadeTable.{MadeTable}
use Rattle.som_class_ids.specs.declared.position.Kind.{Kind}
use Rattle.som_class_ids.specs.declared.position.Kind.TheVariants as kinds
use Rattle.som_class_ids.specs.declared.position.Position.{Position}
use Rattle.som_class_ids.specs.Positions.{IsMade}

-- the number that is listed for these parents
abbrev pub found : {K : Type 0} → List (K × ℕ) → (K → List ℕ) → List ℕ → Option ℕ
found es items parents = lookup (λ k. pointwise nat_eq parents (items k)) es

-- the number of the class that is made so of these parents
abbrev pub found_made : MadeTable → Kind → List ℕ → Option ℕ
found_made t kinds.Declared parents = None
found_made t kinds.Derived parents = found t.derived.entries (λ k. k.items) parents
found_made t kinds.Proxy parents = found t.proxies.entries (λ k. k.items) parents

-- one more class can be noted
pub record HasRoom (t : MadeTable) : Type 0 where
  pub derived : 0 < spare t.derived
  pub proxies : 0 < spare t.proxies

-- each class from the first number on is found by what it is made of, and no other number is found
pub record AreListed (first : ℕ) (ps : List Position) (t : MadeTable) : Type 0 where
  pub sound : (kind : Kind) (parents : List ℕ) (n : ℕ) → found_made t kind parents ≡ Some n → (first ≤ n) × IsMade ps kind parents n
  pub all : (kind : Kind) (parents : List ℕ) (n : ℕ) → first ≤ n → IsMade ps kind parents n → found_made t kind parents ≡ Some n

-- the table tells what the other tells
abbrev pub TellsSame : MadeTable → MadeTable → Type 0
TellsSame old new = (kind : Kind) (parents : List ℕ) → found_made new kind parents ≡ found_made old kind parents
