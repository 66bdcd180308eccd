-- The names in scope in a body.
use Rattle.std.specs.Prelude.{ℕ, Bool, List, map, Option}
use Rattle.std.specs.Str.{bytes_eq}
use Rattle.som_model.specs.declared.key.ValueType.{ValueType}
use Rattle.som_model.specs.Lists.{among, place_from}

-- a parameter or local: its name and its type. `Named` of `som_model` is what programs name: classes and methods
pub record Named : Type 0 where
  pub name : List ℕ
  pub kind : ValueType

-- the parameters and locals in scope, parameters first
abbrev pub Names : Type 0
Names = List Named

abbrev pub names_of : Names → List (List ℕ)
names_of scope = map (λ (n : Named). n.name) scope

abbrev pub kinds_of : Names → List ValueType
kinds_of scope = map (λ (n : Named). n.kind) scope

-- whether a name is in scope
abbrev pub in_scope : Names → List ℕ → Bool
in_scope scope name = among name (names_of scope)

-- the place of a name in scope, which is its number
abbrev pub local_of : Names → List ℕ → Option ℕ
local_of scope name = place_from 0 (bytes_eq name) (names_of scope)
