-- What a `Members` keeps.
use Rattle.std.specs.Prelude.{◌≡◌, ℕ, ◌<◌, List, map, length, Some, slice_get}
use Rattle.som_model.specs.declared.class.ClassDecl.{ClassDecl}
use Rattle.som_model.specs.Class.{Class}
use Rattle.som_meta.specs.Numbering.{Numbering}
use Rattle.som_class_ids.specs.Numbers.{AreFirst}
use Rattle.som_class_methods.specs.declared.tokens.Own.{Own}
use Rattle.som_class_methods.specs.declared.members.Members.{Members}
use Rattle.som_class_methods.specs.Members.{HaveTokens, override_method, select_method}

-- the tokens of one class
pub record IsOwn (k : Numbering) (d : ClassDecl) (own : Own) : Type 0 where
  pub overrides : HaveTokens k (map override_method d.overrides) own.overrides
  pub selects : HaveTokens k (map select_method d.selects) own.selects

-- so it is of each of the first classes
abbrev pub AreOwn : Numbering → List Own → Type 0
AreOwn k all = (n : ℕ) (c : Class) (own : Own) → slice_get k.classes n ≡ Some c → slice_get all n ≡ Some own → IsOwn k c.decl own

-- the tokens are those of all declared classes
pub record IsMembers (k : Numbering) (m : Members) : Type 0 where
  pub first : AreFirst k
  pub own : AreOwn k m.own
  pub each : length m.own ≡ length k.classes

-- there are tokens for the class of this number, as there are for each declared class
abbrev pub IsKept : Members → ℕ → Type 0
IsKept m n = n < length m.own
