-- What a `Classes` keeps.
use Rattle.std.specs.Prelude.{◌≡◌, ℕ, ◌<◌, List, [], length, Some, slice_get}
use Rattle.som_meta.specs.Numbering.{Numbering, tokens_of}
use Rattle.som_class_methods.specs.declared.owners.Owners.{Owners}
use Rattle.som_class_methods.specs.Tokens.{IsOwners}
use Rattle.som_class_methods.specs.declared.members.Members.{Members}
use Rattle.som_class_methods.specs.Own.{IsMembers}
use Rattle.som_class_table.specs.Loaded.{AreLoaded}

-- of each declared class the tokens of what it introduces
abbrev pub AreIntroduced : Numbering → List (List (ℕ × ℕ)) → Type 0
AreIntroduced k all = (n : ℕ) → n < length k.classes → slice_get all n ≡ Some (tokens_of k n)

-- the classes can be loaded, and all tokens are those of their methods; none is the list of made classes, which introduce nothing
pub record IsClasses (k : Numbering) (owners : Owners) (members : Members) (introduced : List (List (ℕ × ℕ))) (none : List (ℕ × ℕ)) : Type 0 where
  pub loaded : AreLoaded k
  pub owners_are : IsOwners k owners
  pub members_are : IsMembers k members
  pub introduced_are : AreIntroduced k introduced
  pub nothing : none ≡ []
