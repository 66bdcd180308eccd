-- The tokens of all entries.
use Rattle.std.specs.Prelude.{◌≡◌, length}
use Rattle.som_meta.specs.Numbering.{Numbering}
use Rattle.som_class_ids.specs.Numbers.{AreFirst}
use Rattle.som_class_methods.specs.declared.owners.Owners.{Owners}
use Rattle.som_class_methods.specs.Owners.{AreOwned}

-- the owners are those of the entries of all declared classes
pub record IsOwners (k : Numbering) (o : Owners) : Type 0 where
  pub first : AreFirst k
  pub owned : AreOwned k o.tokens
  pub each : length o.tokens ≡ length k.classes
