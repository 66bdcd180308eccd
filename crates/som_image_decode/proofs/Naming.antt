-- What naming asks of numbers.
use Rattle.std.proofs.Common.{ℕ, true, false, refl}
use Rattle.som_image_fields.specs.declared.kind.WireType.{WireType}
use Rattle.som_image_fields.specs.declared.kind.WireType.TheVariants as types
use Rattle.som_image_fields.specs.Spelling.{FitsKind}

-- what can be the type of a value can be that of a result
pub as_result : (classes : ℕ) (k : WireType) → FitsKind classes false k → FitsKind classes true k
as_result classes types.Void h = refl
as_result classes types.Long h = tt
as_result classes types.Boolean h = tt
as_result classes types.Str h = tt
as_result classes (types.Class n) h = h
