-- Which release a library image spells, and which is read from it.
use Rattle.std.specs.Prelude.{◌≡◌, ℕ, List, Result, Ok}
use Rattle.som_model.specs.declared.program.Release.{Release}
use Rattle.som_model.specs.Steps.{◌>>=◌}
use Rattle.som_image_fields.specs.declared.fault.ImageFault.{ImageFault}
use Rattle.som_libimage.specs.declared.wire.WireRelease.{WireRelease}
use Rattle.som_libimage.specs.Reading.{wire_at}
use Rattle.som_libimage.specs.Naming.{release_named}
use Rattle.som_libimage.specs.Spelling.{FitsRelease, library}

-- the bytes are, field by field, those of numbers and slots that fit, and these stand for the release
pub record SpellsLibrary (r : Release) (bytes : List ℕ) : Type 0 where
  pub wire : WireRelease
  pub spelled : library wire ≡ bytes
  pub fits : FitsRelease wire
  pub names : release_named wire ≡ r

-- what the bytes are read as, with names in the place of numbers
abbrev pub library_at : List ℕ → Result Release ImageFault
library_at bytes = wire_at bytes >>= λ w. Ok (release_named w)
