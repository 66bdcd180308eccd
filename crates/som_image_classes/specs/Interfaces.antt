-- Faces with names: when no two are alike, and how those of an interface are spelled.
use Rattle.std.specs.Prelude.{◌≡◌, ℕ, List, ◌++◌, map, All}
use Rattle.std.specs.Int.{w16}
use Rattle.som_model.specs.declared.class.ClassFace.{ClassFace}
use Rattle.som_model.specs.declared.limits.TheConstants.{MAX_LIBRARY_CLASSES}
use Rattle.som_model.specs.declared.program.Interface.{Interface}
use Rattle.som_model.specs.Class.{entry_name}
use Rattle.som_model.specs.Kernel.{kernel}
use Rattle.som_model.specs.Classes.{interface_classes}
use Rattle.som_model.specs.Images as images
use Rattle.som_model.specs.Images.{Spelled}
use Rattle.som_image_fields.specs.declared.face.WireFace.{WireFace}
use Rattle.som_image_fields.specs.Spelling as wire
use Rattle.som_image_decode.specs.Naming.{Differ}
use Rattle.som_image_classes.specs.NamedClasses.{interface_named}
use Rattle.som_image_classes.specs.SpelledClasses.{FitsFaces}

-- ---- names

-- no two of the classes have one name, and no two entries of a class
pub record NamesDiffer (faces : List ClassFace) : Type 0 where
  pub classes : Differ (map (λ f. f.name) faces)
  pub entries : All (λ f. Differ (map entry_name f.entries)) faces

-- ---- interfaces

-- the bytes of an interface's faces after their number, as they stand in the image of a client
abbrev pub interface_image : Interface → Spelled
interface_image i = images.counted w16 MAX_LIBRARY_CLASSES (images.face (kernel ++ interface_classes i)) i.classes

-- the faces that an interface is named from
pub record NamedFrom (i : Interface) (bytes : List ℕ) : Type 0 where
  pub faces : List WireFace
  pub spelled : wire.counted w16 wire.face faces ≡ bytes
  pub fits : FitsFaces faces
  pub named : interface_named faces ≡ i
