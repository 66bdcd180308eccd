-- The one spelling of what a client image holds, with numbers and slots, and which programs can stand in one.
use Rattle.std.specs.Prelude.{ℕ, ◌+◌, List, ◌++◌, length, codes}
use Rattle.std.specs.List.{flat_map}
use Rattle.std.specs.Int.{w16}
use Rattle.som_model.specs.declared.limits.TheConstants.{MAX_CLIENT_CLASSES}
use Rattle.som_image_fields.specs.declared.face.WireFace.{WireFace}
use Rattle.som_image_fields.specs.declared.method.Ranges.{Ranges}
use Rattle.som_image_fields.specs.Spelling.{counted, face, FitsMethod}
use Rattle.som_image_fields.specs.declared.syntax.WireBlock.{WireBlock}
use Rattle.som_image_fields.specs.SyntaxSpelling.{part, block}
use Rattle.som_image_fields.specs.Fitting.{levels_left, FitsBlock}
use Rattle.som_image_classes.specs.SpelledClasses.{FitsFaces, FitsFacesAfter, FitsParts, FitsSection, section, version_with, head}
use Rattle.som_cliimage.specs.declared.wire.WireProgram.{WireProgram}
use Rattle.som_cliimage.specs.Reading.{client_ranges}

-- the client's own faces, with numbers of all classes
abbrev pub FitsOwnFaces : List WireFace → List WireFace → Type 0
FitsOwnFaces base fs = FitsFacesAfter (length base + 4) MAX_CLIENT_CLASSES fs

-- a block whose statements have level 1
abbrev pub FitsMain : Ranges → WireBlock → Type 0
FitsMain ranges b = FitsBlock (levels_left 1) ranges.classes (FitsMethod ranges) b

-- the selects where there are some, and main
abbrev pub ending : WireProgram → List ℕ
ending w = section w.selects ++ block w.main

-- the parts of the client's own classes, and what follows them
abbrev pub bodies : WireProgram → List ℕ
bodies w = flat_map part w.parts ++ ending w

-- what follows the head
abbrev pub program : WireProgram → List ℕ
program w = counted w16 face w.base ++ (counted w16 face w.faces ++ bodies w)

pub record FitsProgram (w : WireProgram) : Type 0 where
  pub base : FitsFaces w.base
  pub faces : FitsOwnFaces w.base w.faces
  pub parts : FitsParts (client_ranges w.base w.faces) w.faces w.parts
  pub selects : FitsSection (client_ranges w.base w.faces) (length w.base + 4) w.selects
  pub main : FitsMain (client_ranges w.base w.faces) w.main

-- `SOMC`, version 1 or 2, and the program
abbrev pub client : WireProgram → List ℕ
client w = head (codes "SOMC") (version_with w.selects) ++ program w
