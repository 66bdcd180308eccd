-- The one spelling of what an image holds, with numbers and slots, and which values can stand in it.
use Rattle.std.specs.Prelude.{ℕ, List, ◌++◌, codes}
use Rattle.std.specs.List.{flat_map}
use Rattle.std.specs.Int.{w16}
use Rattle.som_image_fields.specs.Spelling.{counted, face}
use Rattle.som_image_fields.specs.SyntaxSpelling.{part}
use Rattle.som_image_classes.specs.ReadClasses.{ranges_of}
use Rattle.som_image_classes.specs.SpelledClasses.{FitsParts, FitsFaces, FitsSection, section, version_with, head}
use Rattle.som_libimage.specs.declared.wire.WireRelease.{WireRelease}

-- the parts, and the selects where there are some
abbrev pub bodies : WireRelease → List ℕ
bodies w = flat_map part w.parts ++ section w.selects

-- the classes after the head
abbrev pub classes : WireRelease → List ℕ
classes w = counted w16 face w.faces ++ bodies w

pub record FitsRelease (w : WireRelease) : Type 0 where
  pub faces : FitsFaces w.faces
  pub parts : FitsParts (ranges_of w.faces) w.faces w.parts
  pub selects : FitsSection (ranges_of w.faces) 4 w.selects

-- `SOML`, version 1 or 2, and the classes
abbrev pub library : WireRelease → List ℕ
library w = head (codes "SOML") (version_with w.selects) ++ classes w
