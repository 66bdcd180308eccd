-- What `tower make` prints, answers and leaves: the first step that refuses, or the image under a name.
use Rattle.std.specs.Prelude.{ℕ, Bool, List}
use Rattle.som_model.specs.Bytes.{Files}
use Rattle.som_model.specs.Lists.{some}
use Rattle.som_sources.specs.Sources.{is_main}
use Rattle.som_level_compile.specs.CompilingLevels.{CompilesLevel}
use Rattle.som_cmd_steps.specs.Endings.{Ending}
use Rattle.som_cmd_sources.specs.PutAnswer.{Compiling, IsMade, IsPutAnswer}
use Rattle.som_cmd_tower_make.specs.declared.parts.TowerParts.{TowerParts}
use Rattle.som_cmd_tower_make.specs.TowerParts.{tower_in}

-- one of these names is that of a main
abbrev pub has_main : List (List ℕ) → Bool
has_main names = some is_main names

-- the texts are compiled against the flat interface of the levels below, to a client or to a library
abbrev pub CompilesTower : Bool → Compiling TowerParts
CompilesTower client parts told = CompilesLevel parts.base.interface parts.base.sizes client parts.texts told

-- what is under these names is compiled to this image: a client where one of the texts is a main, and else a library
abbrev pub IsTowerMade : Files → List (List ℕ) → List (List ℕ) → List ℕ → Type 0
IsTowerMade files below names image = IsMade (CompilesTower (has_main names)) (tower_in below names files) image

-- The images and the texts are got, the levels of the images are read and looked at, the texts are compiled against their flat interface, and the image is put under the name.
abbrev pub IsTowerMakeAnswer : List ℕ → List (List ℕ) → List (List ℕ) → Files → Ending → Type 0
IsTowerMakeAnswer out below names files e = IsPutAnswer (CompilesTower (has_main names)) files out (tower_in below names files) e
