-- What compiling a library prints, answers and leaves: the first step that refuses, or the image under a name.
use Rattle.std.specs.Prelude.{ℕ, List}
use Rattle.som_model.specs.Bytes.{Files}
use Rattle.som_compile.specs.Compiling.{Compiles}
use Rattle.som_cmd_steps.specs.Endings.{Ending}
use Rattle.som_cmd_sources.specs.Texts.{texts_in}
use Rattle.som_cmd_sources.specs.PutAnswer.{IsMade, IsPutAnswer}

-- the texts under these names are compiled to this image
abbrev pub AreCompiled : Files → List (List ℕ) → List ℕ → Type 0
AreCompiled files names image = IsMade Compiles (texts_in names files) image

-- All texts are got, each with a look at the bytes so far; then they are compiled, and the image is put under the name.
abbrev pub IsLibraryAnswer : List ℕ → List (List ℕ) → Files → Ending → Type 0
IsLibraryAnswer out names files e = IsPutAnswer Compiles files out (texts_in names files) e
