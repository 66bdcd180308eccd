-- Which lines of `library` and `client` may say that the store failed.
use Rattle.std.specs.Prelude.{◌≡◌, ◌⊎◌, ℕ, List, Option, Some, None}
use Rattle.som_model.specs.Bytes.{Files}
use Rattle.som_cmd_steps.specs.Lines.{store_failed}
use Rattle.som_cmd_sources.specs.Getting.{FailsGettingParts, FailsGettingTexts}
use Rattle.som_cmd_build.specs.LibraryAnswer.{AreCompiled}
use Rattle.som_cmd_build.specs.ClientAnswer.{IsClientCompiled}

-- there is an image of this kind, where the files are told
abbrev pub HaveImage : Option Files → (Files → List ℕ → Type 0) → Type 0
HaveImage None IsImage = Unit {0}
HaveImage (Some files) IsImage = (image : List ℕ) × IsImage files image

-- of `library`: the get of a text failed, or the put of what the texts are compiled to
abbrev pub FailsLibrary : Option Files → List ℕ → List (List ℕ) → List ℕ → Type 0
FailsLibrary files out names line = FailsGettingTexts files names line ⊎ ((line ≡ store_failed out) × HaveImage files (λ told. AreCompiled told names))

-- of `client`: the get of the library or of a text failed, or the put of what the texts are compiled to against it
abbrev pub FailsClient : Option Files → List ℕ → List ℕ → List (List ℕ) → List ℕ → Type 0
FailsClient files out library names line =
    FailsGettingParts files library names line ⊎ ((line ≡ store_failed out) × HaveImage files (λ told. IsClientCompiled told library names))
