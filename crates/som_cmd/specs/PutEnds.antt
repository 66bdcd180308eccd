-- How a call ends that compiles texts, and what each call leaves of the files.
use Rattle.std.specs.Prelude.{◌≡◌, ℕ, List, Option, Some}
use Rattle.som_model.specs.declared.program.Release.{Release}
use Rattle.som_model.specs.declared.program.ClientProgram.{ClientProgram}
use Rattle.som_model.specs.Bytes.{Files}
use Rattle.som_model.specs.Images.{client_image, library_image}
use Rattle.som_cmd_build.specs.LibraryAnswer.{AreCompiled}
use Rattle.som_cmd_build.specs.ClientAnswer.{IsClientCompiled}
use Rattle.som_cmd_build.specs.PutEnds.{HoldsClientTexts, HoldsTexts, LeavesFilesTold}
use Rattle.som_cmd_build.specs.PutEnds as build
use Rattle.som_cmd_witness.specs.WitnessEnds as witness
use Rattle.som_cmd_towers.specs.Ends.{KeepsTowerFiles}
use Rattle.som_cmd.specs.Words.{Asked, Run, Show, Check, Library, Client, Tasks, Witness, Generate, Tower, Bad}

-- the files after a call: no command but `library`, `client`, `witness` and `tower make` changes any
abbrev pub KeepsFiles : Asked → Option Files → ℕ → ℕ → ℕ → Option Files → Option (List ℕ) → Option (List ℕ) → Type 0
KeepsFiles (Run client library fuel shows) files before now status new_files old new = new_files ≡ files
KeepsFiles (Show image) files before now status new_files old new = new_files ≡ files
KeepsFiles (Check images) files before now status new_files old new = new_files ≡ files
KeepsFiles (Tasks library turns clients) files before now status new_files old new = new_files ≡ files
KeepsFiles (Generate count) files before now status new_files old new = new_files ≡ files
KeepsFiles (Tower what) files before now status new_files old new = KeepsTowerFiles what files before now status new_files old new
KeepsFiles Bad files before now status new_files old new = new_files ≡ files
KeepsFiles (Library out names) files before now status new_files old new = LeavesFilesTold (λ told. AreCompiled told names) files out before now status new_files old new
KeepsFiles (Client out library names) files before now status new_files old new = LeavesFilesTold (λ told. IsClientCompiled told library names) files out before now status new_files old new
KeepsFiles (Witness out older newer) files before now status new_files old new = witness.LeavesFilesTold files out older newer before now status new_files old new

-- texts are to be compiled, and the store holds texts that stand for the release
pub record AreTextsOf (asked : Asked) (files : Option Files) (out : List ℕ) (r : Release) : Type 0 where
  pub told : Files
  pub files_are : files ≡ Some told
  pub names : List (List ℕ)
  pub asked_is : asked ≡ Library out names
  pub texts : HoldsTexts told names r

-- a client is to be compiled, and the store holds the image of a release that conforms, and texts that stand for the program against it
pub record AreClientTextsOf (asked : Asked) (files : Option Files) (out : List ℕ) (p : ClientProgram) : Type 0 where
  pub told : Files
  pub files_are : files ≡ Some told
  pub library : List ℕ
  pub names : List (List ℕ)
  pub asked_is : asked ≡ Client out library names
  pub texts : HoldsClientTexts told library names p

-- the store told its files, and the image, which is there and is bytes, stands under the name, no other file is changed, nothing was written, and the status is 0
pub record PutsImage (image_is : Option (List ℕ)) (files : Option Files) (out : List ℕ) (status : ℕ) (new_files : Option Files) (old new : Option (List ℕ)) : Type 0 where
  pub told : Files
  pub files_are : files ≡ Some told
  pub puts : build.PutsImage image_is told out status new_files old new

-- the image of the release is there and stands under the name, and nothing else is changed or written
abbrev pub PutsRelease : Option Files → List ℕ → Release → ℕ → Option Files → Option (List ℕ) → Option (List ℕ) → Type 0
PutsRelease files out r status new_files old new = PutsImage (library_image r) files out status new_files old new

-- the image of the client program is there and stands under the name, and nothing else is changed or written
abbrev pub PutsProgram : Option Files → List ℕ → ClientProgram → ℕ → Option Files → Option (List ℕ) → Option (List ℕ) → Type 0
PutsProgram files out p status new_files old new = PutsImage (client_image p) files out status new_files old new
