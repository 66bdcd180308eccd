-- How a call of `witness` ends of images that a store holds, and what it leaves of the files.
use Rattle.std.specs.Prelude.{◌≡◌, ◌≢◌, ◌⊎◌, ℕ, List, Option, Some, None, Ok}
use Rattle.std.specs.FinMap.{insert}
use Rattle.som_io.specs.Outside.{Rose, ShowsAll, ShowsFront}
use Rattle.som_model.specs.declared.program.Release.{Release}
use Rattle.som_model.specs.Bytes.{AreBytes, Files}
use Rattle.som_model.specs.Class.{interface_of}
use Rattle.som_model.specs.Compatible.{CompatBreach, Compatible, first_break}
use Rattle.som_model.specs.Images.{client_image}
use Rattle.som_witness.specs.Program.{witness_program}
use Rattle.som_cmd_steps.specs.Lines.{store_failed}
use Rattle.som_cmd_steps.specs.Putting.{PutFails}
use Rattle.som_cmd_steps.specs.StoredImages.{IsUnder}
use Rattle.som_cmd_witness.specs.declared.releases.Releases.{Releases}
use Rattle.som_cmd_witness.specs.Lines.{accepted_line, shown_text, version_line}
use Rattle.som_cmd_witness.specs.Releases.{releases_in}
use Rattle.som_cmd_witness.specs.WitnessAnswer.{IsShown, break_of, text_of}

-- ---- the files

-- a text was written whole, and after it that a put under the name failed: that line whole, or a front of it where the sink failed or memory ran out
pub record SaysPutFailed (text out : List ℕ) (status : ℕ) (old new : Option (List ℕ)) : Type 0 where
  pub between : Option (List ℕ)
  pub told : ShowsAll old between text
  pub says : ((status ≡ 6) × ShowsAll between new (store_failed out)) ⊎ (((status ≡ 8) ⊎ (status ≡ 10)) × ShowsFront between new (store_failed out))

-- the image that is to be put of the releases under the names is this, after this text
pub record IsPutOf (files : Files) (older newer text image : List ℕ) : Type 0 where
  pub releases : Releases
  pub under : releases_in older newer files ≡ Ok releases
  pub breach : CompatBreach
  pub shown : IsShown releases breach image
  pub text_is : text ≡ text_of releases breach
  pub bytes_are : AreBytes image

-- of the releases under the names nothing is to be put: the newer one keeps all, or but for the version of a class
pub record IsNothingPut (files : Files) (older newer : List ℕ) : Type 0 where
  pub releases : Releases
  pub under : releases_in older newer files ≡ Ok releases
  pub none : (b : CompatBreach) → break_of releases ≡ Some b → b.rule ≡ 2

-- The files after a call, beside what was written. They are as they were, if the status isn't 0 or nothing is to be put. The image stands under the name, if the status is 0, and
-- then all of the text was written. Or they are as a put of the image may leave them that failed; then the store failed in this call, and what was written is the text and that the put failed.
pub data LeavesFiles (files : Files) (out older newer : List ℕ) (before now status : ℕ) (new_files : Option Files) (old new : Option (List ℕ)) : Type 0 where
  as_they_were : status ≢ 0 → new_files ≡ Some files → LeavesFiles files out older newer before now status new_files old new
  nothing_to_put : IsNothingPut files older newer → status ≡ 0 → new_files ≡ Some files → LeavesFiles files out older newer before now status new_files old new
  with_image : (text image : List ℕ) → IsPutOf files older newer text image → status ≡ 0 → ShowsAll old new text → new_files ≡ Some (insert files out image)
      → LeavesFiles files out older newer before now status new_files old new
  put_failed : (text image : List ℕ) → IsPutOf files older newer text image → Rose before now → SaysPutFailed text out status old new → PutFails files out image new_files
      → LeavesFiles files out older newer before now status new_files old new

-- the files after a call over a store, where it told its files
abbrev pub LeavesFilesTold : Option Files → List ℕ → List ℕ → List ℕ → ℕ → ℕ → ℕ → Option Files → Option (List ℕ) → Option (List ℕ) → Type 0
LeavesFilesTold None out older newer before now status new_files old new = Unit {0}
LeavesFilesTold (Some files) out older newer before now status new_files old new = LeavesFiles files out older newer before now status new_files old new

-- ---- images that a store holds

-- the store holds the images of an older and a newer release under their names, and both conform
pub record AreUnder (files : Files) (old new : List ℕ) (o n : Release) : Type 0 where
  pub older : IsUnder files old o
  pub newer : IsUnder files new n

-- this text is all that was written, no file is changed, and the status is 0
pub record TellsOnly (text : List ℕ) (files : Files) (status : ℕ) (new_files : Option Files) (old new : Option (List ℕ)) : Type 0 where
  pub text_is : ShowsAll old new text
  pub files_are : new_files ≡ Some files
  pub status_is : status ≡ 0

-- what was written tells the breach and the texts of the client that shows it, or that it has none; its image, which there is and which is bytes, stands under the name;
-- no other file is changed, and the status is 0
pub record PutsWitness (o n : Release) (b : CompatBreach) (files : Files) (out : List ℕ) (status : ℕ) (new_files : Option Files) (old new : Option (List ℕ)) : Type 0 where
  pub image : List ℕ
  pub spelled : client_image (witness_program (interface_of o) (interface_of n) b) ≡ Some image
  pub bytes_are : AreBytes image
  pub put : new_files ≡ Some (insert files out image)
  pub text_is : ShowsAll old new (shown_text (interface_of o) (interface_of n) b)
  pub status_is : status ≡ 0

-- what is told of two releases: that all is kept; that a class has another version; or the client that shows the breach, whose image is put
pub record TellsWitness (o n : Release) (files : Files) (out : List ℕ) (status : ℕ) (new_files : Option Files) (old new : Option (List ℕ)) : Type 0 where
  pub accepted : Compatible (interface_of o) (interface_of n) → TellsOnly accepted_line files status new_files old new
  pub version : (b : CompatBreach) → first_break (interface_of o) (interface_of n) ≡ Some b → b.rule ≡ 2 → TellsOnly (version_line b.class) files status new_files old new
  pub shown : (b : CompatBreach) → first_break (interface_of o) (interface_of n) ≡ Some b → b.rule ≢ 2 → PutsWitness o n b files out status new_files old new

-- what is told of two releases over a store that told its files
abbrev pub TellsWitnessOf : Option Files → List ℕ → List ℕ → List ℕ → ℕ → Option Files → Option (List ℕ) → Option (List ℕ) → Type 0
TellsWitnessOf None out older newer status new_files old new = Unit {0}
TellsWitnessOf (Some files) out older newer status new_files old new =
    (o n : Release) → AreUnder files older newer o n → TellsWitness o n files out status new_files old new
