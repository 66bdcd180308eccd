-- How a call ends that compiles texts, and what it leaves of the files.
use Rattle.std.specs.Prelude.{◌≡◌, ◌≢◌, ◌⊎◌, ℕ, List, [], Option, Some, None, Ok}
use Rattle.std.specs.FinMap.{insert}
use Rattle.som_io.specs.Outside.{Rose, ShowsAll, ShowsFront}
use Rattle.som_model.specs.declared.program.Release.{Release}
use Rattle.som_model.specs.declared.program.ClientProgram.{ClientProgram}
use Rattle.som_model.specs.Bytes.{AreBytes, Files}
use Rattle.som_model.specs.Class.{interface_of}
use Rattle.som_sources.specs.declared.source.Source.{Source}
use Rattle.som_compile.specs.Compiling.{StandFor, StandForClient}
use Rattle.som_cmd_steps.specs.Lines.{store_failed}
use Rattle.som_cmd_steps.specs.Putting.{PutFails}
use Rattle.som_cmd_steps.specs.StoredImages.{IsUnder}
use Rattle.som_cmd_sources.specs.Texts.{texts_in}

-- what was written says that a put under the name failed: that line alone, or a front of it where the sink failed or memory ran out
abbrev pub SaysPutFailed : List ℕ → ℕ → Option (List ℕ) → Option (List ℕ) → Type 0
SaysPutFailed out status old new = ((status ≡ 6) × ShowsAll old new (store_failed out)) ⊎ (((status ≡ 8) ⊎ (status ≡ 10)) × ShowsFront old new (store_failed out))

-- The files after compiling to an image, beside what was written: as they were, if the status isn't 0; with the image under the name at
-- status 0; or as a put of the image may leave them that failed, and then the store failed in this call and what was written says that the put did.
pub data LeavesFiles (IsImage : List ℕ → Type 0) (files : Files) (out : List ℕ) (before now : ℕ) (status : ℕ) (new_files : Option Files) (old new : Option (List ℕ)) : Type 0 where
  as_they_were : status ≢ 0 → new_files ≡ Some files → LeavesFiles IsImage files out before now status new_files old new
  with_image : (image : List ℕ) → IsImage image → AreBytes image → status ≡ 0 → new_files ≡ Some (insert files out image) → LeavesFiles IsImage files out before now status new_files old new
  put_failed : (image : List ℕ) → IsImage image → AreBytes image → Rose before now → SaysPutFailed out status old new → PutFails files out image new_files
      → LeavesFiles IsImage files out before now status new_files old new

-- the files after compiling to an image over a store, where it told its files
abbrev pub LeavesFilesTold : (Files → List ℕ → Type 0) → Option Files → List ℕ → ℕ → ℕ → ℕ → Option Files → Option (List ℕ) → Option (List ℕ) → Type 0
LeavesFilesTold IsImage None out before now status new_files old new = Unit {0}
LeavesFilesTold IsImage (Some files) out before now status new_files old new = LeavesFiles (IsImage files) files out before now status new_files old new

-- the store holds texts under these names that stand for the release
pub record HoldsTexts (files : Files) (names : List (List ℕ)) (r : Release) : Type 0 where
  pub texts : List Source
  pub texts_are : texts_in names files ≡ Ok texts
  pub stand : StandFor texts r

-- the store holds the image of a release that conforms, and texts that stand for the client program against it
pub record HoldsClientTexts (files : Files) (library : List ℕ) (names : List (List ℕ)) (p : ClientProgram) : Type 0 where
  pub base : Release
  pub under : IsUnder files library base
  pub texts : List Source
  pub texts_are : texts_in names files ≡ Ok texts
  pub stand : StandForClient (interface_of base) texts p

-- the image, which is there and is bytes, stands under the name, no other file is changed, nothing was written, and the status is 0
pub record PutsImage (image_is : Option (List ℕ)) (files : Files) (out : List ℕ) (status : ℕ) (new_files : Option Files) (old new : Option (List ℕ)) : Type 0 where
  pub image : List ℕ
  pub spelled : image_is ≡ Some image
  pub bytes_are : AreBytes image
  pub put : new_files ≡ Some (insert files out image)
  pub text : ShowsAll old new []
  pub status_is : status ≡ 0
