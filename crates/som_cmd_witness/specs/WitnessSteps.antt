-- What the steps answer and leave of asking for a witness.
use Rattle.std.specs.Prelude.{◌≡◌, ℕ, List, [], ◌∷◌, Option, Some, None, Result, Ok, Err}
use Rattle.std.specs.FinMap.{insert}
use Rattle.som_io.specs.Outside.{Rose, ShowsAll, ShowsFront}
use Rattle.som_model.specs.declared.program.ClientProgram.{ClientProgram}
use Rattle.som_model.specs.Bytes.{AreBytes, Files}
use Rattle.som_model.specs.Class.{interface_of}
use Rattle.som_model.specs.Conforming.{ProgramOk}
use Rattle.som_model.specs.Images.{client_image}
use Rattle.som_cliimage.specs.Limits.{IsWithinLimits}
use Rattle.som_witness.specs.declared.verdict.Verdict.{Verdict}
use Rattle.som_witness.specs.declared.verdict.Verdict.TheVariants as verdicts
use Rattle.som_witness.specs.Verdicts.{verdict_of}
use Rattle.som_cmd_steps.specs.declared.stop.CommandStop.{CommandStop}
use Rattle.som_cmd_steps.specs.Lines.{or_dash, store_failed}
use Rattle.som_cmd_steps.specs.Putting.{PutFails}
use Rattle.som_cmd_steps.specs.Steps.{FollowsTold}
use Rattle.som_cmd_witness.specs.declared.releases.Releases.{Releases}
use Rattle.som_cmd_witness.specs.declared.told.Told.{Told}
use Rattle.som_cmd_witness.specs.Lines.{accepted_line, breach_line, texts_lines, version_line}
use Rattle.som_cmd_witness.specs.Releases.{releases_in}

-- ---- what is told

-- the lines of a verdict
abbrev pub verdict_lines : Verdict → List (List ℕ)
verdict_lines verdicts.Accepted = accepted_line ∷ []
verdict_lines (verdicts.VersionOnly class) = version_line class ∷ []
verdict_lines (verdicts.Shown rule class name place program texts) = breach_line rule class (or_dash name) place ∷ texts_lines rule texts

-- the client program that a verdict has
abbrev pub program_in : Verdict → Option ClientProgram
program_in verdicts.Accepted = None
program_in (verdicts.VersionOnly class) = None
program_in (verdicts.Shown rule class name place program texts) = Some program

-- what is answered of two releases
abbrev pub verdict_on : Releases → Verdict
verdict_on rs = verdict_of (interface_of rs.older) (interface_of rs.newer)

-- the program, if there is one, conforms, and an image has room for it
abbrev pub MayBePut : Option ClientProgram → Type 0
MayBePut None = Unit {0}
MayBePut (Some p) = ProgramOk p × IsWithinLimits p

-- the image of the program, if there is one
abbrev pub IsImageOf : Option ClientProgram → Option (List ℕ) → Type 0
IsImageOf None image = image ≡ None
IsImageOf (Some p) image = (bytes : List ℕ) × (image ≡ Some bytes) × (client_image p ≡ Some bytes)

-- the lines and the image of a verdict
pub record IsToldOf (v : Verdict) (t : Told) : Type 0 where
  pub lines_are : t.lines ≡ verdict_lines v
  pub image_is : IsImageOf (program_in v) t.image

-- what is told of the releases under the names, or what refuses, where the files are told
abbrev pub TellsOf : Option Files → List ℕ → List ℕ → Result Told CommandStop → Type 0
TellsOf files old new (Ok t) = (rs : Releases) × FollowsTold files (Ok rs) (releases_in old new) × IsToldOf (verdict_on rs) t
TellsOf files old new (Err stop) = FollowsTold {A = Releases} files (Err stop) (releases_in old new)

-- ---- what is printed and put

-- the image stands under the name, where the files are told
abbrev pub Put : Option Files → List ℕ → List ℕ → Option Files → Type 0
Put None out image new_files = Unit {0}
Put (Some files) out image new_files = new_files ≡ Some (insert files out image)

-- the files are as a put of the image may leave them that failed, where they are told
abbrev pub NotPut : Option Files → List ℕ → List ℕ → Option Files → Type 0
NotPut None out image new_files = Unit {0}
NotPut (Some files) out image new_files = PutFails files out image new_files

-- the files are as they were, where they are told
abbrev pub Kept : Option Files → Option Files → Type 0
Kept None new_files = Unit {0}
Kept (Some files) new_files = new_files ≡ Some files

-- How putting an image ends, and what is said of it: it is done, and nothing is; or it failed, and the line that says so is written, or a front of it where the sink
-- failed or memory ran out; or memory ran out before it.
pub data EndsPut (files : Option Files) (out image : List ℕ) (before now sink_before sink_now status : ℕ) (new_files : Option Files) (old new : Option (List ℕ)) : Type 0 where
  done : status ≡ 0 → new ≡ old → Put files out image new_files → EndsPut files out image before now sink_before sink_now status new_files old new
  failed : status ≡ 6 → ShowsAll old new (store_failed out) → Rose before now → NotPut files out image new_files → EndsPut files out image before now sink_before sink_now status new_files old new
  failed_unsaid : status ≡ 8 → Rose sink_before sink_now → ShowsFront old new (store_failed out) → Rose before now → NotPut files out image new_files
      → EndsPut files out image before now sink_before sink_now status new_files old new
  failed_said_in_part : status ≡ 10 → ShowsFront old new (store_failed out) → Rose before now → NotPut files out image new_files → EndsPut files out image before now sink_before sink_now status new_files old new
  no_memory : status ≡ 10 → new ≡ old → Kept files new_files → EndsPut files out image before now sink_before sink_now status new_files old new

-- How a call ends that isn't refused. The text isn't written whole, since the sink failed or memory ran out, and nothing is put; or it is, and there is no image; or the image is put
-- then, with what is said of that.
pub data EndsTold (text : List ℕ) (image : Option (List ℕ)) (files : Option Files) (out : List ℕ) (before now sink_before sink_now status : ℕ) (new_files : Option Files) (old new : Option (List ℕ)) : Type 0 where
  unsaid : status ≡ 8 → Rose sink_before sink_now → ShowsFront old new text → new_files ≡ files → EndsTold text image files out before now sink_before sink_now status new_files old new
  said_in_part : status ≡ 10 → ShowsFront old new text → new_files ≡ files → EndsTold text image files out before now sink_before sink_now status new_files old new
  nothing_put : image ≡ None → status ≡ 0 → ShowsAll old new text → new_files ≡ files → EndsTold text image files out before now sink_before sink_now status new_files old new
  then_put : (bytes : List ℕ) (between : Option (List ℕ)) → image ≡ Some bytes → AreBytes bytes → ShowsAll old between text
      → EndsPut files out bytes before now sink_before sink_now status new_files between new → EndsTold text image files out before now sink_before sink_now status new_files old new
