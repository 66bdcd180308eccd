-- What asking for a witness prints, answers and leaves: the first step that refuses, or whether the newer release keeps all, and where not, the client that shows it.
use Rattle.std.specs.Prelude.{◌≡◌, ◌≢◌, ℕ, List, ◌∷◌, Option, Some, Result, Ok, Err}
use Rattle.std.specs.FinMap.{insert}
use Rattle.som_model.specs.declared.program.Release.{Release}
use Rattle.som_model.specs.Bytes.{Files}
use Rattle.som_model.specs.Class.{interface_of}
use Rattle.som_model.specs.Compatible.{CompatBreach, Compatible, first_break}
use Rattle.som_model.specs.Images.{client_image}
use Rattle.som_witness.specs.Program.{witness_program}
use Rattle.som_cmd_steps.specs.declared.stop.Refusal.{Refusal}
use Rattle.som_cmd_steps.specs.Endings.{Ending, refusing}
use Rattle.som_cmd_steps.specs.Status.{failing_statuses}
use Rattle.som_cmd_witness.specs.declared.releases.Releases.{Releases}
use Rattle.som_cmd_witness.specs.Lines.{accepted_line, shown_text, version_line}
use Rattle.som_cmd_witness.specs.Releases.{releases_in}

-- what the newer release breaks first of what the older one promised
abbrev pub break_of : Releases → Option CompatBreach
break_of rs = first_break (interface_of rs.older) (interface_of rs.newer)

-- the newer release breaks this first, and not by the version of a class alone; and this is the image of the client that shows it
pub record IsShown (rs : Releases) (b : CompatBreach) (image : List ℕ) : Type 0 where
  pub unkept : break_of rs ≡ Some b
  pub other : b.rule ≢ 2
  pub image_is : client_image (witness_program (interface_of rs.older) (interface_of rs.newer) b) ≡ Some image

-- the text that shows it
abbrev pub text_of : Releases → CompatBreach → List ℕ
text_of rs b = shown_text (interface_of rs.older) (interface_of rs.newer) b

-- nothing but a text is left
abbrev pub telling : Files → List ℕ → Ending
telling files text = record { text = text; status = 0; files = files }

-- a text, and the image under the name
abbrev pub showing : Files → List ℕ → List ℕ → List ℕ → Ending
showing files out text image = record { text = text; status = 0; files = insert files out image }

-- Both images are got, both are read, the rules of both are looked at, and then the newer release is compared with the older one.
pub data IsWitnessAnswer (out old new : List ℕ) (files : Files) : Ending → Type 0 where
  refuses : (r : Refusal) → releases_in old new files ≡ Err r → IsWitnessAnswer out old new files (refusing files r)
  accepts : (rs : Releases) → releases_in old new files ≡ Ok rs → Compatible (interface_of rs.older) (interface_of rs.newer) → IsWitnessAnswer out old new files (telling files accepted_line)
  tells_version : (rs : Releases) (b : CompatBreach) → releases_in old new files ≡ Ok rs → break_of rs ≡ Some b → b.rule ≡ 2 → IsWitnessAnswer out old new files (telling files (version_line b.class))
  shows : (rs : Releases) (b : CompatBreach) (image : List ℕ) → releases_in old new files ≡ Ok rs → IsShown rs b image → IsWitnessAnswer out old new files (showing files out (text_of rs b) image)

-- the statuses of `witness`: it was told, an image is none, one isn't there, or something failed
abbrev pub witness_statuses : List ℕ
witness_statuses = 0 ∷ 5 ∷ 7 ∷ failing_statuses
