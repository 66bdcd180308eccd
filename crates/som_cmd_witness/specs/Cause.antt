-- Which texts of `witness` may say that the store failed.
use Rattle.std.specs.Prelude.{◌≡◌, ◌⊎◌, ℕ, List, [], ◌∷◌, ◌++◌, Option, Ok}
use Rattle.som_model.specs.Bytes.{Files}
use Rattle.som_model.specs.Compatible.{CompatBreach}
use Rattle.som_cmd_steps.specs.Getting.{FailsGetting}
use Rattle.som_cmd_steps.specs.Lines.{store_failed}
use Rattle.som_cmd_steps.specs.Steps.{FollowsTold}
use Rattle.som_cmd_witness.specs.declared.releases.Releases.{Releases}
use Rattle.som_cmd_witness.specs.Releases.{releases_in}
use Rattle.som_cmd_witness.specs.WitnessAnswer.{IsShown, text_of}

-- the text shows what the newer of two releases doesn't keep, and then says that the put of the client's image failed; the releases are those under the names, where the files are told
pub record FailsPutting (files : Option Files) (out old new text : List ℕ) : Type 0 where
  pub releases : Releases
  pub under : FollowsTold files (Ok releases) (releases_in old new)
  pub breach : CompatBreach
  pub image : List ℕ
  pub shown : IsShown releases breach image
  pub text_is : text ≡ text_of releases breach ++ store_failed out

-- the text is the line that says that the get of an image failed, or all that is told and then the line that says that the put did
abbrev pub FailsWitness : Option Files → List ℕ → List ℕ → List ℕ → List ℕ → Type 0
FailsWitness files out old new text = FailsGetting files (old ∷ new ∷ []) text ⊎ FailsPutting files out old new text
