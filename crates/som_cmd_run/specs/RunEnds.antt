-- How a run of images ends that a store holds.
use Rattle.std.specs.Prelude.{◌≡◌, ℕ, Bool, List, Option}
use Rattle.som_model.specs.declared.program.Release.{Release}
use Rattle.som_model.specs.declared.program.ClientProgram.{ClientProgram}
use Rattle.som_model.specs.Bytes.{Files}
use Rattle.som_model.specs.Compatible.{CompatBreach}
use Rattle.som_semantics.specs.Means.{means}
use Rattle.som_semantics.specs.RunText.{run_text, run_status}
use Rattle.som_io.specs.Outside.{ShowsAll}
use Rattle.som_cmd_steps.specs.Lines.{not_kept}
use Rattle.som_cmd_steps.specs.StoredImages.{IsClientUnder, IsUnder}

-- the store holds the image of a client program and that of a release, and both conform
pub record AreUnder (files : Files) (client library : List ℕ) (p : ClientProgram) (r : Release) : Type 0 where
  pub program : IsClientUnder files client p
  pub release : IsUnder files library r

-- what was written is the text of what the client means among the classes of the release, with these calls shown, and the status is that meaning's
pub record RunsAs (p : ClientProgram) (r : Release) (fuel : ℕ) (shows : List ℕ → Bool) (status : ℕ) (old new : Option (List ℕ)) : Type 0 where
  pub text : ShowsAll old new (run_text shows (means r p fuel))
  pub status_is : status ≡ run_status (means r p fuel)

-- what was written tells what the library doesn't keep, and the status is 4
pub record TellsNotKept (library : List ℕ) (b : CompatBreach) (status : ℕ) (old new : Option (List ℕ)) : Type 0 where
  pub text : ShowsAll old new (not_kept library b).line
  pub status_is : status ≡ 4
