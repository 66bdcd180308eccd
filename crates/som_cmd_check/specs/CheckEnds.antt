-- How a call ends that checks images.
use Rattle.std.specs.Prelude.{◌≡◌, ℕ, List, [], ◌∷◌, Option}
use Rattle.som_model.specs.declared.program.Release.{Release}
use Rattle.som_model.specs.Bytes.{Files}
use Rattle.som_model.specs.Compatible.{Accepted, CompatBreach}
use Rattle.som_order.specs.Names.{name_at}
use Rattle.som_io.specs.Outside.{ShowsAll}
use Rattle.som_cmd_steps.specs.Lines.{not_kept}
use Rattle.som_cmd_steps.specs.StoredImages.{IsUnder}
use Rattle.som_cmd_check.specs.CheckAnswer.{accepted_line}

-- the store holds the image of each of these releases under its name
abbrev pub AreUnder : Files → List (List ℕ) → List Release → Type 0
AreUnder files [] [] = Unit {0}
AreUnder files [] (r ∷ rs) = ⊥
AreUnder files (n ∷ ns) [] = ⊥
AreUnder files (n ∷ ns) (r ∷ rs) = IsUnder files n r × AreUnder files ns rs

-- the releases are accepted exactly where the status is 0, and then what was written says so
pub record TellsAccepted (rs : List Release) (status : ℕ) (old new : Option (List ℕ)) : Type 0 where
  pub status_is : Accepted rs → status ≡ 0
  pub text : Accepted rs → ShowsAll old new accepted_line
  pub only : status ≡ 0 → Accepted rs

-- what was written tells what a release doesn't keep, under the name of the newer one, and the status is 4
pub record TellsBreach (names : List (List ℕ)) (number : ℕ) (b : CompatBreach) (status : ℕ) (old new : Option (List ℕ)) : Type 0 where
  pub text : ShowsAll old new (not_kept (name_at names number) b).line
  pub status_is : status ≡ 4
