-- What checking images prints and answers: the first step of all that refuses, or that each release is accepted.
use Rattle.std.specs.Prelude.{◌≡◌, ℕ, List, [], ◌∷◌, ◌++◌, map, Option, Some, None, Result, Ok, Err, codes}
use Rattle.som_model.specs.declared.program.Release.{Release}
use Rattle.som_model.specs.Bytes.{Files}
use Rattle.som_model.specs.Lists.{Mem, first}
use Rattle.som_model.specs.Class.{interface_of}
use Rattle.som_model.specs.Compatible.{CompatBreach, list_breaks}
use Rattle.som_model.specs.Conforming.{ReleaseOk}
use Rattle.som_order.specs.Names.{name_at}
use Rattle.som_cmd_steps.specs.declared.stop.Refusal.{Refusal}
use Rattle.som_cmd_steps.specs.Endings.{Ending, refusing}
use Rattle.som_cmd_steps.specs.EachImage.{each_passes, each_read}
use Rattle.som_cmd_steps.specs.Getting.{images_in}
use Rattle.som_cmd_steps.specs.ImageSteps.{release_in, rules_kept}
use Rattle.som_cmd_steps.specs.Lines.{not_kept}
use Rattle.som_cmd_steps.specs.Status.{failing_statuses}

-- ---- lines

abbrev pub accepted_line : List ℕ
accepted_line = codes "accepted" ++ 10 ∷ []

-- ---- steps

-- the release of each image, under its name
abbrev pub releases_in : List (List ℕ) → List (List ℕ) → Result (List Release) Refusal
releases_in names images = each_read release_in names images

-- each release breaks no rule
abbrev pub all_rules_kept : List (List ℕ) → List Release → Result (Unit {0}) Refusal
all_rules_kept names rs = each_passes rules_kept names rs

abbrev pub AllConform : List Release → Type 0
AllConform rs = (r : Release) → Mem r rs → ReleaseOk r

-- the first thing that a release doesn't keep of the one before it, with the number of the newer one
abbrev pub first_not_kept : List Release → Option (ℕ × CompatBreach)
first_not_kept rs = first (list_breaks 1 (map interface_of rs))

-- the statuses of `check`: all are accepted, something isn't kept, one is no image, one isn't there, or something failed
abbrev pub check_statuses : List ℕ
check_statuses = 0 ∷ 4 ∷ 5 ∷ 7 ∷ failing_statuses

-- ---- endings

abbrev pub accepting : Files → Ending
accepting files = record { text = accepted_line; status = 0; files = files }

-- All images are got, all are read, the rules of all are looked at, and then each is compared with the one before it.
pub data IsCheckAnswer (names : List (List ℕ)) (files : Files) : Ending → Type 0 where
  image_absent : (r : Refusal) → images_in names files ≡ Err r → IsCheckAnswer names files (refusing files r)
  image_unread : (images : List (List ℕ)) (r : Refusal) → images_in names files ≡ Ok images → releases_in names images ≡ Err r → IsCheckAnswer names files (refusing files r)
  image_broken : (images : List (List ℕ)) (rs : List Release) (r : Refusal) → images_in names files ≡ Ok images → releases_in names images ≡ Ok rs → all_rules_kept names rs ≡ Err r
      → IsCheckAnswer names files (refusing files r)
  refuses : (images : List (List ℕ)) (rs : List Release) (number : ℕ) (b : CompatBreach) → images_in names files ≡ Ok images → releases_in names images ≡ Ok rs → AllConform rs
      → first_not_kept rs ≡ Some (number, b) → IsCheckAnswer names files (refusing files (not_kept (name_at names number) b))
  accepts : (images : List (List ℕ)) (rs : List Release) → images_in names files ≡ Ok images → releases_in names images ≡ Ok rs → AllConform rs → first_not_kept rs ≡ None
      → IsCheckAnswer names files (accepting files)
