-- What showing an image prints and answers: the first step that refuses, or the lines that show it.
use Rattle.std.specs.Prelude.{ℕ, ◌==◌, Bool, false, List, ◌∷◌, Some, None, Ok, Err, ◌≡◌, true}
use Rattle.std.specs.FinMap.{get}
use Rattle.std.specs.List.{concat}
use Rattle.som_model.specs.declared.program.Release.{Release}
use Rattle.som_model.specs.declared.program.ClientProgram.{ClientProgram}
use Rattle.som_model.specs.Bytes.{Files}
use Rattle.som_model.specs.Rules.{RuleBreach}
use Rattle.som_image_fields.specs.declared.fault.ImageFault.{ImageFault}
use Rattle.som_show.specs.Shown.{client_lines, shown_lines}
use Rattle.som_model.specs.Conforming.{ProgramOk, program_breach, ReleaseOk, release_breach}
use Rattle.som_cmd_steps.specs.Endings.{refusing, Ending}
use Rattle.som_cmd_steps.specs.ImageSteps.{client_in, library_in}
use Rattle.som_cmd_steps.specs.Lines.{unread, absent, broken}
use Rattle.som_cmd_steps.specs.Status.{failing_statuses}

-- what shows a release
abbrev pub showing : Files → Release → Ending
showing files r = record { text = concat (shown_lines r); status = 0; files = files }

-- what shows a client program
abbrev pub showing_client : Files → ClientProgram → Ending
showing_client files p = record { text = concat (client_lines p); status = 0; files = files }

-- the statuses of `show`: it was shown, it is no image, it isn't there, or something failed
abbrev pub show_statuses : List ℕ
show_statuses = 0 ∷ 5 ∷ 7 ∷ failing_statuses

-- whether bytes are read as a client image and not as a library image: the fourth says so
abbrev pub is_client : List ℕ → Bool
is_client (a ∷ b ∷ c ∷ kind ∷ rest) = kind == 67
is_client bytes = false

-- The image is got and read, as its fourth byte says, its rules are looked at, and it is shown.
pub data IsShowAnswer (name : List ℕ) (files : Files) : Ending → Type 0 where
  image_absent : get files name ≡ None → IsShowAnswer name files (refusing files (absent name))
  library_unread : (b : List ℕ) (fault : ImageFault) → get files name ≡ Some b → is_client b ≡ false → library_in b ≡ Err fault → IsShowAnswer name files (refusing files (unread name fault))
  library_broken : (b : List ℕ) (r : Release) (breach : RuleBreach) → get files name ≡ Some b → is_client b ≡ false → library_in b ≡ Ok r → release_breach r ≡ Some breach
      → IsShowAnswer name files (refusing files (broken name breach))
  shows_library : (b : List ℕ) (r : Release) → get files name ≡ Some b → is_client b ≡ false → library_in b ≡ Ok r → ReleaseOk r → IsShowAnswer name files (showing files r)
  client_unread : (b : List ℕ) (fault : ImageFault) → get files name ≡ Some b → is_client b ≡ true → client_in b ≡ Err fault → IsShowAnswer name files (refusing files (unread name fault))
  client_broken : (b : List ℕ) (p : ClientProgram) (breach : RuleBreach) → get files name ≡ Some b → is_client b ≡ true → client_in b ≡ Ok p → program_breach p ≡ Some breach
      → IsShowAnswer name files (refusing files (broken name breach))
  shows_client : (b : List ℕ) (p : ClientProgram) → get files name ≡ Some b → is_client b ≡ true → client_in b ≡ Ok p → ProgramOk p → IsShowAnswer name files (showing_client files p)
