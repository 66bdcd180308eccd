-- How a call ends that shows an image.
use Rattle.std.specs.Prelude.{◌≡◌, ℕ, List, Option}
use Rattle.std.specs.List.{concat}
use Rattle.som_model.specs.declared.program.Release.{Release}
use Rattle.som_model.specs.declared.program.ClientProgram.{ClientProgram}
use Rattle.som_show.specs.Shown.{client_lines, shown_lines}
use Rattle.som_io.specs.Outside.{ShowsAll}

-- what was written are these lines, and the status is 0
pub record ShowsLines (lines : List (List ℕ)) (status : ℕ) (old new : Option (List ℕ)) : Type 0 where
  pub text : ShowsAll old new (concat lines)
  pub status_is : status ≡ 0

-- what was written shows the release
abbrev pub ShowsRelease : Release → ℕ → Option (List ℕ) → Option (List ℕ) → Type 0
ShowsRelease r status old new = ShowsLines (shown_lines r) status old new

-- what was written shows the client program
abbrev pub ShowsProgram : ClientProgram → ℕ → Option (List ℕ) → Option (List ℕ) → Type 0
ShowsProgram p status old new = ShowsLines (client_lines p) status old new
