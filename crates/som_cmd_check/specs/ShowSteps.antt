-- What the steps of showing an image answer.
use Rattle.std.specs.Prelude.{ℕ, if◌then◌else◌, List, Result, Ok}
use Rattle.som_model.specs.Steps.{◌>>=◌}
use Rattle.som_show.specs.Shown.{client_lines, shown_lines}
use Rattle.som_cmd_steps.specs.declared.stop.Refusal.{Refusal}
use Rattle.som_cmd_steps.specs.ImageSteps.{sound_program, sound_release}
use Rattle.som_cmd_check.specs.ShowAnswer.{is_client}

-- the lines that show a library image under a name
abbrev pub release_lines : List ℕ → List ℕ → Result (List (List ℕ)) Refusal
release_lines name bytes = sound_release name bytes >>= λ r. Ok (shown_lines r)

-- the lines that show a client image under a name
abbrev pub program_lines : List ℕ → List ℕ → Result (List (List ℕ)) Refusal
program_lines name bytes = sound_program name bytes >>= λ p. Ok (client_lines p)

-- the lines that show an image under a name
abbrev pub lines_shown : List ℕ → List ℕ → Result (List (List ℕ)) Refusal
lines_shown name bytes = if is_client bytes then program_lines name bytes else release_lines name bytes
