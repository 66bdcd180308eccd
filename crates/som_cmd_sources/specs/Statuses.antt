-- The statuses of the commands that compile texts.
use Rattle.std.specs.Prelude.{ℕ, List, ◌∷◌}
use Rattle.som_cmd_steps.specs.Status.{failing_statuses}

-- the statuses of `library`: the image was put, the texts can't be read or break a rule, one isn't there, they pass a limit, or something failed
abbrev pub library_statuses : List ℕ
library_statuses = 0 ∷ 3 ∷ 7 ∷ 11 ∷ failing_statuses

-- the statuses of `client`: those of `library`, and that the library is no image
abbrev pub client_statuses : List ℕ
client_statuses = 5 ∷ library_statuses
