-- What a sink is told of a run.
use Rattle.std.specs.Prelude.{ℕ, Bool, List, map}
use Rattle.std.specs.List.{concat}
use Rattle.som_semantics.specs.State.{Event}
use Rattle.som_semantics.specs.Runs.{Cut}
use Rattle.som_semantics.specs.RunText.{event_lines, end_lines, with_prefix}
use denote.Ref.{Bor}

-- the lines of an event, each after the prefix
abbrev pub event_text : (List ℕ → Bool) → List ℕ → Event → List ℕ
event_text shows prefix e = concat (with_prefix prefix (event_lines shows e))

-- the last line of a run that ends so, after the prefix
abbrev pub end_text : List ℕ → Cut → List ℕ
end_text prefix cut = concat (with_prefix prefix (end_lines cut))

-- the bytes of pieces
abbrev pub bytes_of : List (Bor (List ℕ)) → List (List ℕ)
bytes_of pieces = map (λ (piece : Bor (List ℕ)). piece.now) pieces
