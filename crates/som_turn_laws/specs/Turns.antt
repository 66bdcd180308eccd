-- What clients print that take turns, where each turn gives its client one unit.
use Rattle.std.specs.Prelude.{ℕ, zero, suc, ◌==◌, if◌then◌else◌, List, [], ◌∷◌, ◌++◌, map, filter, count_by, drop, length, codes}
use Rattle.std.specs.List.{concat}
use Rattle.std.specs.Fmt.{decimal}
use Rattle.som_semantics.specs.State.{Event}
use Rattle.som_semantics.specs.RunText.{no_trace, fault_line, events_lines, run_lines}
use Rattle.som_turn_laws.specs.Clients.{Client, ClientEnd, Going, Done, AtFault, shown_after, end_after, is_going}

-- clients by number
abbrev pub Clients : Type 0
Clients = ℕ → Client

-- ---- one turn

-- the events that a client's next turn adds after so many turns: those that come after what it has shown
abbrev pub turn_events : Client → ℕ → List Event
turn_events client n = drop (length (shown_after client n)) (shown_after client (suc n))

-- the line of the fault that a client came to
abbrev pub fault_lines : ClientEnd → List (List ℕ)
fault_lines (AtFault f at) = fault_line f at ∷ []
fault_lines _ = []

-- the lines that a client's next turn adds after so many turns: those of the events that it adds, and that of the fault to which it comes
abbrev pub turn_lines : Client → ℕ → List (List ℕ)
turn_lines client n = events_lines no_trace (turn_events client n) ++ (if is_going (end_after client n) then fault_lines (end_after client (suc n)) else [])

-- ---- turns, told by the numbers of the clients that have them

-- a line, with the number of the client whose turn brought it
abbrev pub Tagged : Type 0
Tagged = ℕ × List ℕ

-- lines of client i
abbrev pub tagged : ℕ → List (List ℕ) → List Tagged
tagged i lines = map (λ line. (i, line)) lines

-- how many of the turns are client i's
abbrev pub turns_of : ℕ → List ℕ → ℕ
turns_of i turns = count_by (λ j. j == i) turns

-- the lines of turns in their order, where other turns came before
abbrev pub lines_after : Clients → List ℕ → List ℕ → List Tagged
lines_after clients before [] = []
lines_after clients before (i ∷ turns) = tagged i (turn_lines (clients i) (turns_of i before)) ++ lines_after clients (before ++ i ∷ []) turns

-- the lines of turns
abbrev pub turns_lines : Clients → List ℕ → List Tagged
turns_lines clients turns = lines_after clients [] turns

-- those of the lines that the turns of client i brought
abbrev pub from_client : ℕ → List Tagged → List Tagged
from_client i lines = filter (λ line. line.0 == i) lines

-- the lines that a client prints where it runs alone with so many units, and none where it has none
abbrev pub alone_lines : Client → ℕ → List (List ℕ)
alone_lines client zero = []
alone_lines client (suc n) = run_lines no_trace (client (suc n))

-- ---- text

-- what stands before each line of client i
abbrev pub client_prefix : ℕ → List ℕ
client_prefix i = decimal i ++ codes ": "

-- a line as it is shown
abbrev pub line_shown : Tagged → List ℕ
line_shown line = client_prefix line.0 ++ line.1

-- the text of turns: their lines, one after the other
abbrev pub turns_text : Clients → List ℕ → List ℕ
turns_text clients turns = concat (map line_shown (turns_lines clients turns))

-- an end in a word
abbrev pub end_word : ClientEnd → List ℕ
end_word Going = codes "going"
end_word Done = codes "done"
end_word (AtFault f at) = codes "fault"

-- the line that tells the end of client i
abbrev pub client_line : ℕ → ClientEnd → List ℕ
client_line i end = codes "client " ++ decimal i ++ codes " " ++ end_word end ++ 10 ∷ []

-- the lines that tell the ends of so many clients from number i on, after these turns
abbrev pub ends_from : Clients → List ℕ → ℕ → ℕ → List (List ℕ)
ends_from clients turns i zero = []
ends_from clients turns i (suc n) = client_line i (end_after (clients i) (turns_of i turns)) ∷ ends_from clients turns (suc i) n

-- the lines that tell the ends of so many clients after these turns, in order
abbrev pub closing_lines : Clients → List ℕ → ℕ → List (List ℕ)
closing_lines clients turns count = ends_from clients turns 0 count
