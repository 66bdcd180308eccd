-- What a client image and a library image come to before main runs, step by step; the first step that refuses, refuses for all.
use Rattle.std.specs.Prelude.{ℕ, List, true, false, Option, Some, None, Result, Ok, Err}
use Rattle.som_model.specs.Bytes.{Files}
use Rattle.som_model.specs.Steps.{◌>>=◌}
use Rattle.som_link_check.specs.Pairs.{Obstacle, Breaks, DoesntKeep, obstacle}
use Rattle.som_cmd_steps.specs.declared.stop.Refusal.{Refusal}
use Rattle.som_cmd_steps.specs.Fetching.{file_of}
use Rattle.som_cmd_steps.specs.ImageSteps.{program_in, release_in}
use Rattle.som_cmd_steps.specs.Lines.{broken, not_kept}
use Rattle.som_cmd_link.specs.declared.pair.Pair.{Pair}

-- both images are got, and then both are read, each time the client's first
abbrev pub pair_in : List ℕ → List ℕ → Files → Result Pair Refusal
pair_in client library files = do
  cb ← file_of client files
  lb ← file_of library files
  p ← program_in client cb
  r ← release_in library lb
  Ok (record { program = p; release = r })

-- how it is told what is in the way of linking: a broken rule under the name of the image that breaks it, and under the library's what it doesn't keep
abbrev pub told_as : List ℕ → List ℕ → Obstacle → Refusal
told_as client library (Breaks true b) = broken client b
told_as client library (Breaks false b) = broken library b
told_as client library (DoesntKeep b) = not_kept library b

-- nothing is in the way, or the refusal that tells what is
abbrev pub clear_or : List ℕ → List ℕ → Option Obstacle → Result (Unit {0}) Refusal
clear_or client library None = Ok tt
clear_or client library (Some o) = Err (told_as client library o)

-- a pair in whose way nothing is: the library's rules are looked at, then the client's, and then whether the library keeps all that the client was compiled against
abbrev pub kept_pair : List ℕ → List ℕ → Pair → Result Pair Refusal
kept_pair client library pair = do
  clear ← clear_or client library (obstacle pair.release pair.program)
  Ok pair

-- all steps before main
abbrev pub linked_in : List ℕ → List ℕ → Files → Result Pair Refusal
linked_in client library files = pair_in client library files >>= kept_pair client library
