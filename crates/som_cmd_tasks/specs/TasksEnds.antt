-- How a call of `tasks` ends of images that a store holds.
use Rattle.std.specs.Prelude.{◌≡◌, ℕ, List, [], ◌∷◌, length, map, Option, Some, slice_get}
use Rattle.som_model.specs.declared.program.Release.{Release}
use Rattle.som_model.specs.declared.program.ClientProgram.{ClientProgram}
use Rattle.som_model.specs.Bytes.{Files}
use Rattle.som_model.specs.Class.{interface_of}
use Rattle.som_model.specs.Compatible.{Compatible}
use Rattle.som_semantics.specs.Means.{means}
use Rattle.som_semantics.specs.RunText.{with_prefix}
use Rattle.som_turn_laws.specs.Clients.{end_after}
use Rattle.som_turn_laws.specs.Turns.{Clients, alone_lines, client_prefix, from_client, line_shown, turns_lines, turns_of}
use Rattle.som_io.specs.Outside.{ShowsAll}
use Rattle.som_cmd_steps.specs.StoredImages.{IsClientUnder, IsUnder}
use Rattle.som_cmd_tasks.specs.Ends.{tasks_text}
use Rattle.som_cmd_tasks.specs.TasksAnswer.{clients_on}

-- the store holds the image of each of these client programs under its name, and each conforms
abbrev pub AreClientsUnder : Files → List (List ℕ) → List ClientProgram → Type 0
AreClientsUnder files [] [] = Unit {0}
AreClientsUnder files [] (p ∷ ps) = ⊥
AreClientsUnder files (n ∷ ns) [] = ⊥
AreClientsUnder files (n ∷ ns) (p ∷ ps) = IsClientUnder files n p × AreClientsUnder files ns ps

-- and that of a release under another name
pub record AreGroupUnder (files : Files) (library : List ℕ) (clients : List (List ℕ)) (r : Release) (ps : List ClientProgram) : Type 0 where
  pub release : IsUnder files library r
  pub programs : AreClientsUnder files clients ps

-- the release keeps all that each of these programs was compiled against
abbrev pub KeepsAll : Release → List ClientProgram → Type 0
KeepsAll r [] = Unit {0}
KeepsAll r (p ∷ ps) = Compatible p.base (interface_of r) × KeepsAll r ps

-- of the lines of these turns those of client i are the lines that `run` prints of the program with as much fuel as it has turns and no trace, none without a turn, each after its prefix; and it has the end that it has alone
pub record PrintsAlone (r : Release) (p : ClientProgram) (clients : Clients) (turns : List ℕ) (i : ℕ) : Type 0 where
  pub lines : map line_shown (from_client i (turns_lines clients turns)) ≡ with_prefix (client_prefix i) (alone_lines (means r p) (turns_of i turns))
  pub end : end_after (clients i) (turns_of i turns) ≡ end_after (means r p) (turns_of i turns)

-- what was written is the text of these turns of the programs on the release, and the line of each end; the status is 0; and each program prints what it prints alone
pub record TellsTurns (r : Release) (ps : List ClientProgram) (turns : List ℕ) (status : ℕ) (old new : Option (List ℕ)) : Type 0 where
  pub text : ShowsAll old new (tasks_text (clients_on r ps) turns (length ps))
  pub status_is : status ≡ 0
  pub alone : (i : ℕ) (p : ClientProgram) → slice_get ps i ≡ Some p → PrintsAlone r p (clients_on r ps) turns i
