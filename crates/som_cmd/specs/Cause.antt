-- What a call may have written that ends with the line that the store failed.
use Rattle.std.specs.Prelude.{ℕ, List, ◌∷◌, Option}
use Rattle.som_model.specs.Bytes.{Files}
use Rattle.som_cmd_build.specs.Cause.{FailsClient, FailsLibrary}
use Rattle.som_cmd_check.specs.Cause.{FailsShowing}
use Rattle.som_cmd_steps.specs.Getting.{FailsGetting}
use Rattle.som_cmd_link.specs.Cause.{FailsRunning}
use Rattle.som_cmd_witness.specs.Cause.{FailsWitness}
use Rattle.som_cmd_towers.specs.Ends.{FailsTower}
use Rattle.som_cmd.specs.Words.{Library, Asked, Run, Show, Check, Client, Tasks, Witness, Generate, Tower, Bad}

-- the text is the line that says that the get or put of a name failed which the command gets or puts, and no step before refuses; before that of its put, `witness` has told its lines
abbrev pub FailsOn : Option Files → Asked → List ℕ → Type 0
FailsOn files (Run client library fuel shows) text = FailsRunning files client library text
FailsOn files (Show image) text = FailsShowing files image text
FailsOn files (Check names) text = FailsGetting files names text
FailsOn files (Library out names) text = FailsLibrary files out names text
FailsOn files (Client out library names) text = FailsClient files out library names text
FailsOn files (Tasks library turns clients) text = FailsGetting files (library ∷ clients) text
FailsOn files (Witness out old new) text = FailsWitness files out old new text
FailsOn files (Generate count) text = ⊥
FailsOn files (Tower what) text = FailsTower files what text
FailsOn files Bad text = ⊥
