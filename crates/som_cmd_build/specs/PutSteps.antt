-- What the steps answer and leave of a command that compiles something to an image and puts that under a name.
use Rattle.std.specs.Prelude.{◌≡◌, ℕ, List, Option, Some, None, Result, Ok, Err}
use Rattle.std.specs.FinMap.{insert}
use Rattle.som_io.specs.Outside.{Rose}
use Rattle.som_model.specs.Bytes.{AreBytes, Files}
use Rattle.som_cmd_steps.specs.declared.output.Output.{Output}
use Rattle.som_cmd_steps.specs.declared.stop.Refusal.{Refusal}
use Rattle.som_cmd_steps.specs.declared.stop.CommandStop.{CommandStop}
use Rattle.som_cmd_steps.specs.Cause.{IsQuietStop, StopHasCause}
use Rattle.som_cmd_steps.specs.Endings.{refusing}
use Rattle.som_cmd_steps.specs.Lines.{store_failed}
use Rattle.som_cmd_steps.specs.Putting.{PutFails, nothing}
use Rattle.som_cmd_steps.specs.declared.stop.CommandStop.TheVariants as stops
use Rattle.som_cmd_sources.specs.PutAnswer.{Compiling, IsMade, IsPutAnswer}
use Rattle.som_cmd_build.specs.declared.putting.PutEnd.{PutEnd}
use Rattle.som_cmd_build.specs.declared.putting.PutEnd.TheVariants as ends

-- ---- the put

-- it is done, and the image stands under the name; or it failed; or something stopped it before, and the files are as they were
abbrev pub Placed : Files → List ℕ → List ℕ → Result PutEnd CommandStop → Option Files → Type 0
Placed files out image (Ok ends.Done) new = new ≡ Some (insert files out image)
Placed files out image (Ok (ends.Failed put)) new = PutFails files out image new
Placed files out image (Err stop) new = new ≡ Some files

-- what the put leaves in a store, where it tells its files
abbrev pub PlacedTold : Option Files → List ℕ → List ℕ → Result PutEnd CommandStop → Option Files → Type 0
PlacedTold None out image result new = Unit {0}
PlacedTold (Some files) out image result new = Placed files out image result new

-- ---- the command

-- What the command answers and leaves. A put of what was compiled is done; or a put of it failed, and left the old bytes, the image or nothing; and where anything else
-- stopped the command, a get that failed too, the files are as they were.
abbrev pub Puts : {A : Type 0} → Compiling A → Files → List ℕ → Result A Refusal → Result PutEnd CommandStop → Option Files → Type 0
Puts Comes files out got (Ok ends.Done) new = (image : List ℕ) × IsMade Comes got image × AreBytes image × (new ≡ Some (insert files out image))
Puts Comes files out got (Ok (ends.Failed put)) new = (image : List ℕ) × IsMade Comes got image × AreBytes image × PutFails files out image new
Puts Comes files out got (Err (stops.Refused r)) new = IsPutAnswer Comes files out got (refusing files r) × (new ≡ Some files)
Puts Comes files out got (Err (stops.StoreFailed line)) new = new ≡ Some files
Puts Comes files out got (Err stops.NoMemory) new = new ≡ Some files

-- what the command answers and leaves over a store, where it tells its files
abbrev pub PutsTold : {A : Type 0} → Compiling A → Option Files → List ℕ → (Files → Result A Refusal) → Result PutEnd CommandStop → Option Files → Type 0
PutsTold Comes None out got result new = Unit {0}
PutsTold Comes (Some files) out got result new = Puts Comes files out (got files) result new

-- A get is said to have failed only where the store's count rose, and with such a line; a put only where the count rose, and with the line of its name.
abbrev pub EndHasCause : (List ℕ → Type 0) → List ℕ → ℕ → ℕ → Result PutEnd CommandStop → Type 0
EndHasCause is_line out before now (Ok ends.Done) = Unit {0}
EndHasCause is_line out before now (Ok (ends.Failed put)) = Rose before now × (put.line ≡ store_failed out)
EndHasCause is_line out before now (Err stop) = StopHasCause is_line before now stop

-- neither a get nor the put is said to have failed
abbrev pub IsQuietEnd : Result PutEnd CommandStop → Type 0
IsQuietEnd (Ok ends.Done) = Unit {0}
IsQuietEnd (Ok (ends.Failed put)) = ⊥
IsQuietEnd (Err stop) = IsQuietStop stop

-- what is printed: nothing after a put, and else the line that says what failed or what refuses
abbrev pub outcome_of : Result PutEnd CommandStop → Result Output CommandStop
outcome_of (Ok ends.Done) = Ok nothing
outcome_of (Ok (ends.Failed put)) = Err (stops.StoreFailed put.line)
outcome_of (Err stop) = Err stop
