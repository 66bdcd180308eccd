-- What a whole run comes to: what main means with its fuel.
use Rattle.std.specs.Prelude.{◌≡◌, ◌≢◌, ◌≤◌, ◌+◌, ◌*◌, ℕ, Bool, true, List, [], length, Option}
use Rattle.std.specs.List.{concat}
use Rattle.som_model.specs.declared.key.ClassKey.{ClassKey}
use Rattle.som_semantics.specs.State as state
use Rattle.som_semantics.specs.State.{State}
use Rattle.som_semantics.specs.Runs.{Ran, Goes, Ends, Faulted, Spent, end_of}
use Rattle.som_semantics.specs.RunText.{call_count, run_lines, run_text, with_prefix}
use Rattle.som_io.specs.Outside.{Rose, ShowsAll, ShowsFront}
use Rattle.som_trace.specs.Places.{running_in}
use Rattle.som_interp_state.specs.Holding.{Holding}
use Rattle.som_interp_loop.specs.Moving.{Keeps, Makes}
use Rattle.som_interp_loop.specs.Scene.{Scene}
use Rattle.som_interp_loop.specs.Counted.{CountsWithin, StopsShort, StopsWith}
use Rattle.som_interp_task.specs.declared.outcome.Outcome.{Outcome}
use Rattle.som_interp_task.specs.declared.outcome.Outcome.TheVariants as outcomes
use Rattle.som_interp_task.specs.Advance.{last_lines, with_granted}
use Rattle.som_interp_task.specs.Stands.{meaning}

-- this holds where the meaning's end is answered; where memory was wanting, or the sink failed, nothing is said
abbrev pub IfRan : Outcome → Type 0 → Type 0
IfRan outcomes.SinkFailed P = Unit {0}
IfRan outcomes.NoMemory P = Unit {0}
IfRan _ P = P

-- the end of a run is what is answered
abbrev pub EndsSo : Ran (Unit {0}) → Outcome → Type 0
EndsSo r outcomes.Done = (s : State) × (r ≡ Goes (tt {0}) s)
EndsSo r (outcomes.SourceFault fault at) = (place : state.Place) × (s : State) × (r ≡ Ends (Faulted fault place) s) × (at ≡ running_in place)
EndsSo r outcomes.Spent = (s : State) × (r ≡ Ends Spent s)
EndsSo r outcomes.SinkFailed = Unit {0}
EndsSo r outcomes.NoMemory = Unit {0}

-- the lines of a run, each after the prefix
abbrev pub text_with : (List ℕ → Bool) → List ℕ → Ran (Unit {0}) → List ℕ
text_with shows prefix r = concat (with_prefix prefix (run_lines shows r))

-- a run by this fuel: it answers the end of main's meaning, and tells its text, or a front of it where memory was wanting or the sink failed; without a prefix that is the text of the definition; it has made as many objects as the meaning, whose k-th is that of its k-th serial, what was used is made, and of all else it keeps what it keeps in every move
pub record RunsSo (old : Scene) (fuel : ℕ) (shows : List ℕ → Bool) (prefix : List ℕ) (before after : Option (List ℕ)) (new : Scene) (outcome : Outcome) : Type 0 where
  pub ended : EndsSo (meaning old fuel) outcome
  pub text : IfRan outcome (ShowsAll before after (text_with shows prefix (meaning old fuel)))
  pub plain : prefix ≡ [] → IfRan outcome (ShowsAll before after (run_text shows (meaning old fuel)))
  pub front : ShowsFront before after (text_with shows prefix (meaning old fuel))
  pub objects : IfRan outcome (length new.task.serials ≡ length (end_of (meaning old fuel)).heap.objects)
  pub holding : IfRan outcome (Holding new.linked new.made new.task.serials new.objects new.task.statics.items (end_of (meaning old fuel)).heap)
  pub makes : IfRan outcome (Makes old.known.classes old.made new.made (end_of (meaning old fuel)).events)
  pub keeps_made : (k : ClassKey) → old.made k ≡ true → new.made k ≡ true
  pub keeps : Keeps (with_granted old fuel) new

-- where main is over, as much fuel is left as its meaning leaves
abbrev pub LeavesFuel : Ran (Unit {0}) → ℕ → Outcome → Type 0
LeavesFuel r left outcomes.Done = left ≡ (end_of r).fuel
LeavesFuel r left _ = Unit {0}

-- on this premise two steps are counted for each call event of a run, and two more: where its end is answered, all have come; where the sink failed or memory was wanting, some came, whose lines were told, and they alone are counted
abbrev pub CountsRun : Type 0 → Ran (Unit {0}) → (List ℕ → Bool) → List ℕ → Option (List ℕ) → Option (List ℕ) → ℕ → ℕ → Outcome → Type 0
CountsRun premise r shows prefix before after counted now outcomes.SinkFailed = StopsShort shows prefix before after (end_of r).events (last_lines r) premise counted now
CountsRun premise r shows prefix before after counted now outcomes.NoMemory = StopsShort shows prefix before after (end_of r).events (last_lines r) premise counted now
CountsRun premise r shows prefix before after counted now _ = premise → now ≤ counted + 2 * call_count (end_of r).events + 2

-- on this premise on n no more steps are counted than may be for the events of a run, where a search asks n classes at most, and for one body and two searches more; where the sink failed or memory was wanting, some of the events came, whose lines were told, and so it is of them alone
abbrev pub CountsRunSearches : (ℕ → Type 0) → Ran (Unit {0}) → (List ℕ → Bool) → List ℕ → Option (List ℕ) → Option (List ℕ) → ℕ → ℕ → Outcome → Type 0
CountsRunSearches within r shows prefix before after counted now outcomes.SinkFailed = StopsWith shows prefix before after (end_of r).events (last_lines r) (CountsWithin within counted now)
CountsRunSearches within r shows prefix before after counted now outcomes.NoMemory = StopsWith shows prefix before after (end_of r).events (last_lines r) (CountsWithin within counted now)
CountsRunSearches within r shows prefix before after counted now _ = CountsWithin within counted now (end_of r).events

-- the count of the sink's faults never falls, and rose where it failed
pub record Counts (before now : ℕ) (outcome : Outcome) : Type 0 where
  pub later : before ≤ now
  pub cause : outcome ≡ outcomes.SinkFailed → Rose before now

-- a calm sink stays so, and doesn't fail
pub record StaysCalm (calm calm' : Type 0) (before now : ℕ) (outcome : Outcome) : Type 0 where
  pub stays : calm → calm'
  pub count : calm → now ≡ before
  pub fine : calm → outcome ≢ outcomes.SinkFailed
