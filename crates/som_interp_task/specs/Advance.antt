-- What an advance comes to: what main means with the units granted before and these.
use Rattle.std.specs.Prelude.{◌≡◌, ◌≢◌, ◌≤◌, ◌+◌, ◌*◌, ◌++◌, ℕ, Bool, true, List, [], length, drop, Option}
use Rattle.std.specs.List.{concat}
use Rattle.som_model.specs.declared.key.ClassKey.{ClassKey}
use Rattle.som_model.specs.declared.program.Fault.{Fault}
use Rattle.som_semantics.specs.State as state
use Rattle.som_semantics.specs.State.{Event, State}
use Rattle.som_semantics.specs.Runs.{Ran, Goes, Ends, Faulted, Spent, end_of}
use Rattle.som_semantics.specs.RunText.{call_count, end_lines, events_lines, with_prefix}
use Rattle.som_io.specs.Outside.{Rose, ShowsAll, ShowsFront}
use Rattle.som_trace.specs.Places.{running_in}
use Rattle.som_trace.specs.Told.{end_text}
use Rattle.som_interp_state.specs.Holding.{Holding}
use Rattle.som_interp_loop.specs.Moving.{Keeps, Makes}
use Rattle.som_interp_loop.specs.Scene.{Scene}
use Rattle.som_interp_loop.specs.Counted.{CountsWithin, StopsShort, StopsWith}
use Rattle.som_interp_loop.specs.Standing.{with_units}
use Rattle.som_interp_task.specs.declared.advanced.Advanced.{Advanced}
use Rattle.som_interp_task.specs.declared.advanced.Advanced.TheVariants as answers
use Rattle.som_interp_task.specs.Stands.{Stands, meaning, told_so_far}

-- a scene with a begun task, to which so many units more are granted, which are all that is left
abbrev pub with_granted : Scene → ℕ → Scene
with_granted c units = with_units c (c.task.granted + units) true units

-- this holds where the meaning's end is answered; where memory was wanting, or the sink failed, nothing is said
abbrev pub IfEnded : Advanced → Type 0 → Type 0
IfEnded answers.SinkFailed P = Unit {0}
IfEnded answers.NoMemory P = Unit {0}
IfEnded _ P = P

-- this holds where the task can be gone on with
abbrev pub IfGoing : Advanced → Type 0 → Type 0
IfGoing answers.Going P = P
IfGoing _ P = Unit {0}

-- the last line, where main ends by a fault
abbrev pub last_lines : Ran (Unit {0}) → List (List ℕ)
last_lines (Goes u s) = []
last_lines (Ends cut s) = end_lines cut

module _ (old : Scene) (units : ℕ) where
  -- what main means with the units granted before and these
  abbrev pub goal : Ran (Unit {0})
  goal = meaning old (old.task.granted + units)

  -- its events that weren't told before
  abbrev pub events_now : List Event
  events_now = drop (length (told_so_far old)) (end_of goal).events

  -- the lines of these events and of the fault, each after the prefix
  abbrev pub added_text : (List ℕ → Bool) → List ℕ → List ℕ
  added_text shows prefix = concat (with_prefix prefix (events_lines shows events_now ++ last_lines goal))

  -- the end of main's meaning is what is answered
  abbrev pub Ended : Advanced → Type 0
  Ended answers.Going = (s : State) × (goal ≡ Ends Spent s)
  Ended answers.Done = (s : State) × (goal ≡ Goes (tt {0}) s)
  Ended (answers.SourceFault fault at) = (place : state.Place) × (s : State) × (goal ≡ Ends (Faulted fault place) s) × (at ≡ running_in place)
  Ended answers.SinkFailed = Unit {0}
  Ended answers.NoMemory = Unit {0}

  -- an advance by these units: what was told before comes first of the meaning's events; it answers the meaning's end, tells its lines that weren't told before, and a front of them where memory was wanting or the sink failed; the task stands again where it can be gone on with; it has made as many objects as the meaning, whose k-th is that of its k-th serial, at an end too; the classes that were used are made; and of all else it keeps what it keeps in every move
  pub record Comes (shows : List ℕ → Bool) (prefix : List ℕ) (before after : Option (List ℕ)) (new : Scene) (answer : Advanced) : Type 0 where
    pub events : (end_of goal).events ≡ told_so_far old ++ events_now
    pub ended : Ended answer
    pub text : IfEnded answer (ShowsAll before after (added_text shows prefix))
    pub front : ShowsFront before after (added_text shows prefix)
    pub stands : IfGoing answer (Stands new)
    pub objects : IfEnded answer (length new.task.serials ≡ length (end_of goal).heap.objects)
    pub holding : IfEnded answer (Holding new.linked new.made new.task.serials new.objects new.task.statics.items (end_of goal).heap)
    pub makes : IfEnded answer (Makes old.known.classes old.made new.made events_now)
    pub keeps_made : (k : ClassKey) → old.made k ≡ true → new.made k ≡ true
    pub keeps : Keeps (with_granted old units) new

  -- where main is over, as much fuel is left as the meaning leaves
  abbrev pub LeavesFuel : ℕ → Advanced → Type 0
  LeavesFuel left answers.Done = left ≡ (end_of goal).fuel
  LeavesFuel left _ = Unit {0}

-- on this premise two steps are counted for each call event that comes now, and two more: where the meaning's end is answered, all that it has now come; where the sink failed or memory was wanting, some came, whose lines were told, and they alone are counted
abbrev pub CountsNow : Type 0 → Scene → ℕ → (List ℕ → Bool) → List ℕ → Option (List ℕ) → Option (List ℕ) → ℕ → ℕ → Advanced → Type 0
CountsNow premise old units shows prefix before after counted now answers.SinkFailed = StopsShort shows prefix before after (events_now old units) (last_lines (goal old units)) premise counted now
CountsNow premise old units shows prefix before after counted now answers.NoMemory = StopsShort shows prefix before after (events_now old units) (last_lines (goal old units)) premise counted now
CountsNow premise old units shows prefix before after counted now _ = premise → now ≤ counted + 2 * call_count (events_now old units) + 2

-- on this premise on n no more steps are counted than may be for the events that come now, where a search asks n classes at most, and for one body and two searches more; where the sink failed or memory was wanting, some of the events came, whose lines were told, and so it is of them alone
abbrev pub CountsSearches : (ℕ → Type 0) → Scene → ℕ → (List ℕ → Bool) → List ℕ → Option (List ℕ) → Option (List ℕ) → ℕ → ℕ → Advanced → Type 0
CountsSearches within old units shows prefix before after counted now answers.SinkFailed = StopsWith shows prefix before after (events_now old units) (last_lines (goal old units)) (CountsWithin within counted now)
CountsSearches within old units shows prefix before after counted now answers.NoMemory = StopsWith shows prefix before after (events_now old units) (last_lines (goal old units)) (CountsWithin within counted now)
CountsSearches within old units shows prefix before after counted now _ = CountsWithin within counted now (events_now old units)

-- the line of a fault is told, and its place is named; or a front of it, where memory was wanting or the sink failed
abbrev pub EndsBy : List ℕ → Option (List ℕ) → Option (List ℕ) → Fault → state.Place → Advanced → Type 0
EndsBy prefix before after fault place (answers.SourceFault f at) = (f ≡ fault) × (at ≡ running_in place) × ShowsAll before after (end_text prefix (Faulted fault place))
EndsBy prefix before after fault place answers.Going = ⊥
EndsBy prefix before after fault place answers.Done = ⊥
EndsBy prefix before after fault place _ = ShowsFront before after (end_text prefix (Faulted fault place))

-- the count of the sink's faults never falls, and rose where it failed
pub record Counts (before now : ℕ) (answer : Advanced) : Type 0 where
  pub later : before ≤ now
  pub cause : answer ≡ answers.SinkFailed → Rose before now

-- a calm sink stays so, and doesn't fail
pub record StaysCalm (calm calm' : Type 0) (before now : ℕ) (answer : Advanced) : Type 0 where
  pub stays : calm → calm'
  pub count : calm → now ≡ before
  pub fine : calm → answer ≢ answers.SinkFailed
