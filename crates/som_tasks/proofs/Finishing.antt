-- What turns came to, in the words of the answer.
use Rattle.std.proofs.Common.{◌≡◌, ℕ, ◌+◌, ◌≤◌, Bool, List, length, Option, Some, Result, Ok, Err, refl, ap, ◌∙◌, arith}
use Rattle.std.specs.List.{sum_by}
use Rattle.som_model.specs.declared.key.ClassKey.{ClassKey}
use Rattle.som_model.specs.declared.syntax.Block.{Block}
use Rattle.som_semantics.specs.World.{World}
use Rattle.som_turn_laws.specs.Turns.{Clients, turns_text}
use Rattle.som_meta.specs.Numbering.{Numbering}
use Rattle.som_objects.specs.Objects.{Objects, live_at}
use Rattle.som_io.specs.Outside.{ShowsFront}
use Rattle.som_io.proofs.ShownLaws.{front_all, front_none}
use Rattle.som_trace.specs.declared.line.Untold.{Untold}
use Rattle.som_trace.specs.declared.line.Untold.TheVariants as untold
use Rattle.som_interp_state.specs.Settings.{Linked}
use Rattle.som_interp_task.specs.declared.advanced.Advanced.{Advanced}
use Rattle.som_tasks.specs.declared.client.Client.{Client as Held}
use Rattle.som_tasks.specs.declared.turned.Turned.TheVariants as turned
use Rattle.som_tasks.specs.Answered.{turned_by}
use Rattle.som_tasks.specs.Taken.{Counts, StaysCalm, TakesTurns, objects_of}
use Rattle.som_tasks.specs.Turning.{Counts as TurnCounts, StaysCalm as TurnCalm}
use Rattle.som_tasks.specs.Stage.{HaveTurned, made_by}
use Rattle.som_tasks.proofs.Places.{at_place}
use Rattle.som_tasks.proofs.Joining.{all_made}
use Rattle.som_tasks.proofs.Next.{kept_count}

-- all turns were taken
pub finished : {A : Type 0} (keys : A → List ClassKey) (world : A → World) (linked : A → Linked) (known : A → Numbering) (main : A → Block) (made : A → ClassKey → Bool) (clients : Clients) (turns : List ℕ) (before after : Option (List ℕ)) (os os' : Objects) (kernels kernels' : List A) (helds : List Held) (ends : List Advanced)
    → HaveTurned keys world linked known main made clients turns before after os os' kernels kernels' helds ends → TakesTurns clients (length kernels) turns before after os os' (turned_by (Ok ends))
finished keys world linked known main made clients turns before after os os' kernels kernels' helds ends so =
    let count : length kernels' ≡ length kernels = kept_count keys world known linked main kernels kernels' so.kept in
    let as_helds : length helds ≡ length kernels' = so.stage.all_held in
    let as_ends : length ends ≡ length kernels' = so.stage.all_ends in
    record {
      text = so.text;
      front = front_all before after (turns_text clients turns) so.text;
      ends = record {
        all = as_ends ∙ count;
        each = λ i lt. (
            let k = at_place kernels' i (omega (arith, lt, count)) in
            let h = at_place helds i (omega (arith, lt, count, as_helds)) in
            let e = at_place ends i (omega (arith, lt, count, as_ends)) in
            e.1 ∙ ap (λ (a : Advanced). Some a) (so.stage.each i k.0 h.0 e.0 k.1 h.1 e.1).end_is);
      };
      made = (
          let all : sum_by made_by helds ≡ objects_of clients turns (length kernels) = all_made linked known main made (length os) clients turns os' kernels' helds ends so.stage ∙ ap (objects_of clients turns) count in
          let sum : length os' ≡ length os + sum_by made_by helds = so.stage.count in
          sum ∙ ap (λ n. length os + n) all);
      older = so.older;
    }

-- not all of their text was told
pub unfinished : (clients : Clients) (count : ℕ) (turns : List ℕ) (before after : Option (List ℕ)) (os os' : Objects) (e : Untold) → ShowsFront before after (turns_text clients turns) → ((n : ℕ) → n ≤ length os → live_at os' n ≡ live_at os n)
    → TakesTurns clients count turns before after os os' (turned_by (Err e))
unfinished clients count turns before after os os' untold.SinkFailed front older = record { text = tt; front = front; ends = tt; made = tt; older = older }
unfinished clients count turns before after os os' untold.NoMemory front older = record { text = tt; front = front; ends = tt; made = tt; older = older }

-- nothing was done
pub not_begun : (clients : Clients) (count : ℕ) (turns : List ℕ) (written : Option (List ℕ)) (os : Objects) (e : Untold) → TakesTurns clients count turns written written os os (turned_by (Err e))
not_begun clients count turns written os e = unfinished clients count turns written written os os e (front_none written (turns_text clients turns)) (λ n le. refl)

-- ---- the sink

-- the answer says that the sink failed where that is why lines weren't told
sink_failed : (result : Result (List Advanced) Untold) → turned_by result ≡ turned.SinkFailed → result ≡ Err untold.SinkFailed
sink_failed (Ok ends) e = absurd (let z : turned.Finished ends ≡ turned.SinkFailed = e in cc)
sink_failed (Err untold.SinkFailed) e = refl
sink_failed (Err untold.NoMemory) e = absurd (let z : turned.NoMemory ≡ turned.SinkFailed = e in cc)

-- of what turns came to, whatever ends were answered
abbrev pub SameStop : Result (Unit {0}) Untold → Result (List Advanced) Untold → Type 0
SameStop done result = result ≡ Err untold.SinkFailed → done ≡ Err untold.SinkFailed

pub stopped_so : (e : Untold) → SameStop (Err e) (Err e)
stopped_so untold.SinkFailed same = refl
stopped_so untold.NoMemory same = absurd (let z : ◌≡◌ {A = Result (List Advanced) Untold} (Err untold.NoMemory) (Err untold.SinkFailed) = same in cc)

pub finished_so : (done : Result (Unit {0}) Untold) (ends : List Advanced) → SameStop done (Ok ends)
finished_so done ends same = absurd (let z : ◌≡◌ {A = Result (List Advanced) Untold} (Ok ends) (Err untold.SinkFailed) = same in cc)

pub counts_turned : (done : Result (Unit {0}) Untold) (result : Result (List Advanced) Untold) (before now : ℕ) → SameStop done result → TurnCounts before now done → Counts before now (turned_by result)
counts_turned done result before now same x = record { later = x.later; cause = λ e. x.cause (same (sink_failed result e)) }

pub calms_turned : (done : Result (Unit {0}) Untold) (result : Result (List Advanced) Untold) (calm calm' : Type 0) (before now : ℕ) → SameStop done result → TurnCalm calm calm' before now done → StaysCalm calm calm' before now (turned_by result)
calms_turned done result calm calm' before now same x = record { stays = x.stays; count = x.count; fine = λ is e. x.fine is (same (sink_failed result e)) }

-- want of memory before the first turn
pub counts_unbegun : (faults : ℕ) → Counts faults faults turned.NoMemory
counts_unbegun faults = record { later = omega arith; cause = λ e. absurd (let z : turned.NoMemory ≡ turned.SinkFailed = e in cc) }

pub calms_unbegun : (calm : Type 0) (faults : ℕ) → StaysCalm calm calm faults faults turned.NoMemory
calms_unbegun calm faults = record { stays = λ is. is; count = λ is. refl; fine = λ is e. (let z : turned.NoMemory ≡ turned.SinkFailed = e in cc) }
