-- What one turn keeps: the kernel's hierarchy and main, the end of an advance, and the count of the sink's faults.
use Rattle.std.proofs.Common.{◌≡◌, ℕ, Bool, true, false, List, Option, Result, Ok, Err, refl, sym, ap, subst, ◌∙◌, arith, true≢false}
use Rattle.som_model.specs.declared.key.ClassKey.{ClassKey}
use Rattle.som_model.specs.declared.syntax.Block.{Block}
use Rattle.som_semantics.specs.RunText.{no_trace}
use Rattle.som_semantics.specs.World.{World, world as world_of}
use Rattle.som_meta.specs.Numbering.{Numbering}
use Rattle.som_objects.specs.Objects.{Objects}
use Rattle.som_trace.specs.declared.line.Untold.{Untold}
use Rattle.som_trace.specs.declared.line.Untold.TheVariants as untold
use Rattle.som_interp_state.specs.Asked.{Agree}
use Rattle.som_interp_state.specs.Settings.{Linked}
use Rattle.som_interp_loop.specs.Scene.{Scene}
use Rattle.som_interp_task.specs.declared.advanced.Advanced.{Advanced}
use Rattle.som_interp_task.specs.declared.advanced.Advanced.TheVariants as answers
use Rattle.som_interp_task.specs.Advance.{Comes}
use Rattle.som_interp_task.specs.Advance.{Counts as AnswerCounts, StaysCalm as AnswerCalm}
use Rattle.som_exec.specs.Going.{is_going}
use Rattle.som_tasks.specs.declared.client.Client.{Client as Held}
use Rattle.som_tasks.specs.Turning.{Counts, GoesOn, IsKept, IsKeptEnd, StaysCalm, Turns, scene_of}

-- ---- kernels

pub is_kept : {A : Type 0} (keys : A → List ClassKey) (world : A → World) (known : A → Numbering) (linked : A → Linked) (main : A → Block) (old new : A)
    → Agree (keys old) (world old) (known old) (linked old) → Agree (keys new) (world new) (known new) (linked new) → known new ≡ known old → linked new ≡ linked old → main new ≡ main old → IsKept keys world known linked main old new
is_kept keys world known linked main old new a b classes same mains = record {
  same_keys = b.numbers ∙ ap (λ (k : Numbering). k.keys) classes ∙ sym a.numbers;
  same_world = b.answers ∙ ap (λ (k : Numbering). world_of k.classes) classes ∙ sym a.answers;
  same_classes = classes;
  same_linked = same;
  same_main = mains;
}

pub kept_same : {A : Type 0} (keys : A → List ClassKey) (world : A → World) (known : A → Numbering) (linked : A → Linked) (main : A → Block) (kernel : A) → IsKept keys world known linked main kernel kernel
kept_same keys world known linked main kernel = record { same_keys = refl; same_world = refl; same_classes = refl; same_linked = refl; same_main = refl }

-- ---- answers

other_answer : (result : Result (Unit {0}) Untold) → result ≡ Ok tt → result ≡ Err untold.SinkFailed → ⊥
other_answer result ok failed = (let z : ◌≡◌ {A = Result (Unit {0}) Untold} (Ok tt) (Err untold.SinkFailed) = sym ok ∙ failed in cc)

sink_cause : (answer end : Advanced) (result : Result (Unit {0}) Untold) → IsKeptEnd answer end result → result ≡ Err untold.SinkFailed → answer ≡ answers.SinkFailed
sink_cause answers.Going end result h failed = absurd (other_answer result h.1 failed)
sink_cause answers.Done end result h failed = absurd (other_answer result h.1 failed)
sink_cause (answers.SourceFault f at) end result h failed = absurd (other_answer result h.1 failed)
sink_cause answers.SinkFailed end result h failed = refl
sink_cause answers.NoMemory end result h failed = absurd (let z : ◌≡◌ {A = Result (Unit {0}) Untold} (Err untold.NoMemory) (Err untold.SinkFailed) = sym h ∙ failed in cc)

pub counts_so : (answer end : Advanced) (result : Result (Unit {0}) Untold) (before now : ℕ) → IsKeptEnd answer end result → AnswerCounts before now answer → Counts before now result
counts_so answer end result before now kept x = record { later = x.later; cause = λ failed. x.cause (sink_cause answer end result kept failed) }

pub calms_so : (answer end : Advanced) (result : Result (Unit {0}) Untold) (calm calm' : Type 0) (before now : ℕ) → IsKeptEnd answer end result → AnswerCalm calm calm' before now answer → StaysCalm calm calm' before now result
calms_so answer end result calm calm' before now kept x = record { stays = x.stays; count = x.count; fine = λ is failed. x.fine is (sink_cause answer end result kept failed) }

-- an advance without a trace, of which the answer is kept
pub goes_on : (prefix : List ℕ) (before after : Option (List ℕ)) (old new : Scene) (live : Bool) (answer end : Advanced) (result : Result (Unit {0}) Untold) (shows : List ℕ → Bool) → shows ≡ no_trace
    → Comes old 1 shows prefix before after new answer → live ≡ is_going answer → IsKeptEnd answer end result → GoesOn prefix before after old new live end result
goes_on prefix before after old new live answer end result shows unseen comes live_is kept = record {
  answer = answer;
  comes = subst (λ (s : List ℕ → Bool). Comes old 1 s prefix before after new answer) unseen comes;
  live_is = live_is;
  kept = kept;
}

-- ---- a turn

module _ {A : Type 0} (linked : A → Linked) (known : A → Numbering) (main : A → Block) (made : A → ClassKey → Bool) (before after : Option (List ℕ)) (os os' : Objects) (kernel kernel' : A) (client client' : Held) (end end' : Advanced) (result : Result (Unit {0}) Untold) where
  pub live_turn : client.task.live ≡ true → client'.prefix ≡ client.prefix → GoesOn client.prefix before after (scene_of linked known main made os kernel client.task) (scene_of linked known main made os' kernel' client'.task) client'.task.live end' result
      → Turns linked known main made before after os os' kernel kernel' client client' end end' result
  live_turn live prefix x = record { prefix = prefix; goes = λ is. x; rests = λ dead. absurd (true≢false (sym live ∙ dead)) }

pub ended_turn : {A : Type 0} (linked : A → Linked) (known : A → Numbering) (main : A → Block) (made : A → ClassKey → Bool) (written : Option (List ℕ)) (os : Objects) (kernel : A) (client : Held) (end : Advanced) → client.task.live ≡ false
    → Turns linked known main made written written os os kernel kernel client client end end (Ok tt)
ended_turn linked known main made written os kernel client end dead = record {
  prefix = refl;
  goes = λ live. absurd (true≢false (sym live ∙ dead));
  rests = λ is. record { kernel_is = refl; client_is = refl; end_is = refl; objects = refl; written = refl; result_is = refl };
}

pub counts_same : (faults : ℕ) → Counts faults faults (Ok tt)
counts_same faults = record { later = omega arith; cause = λ failed. absurd (let z : ◌≡◌ {A = Result (Unit {0}) Untold} (Ok tt) (Err untold.SinkFailed) = failed in cc) }

pub calms_same : (calm : Type 0) (faults : ℕ) → StaysCalm calm calm faults faults (Ok tt)
calms_same calm faults = record { stays = λ is. is; count = λ is. refl; fine = λ is failed. (let z : ◌≡◌ {A = Result (Unit {0}) Untold} (Ok tt) (Err untold.SinkFailed) = failed in cc) }
