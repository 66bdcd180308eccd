-- Objects of a class that a `new` names.
use Rattle.std.proofs.Common.{◌≡◌, ℕ, Bool, true, List, [], ◌∷◌, ◌++◌, Option, Some, Result, Ok, Err, sym, ap, subst, ◌∙◌, append_assoc}
use Rattle.std.specs.List.{All}
use Rattle.som_model.specs.declared.key.ClassKey.{ClassKey}
use Rattle.som_model.specs.declared.syntax.Block.{Block}
use Rattle.som_model.specs.Kernel.{som_new}
use Rattle.som_semantics.specs.State.{ClassObject, Event, Heap, State, To, Used}
use Rattle.som_semantics.specs.Calls.{Request}
use Rattle.som_meta.specs.Numbering.{Numbering}
use Rattle.som_code.specs.declared.instruction.Instruction.TheVariants as ops
use Rattle.som_machine_laws.specs.Frames as frames
use Rattle.som_machine_laws.specs.Passed.{passes_offset}
use Rattle.som_machine_laws.specs.Step.{Step, makes, obey_at}
use Rattle.som_machine_laws.proofs.More.{frames_more, heap_more}
use Rattle.som_objects.specs.declared.cell.Cell.{Cell}
use Rattle.som_objects.specs.declared.cell.Cell.TheVariants as cells
use Rattle.som_objects.specs.Objects.{Objects}
use Rattle.som_values.specs.Shown.{IsNumbered, IsSeen, all_shown, key_of, shown, showing}
use Rattle.som_values.specs.Stored.{Holds}
use Rattle.som_trace.specs.Events.{manner_of}
use Rattle.som_trace.specs.declared.manner.Manner.TheVariants as manners
use Rattle.som_interp_state.specs.declared.body.Body.{Body}
use Rattle.som_interp_state.specs.declared.call.Call.{Call}
use Rattle.som_interp_state.specs.declared.frames.Frames.{Frames}
use Rattle.som_interp_state.specs.declared.frames.Now.{Now}
use Rattle.som_interp_state.specs.declared.frames.Now.TheVariants as nows
use Rattle.som_interp_state.specs.declared.frames.Waiting.{Waiting}
use Rattle.som_interp_state.specs.declared.frames.Waiting.TheVariants as waits
use Rattle.som_interp_state.specs.declared.task.Task.{Task}
use Rattle.som_interp_state.specs.Settings.{Linked, Setting, class_named, shows}
use Rattle.som_interp_state.specs.Standing.{body_shown, place_shown}
use Rattle.som_interp_state.specs.Own.{IsOwnPlace, IsOwnWaiting}
use Rattle.som_interp_state.specs.Holding.{Holding, IsUsable}
use Rattle.som_interp_state.specs.Named.{HaveOwner, IsOnLive, IsUsableCall, Owner}
use Rattle.som_interp_loop.specs.declared.stop.Stop.{Stop}
use Rattle.som_interp_loop.specs.Scene.{IsFineWaiting, Scene, scene, setting_of}
use Rattle.som_interp_calls.specs.Calling.{ComesTo, PassesIn}
use Rattle.som_interp_loop.specs.NextInstruction.{Runs, act_of, next_of}
use Rattle.som_interp_calls.proofs.Arguments.{usable_operands}
use Rattle.som_interp_calls.proofs.Growing.{none, put}
use Rattle.som_interp_calls.proofs.Passing.{passed_went, stop_moved}
use Rattle.som_interp_calls.proofs.Pushing.{around_call, call_in, past}
use Rattle.som_interp_loop.proofs.Untold.{at_state}

-- a class object of a made class can be gone on with
pub class_usable : (l : Linked) (made : ClassKey → Bool) (xs : List ℕ) (os : Objects) (n : ℕ) → IsNumbered l.keys n → made (key_of l.keys n) ≡ true → IsUsable l made xs os (cells.Class n)
class_usable l made xs os n p q = record { own = (p, tt); made_of = q }

-- the task has the objects of a heap among more classes that are made too
pub holding_more : (l : Linked) (made more : ClassKey → Bool) (xs : List ℕ) (os : Objects) (statics : List (Option (List Cell))) (h : Heap) → ((k : ClassKey) → made k ≡ true → more k ≡ true) → Holding l made xs os statics h → Holding l more xs os statics h
holding_more l made more xs os statics h grows holding = record { serials = holding.serials; heap = holding.heap; class_objects = holding.class_objects; made_of = heap_more made more grows h holding.made_of }

-- a task is among more classes that are made
abbrev pub owner_more : (l : Linked) (made more : ClassKey → Bool) (os : Objects) → ((k : ClassKey) → made k ≡ true → more k ≡ true) → Owner l made os → Owner l more os
owner_more l made more os grows o = record {
  serials = o.serials;
  statics = o.statics;
  heap = o.heap;
  holding = holding_more l made more o.serials os o.statics o.heap grows o.holding;
}

pub class_owner : (l : Linked) (made more : ClassKey → Bool) (os : Objects) (n : ℕ) (args : List Cell) → ((k : ClassKey) → made k ≡ true → more k ≡ true) → Owner l made os → IsNumbered l.keys n → more (key_of l.keys n) ≡ true → args ≡ []
    → HaveOwner l more os (cells.Class n) args
class_owner l made more os n args grows o p q e = (owner_more l made more os grows o, class_usable l more o.serials os n p q, subst (All (IsUsable l more o.serials os)) (sym e) (none (IsUsable l more o.serials os)))

module _ (l : Linked) (kn : Numbering) (main : Block) (made more : ClassKey → Bool) (made_more : (k : ClassKey) → made k ≡ true → more k ≡ true) (os : Objects) (t : Task) (fr : Frames) (f : ℕ) (b : Body) (k : ClassKey) (is : next_of (scene l kn main made os t f) b ≡ Some (ops.New k))
    (n : ℕ) (numbered : IsNumbered l.keys n) (key : key_of l.keys n ≡ k) (reached : more (key_of l.keys n) ≡ true) (args : List Cell) (args_are : args ≡ []) where
  abbrev pub earlier : Scene
  earlier = scene l kn main made os t f

  abbrev pub later : Scene
  later = scene l kn main more os (record t { frames = fr }) f

  abbrev set : Setting
  set = setting_of earlier

  abbrev tests : (Request → Step) → Step
  tests next = passes_offset l.world next (place_shown set b.place) (manner_of manners.Offset) som_new (shown (shows set) (cells.Class n)) (all_shown (shows set) args)

  abbrev passes : Call → Type 0
  passes call = (h : Heap) → Holds (showing l.keys t.serials) os h → IsSeen (showing l.keys t.serials) (cells.Class n) → PassesIn set h b.place (Ok call) tests

  abbrev object : Waiting
  object = waits.Object b.place b.code b.at

  abbrev waiting : List frames.Waiting → List frames.Waiting
  waiting ws = frames.ForObject (place_shown set b.place) (class_named (next_of earlier b)) ∷ frames.ForCall (body_shown set (past b b)) ∷ ws

  does : (ws : List frames.Waiting) (s : State) → (act_of earlier b ws).does s ≡ (tests (makes b.levels (waiting ws))).does (at_state s.fuel (s.events ++ Used k ∷ []) s.heap)
  does ws s =
      ap (λ i. (obey_at l.world i (body_shown set b) ws).does s) is
      ∙ ap (λ c. (passes_offset l.world (makes b.levels (frames.ForObject (place_shown set b.place) c ∷ frames.ForCall (body_shown set (past b b)) ∷ ws)) (place_shown set b.place) (manner_of manners.Offset) som_new (To (ClassObject k)) []).does (at_state s.fuel (s.events ++ Used k ∷ []) s.heap)) (sym (ap class_named is))
      ∙ ap (λ c. (passes_offset l.world (makes b.levels (waiting ws)) (place_shown set b.place) (manner_of manners.Offset) som_new (To (ClassObject c)) []).does (at_state s.fuel (s.events ++ Used k ∷ []) s.heap)) (sym key)
      ∙ ap (λ c. (passes_offset l.world (makes b.levels (waiting ws)) (place_shown set b.place) (manner_of manners.Offset) som_new (shown (shows set) (cells.Class n)) (all_shown (shows set) c)).does (at_state s.fuel (s.events ++ Used k ∷ []) s.heap)) (sym args_are)

  abbrev P : Cell → Type 0
  P = IsUsable l more t.serials os

  usable_later : (h : Heap) (ws : List frames.Waiting) → Runs earlier b h ws → All P b.operands.items
  usable_later h ws runs =
      usable_operands l more t.serials os b.operands.items runs.next.own.operands
      (frames_more made more made_more (record { now = frames.Running (body_shown set b); waiting = [] }) (record { now = runs.next.made_of; waiting = tt })).now.stack

  pub new_goes : (call : Call) → passes call → (IsOwnPlace set os b.place → P (cells.Class n) → All P args → IsUsableCall set more os call) → IsOnLive os call.me call.parent
      → fr.waiting.items ≡ t.frames.waiting.items ++ waits.Call (past b b) ∷ object ∷ [] → ComesTo earlier later b (Ok (nows.Calling b.levels call)) (Used k ∷ [])
  new_goes call passed usable live pushed ws s runs fuel =
      let all = usable_later s.heap ws runs in
      passed_went later (act_of earlier b ws) s b.place tests b.levels (waiting ws) (Used k ∷ []) (does ws s) call
      (passed s.heap runs.around.holding.heap.holds numbered) fuel
      (around_call l kn main made more made_more os t fr f b b s.heap ws runs all (object ∷ []) pushed
      (put (IsOwnWaiting (setting_of later) os) object [] (runs.next.own.place, runs.next.own.code) (none (IsOwnWaiting (setting_of later) os)))
      (tt, (call_in l kn main made more made_more os t fr f b b s.heap ws runs all, tt))
      (put (IsFineWaiting later s.heap) object [] tt (none (IsFineWaiting later s.heap))))
      (usable runs.next.own.place (class_usable l more t.serials os n numbered reached) (subst (All P) (sym args_are) (none P))) live

  pub new_stops : (e : Stop) → ((h : Heap) → Holds (showing l.keys t.serials) os h → IsSeen (showing l.keys t.serials) (cells.Class n) → PassesIn set h b.place (Err e) tests) → ComesTo earlier later b (Err e) (Used k ∷ [])
  new_stops e passed ws s runs fuel = stop_moved later (act_of earlier b ws) s b.place tests b.levels (waiting ws) (Used k ∷ []) (does ws s) e
      (holding_more l made more t.serials os t.statics.items s.heap made_more runs.around.holding) (passed s.heap runs.around.holding.heap.holds numbered)

-- ---- scenes whose parts are equal

pub from_old : (l l' : Linked) (kn kn' : Numbering) (main main' : Block) (made : ClassKey → Bool) (os : Objects) (t : Task) (f : ℕ) (c : Scene) (b : Body) (r : Result Now Stop) (es : List Event) → l' ≡ l → kn' ≡ kn → main' ≡ main
    → ComesTo (scene l' kn' main' made os t f) c b r es → ComesTo (scene l kn main made os t f) c b r es
from_old l l' kn kn' main main' made os t f c b r es d e m x =
    subst (λ y. ComesTo (scene y kn main made os t f) c b r es) d (subst (λ y. ComesTo (scene l' y main made os t f) c b r es) e (subst (λ y. ComesTo (scene l' kn' y made os t f) c b r es) m x))

-- one waits, and one more above it
pub two_pushed : (old one two : List Waiting) (x x' y y' : Waiting) → one ≡ old ++ x ∷ [] → two ≡ one ++ y ∷ [] → x ≡ x' → y ≡ y' → two ≡ old ++ x' ∷ y' ∷ []
two_pushed old one two x x' y y' d e p q =
    e ∙ ap (λ z. z ++ y ∷ []) d ∙ append_assoc old (x ∷ []) (y ∷ []) ∙ ap (λ z. old ++ z ∷ y ∷ []) p ∙ ap (λ z. old ++ x' ∷ z ∷ []) q
