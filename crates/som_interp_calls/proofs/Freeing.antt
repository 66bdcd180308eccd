-- An object that is freed after somUninit on it.
use Rattle.std.proofs.Common.{◌≡◌, ◌<◌, ◌==◌, ℕ, suc, Bool, true, false, if◌then◌else◌, List, [], ◌∷◌, length, Result, Ok, Err, refl, sym, ap, subst, append-nil, arith}
use Rattle.som_model.specs.declared.key.ClassKey.{ClassKey}
use Rattle.som_model.specs.declared.program.Fault.{Fault}
use Rattle.som_model.specs.declared.program.Fault.TheVariants as faults
use Rattle.som_model.specs.declared.syntax.Block.{Block}
use Rattle.som_semantics.specs.State.{Heap, Nil, Object, Ref, State, Tried, freed, is_live}
use Rattle.som_semantics.specs.Runs.{Ran, follow}
use Rattle.som_code.specs.Machine.{After}
use Rattle.som_semantics.specs.Acts.{become, freed_stays, tried, ◌>>◌}
use Rattle.som_model.proofs.KeyLaws.{exact_numbers}
use Rattle.som_meta.specs.Numbering.{Numbering}
use Rattle.som_machine_laws.specs.Frames as frames
use Rattle.som_machine_laws.specs.Step.{go}
use Rattle.som_objects.specs.declared.cell.Cell.{Cell}
use Rattle.som_objects.specs.declared.cell.Cell.TheVariants as cells
use Rattle.som_objects.specs.declared.object_ref.ObjRef.{ObjRef}
use Rattle.som_objects.specs.Objects.{KeepsKnown, Objects}
use Rattle.som_values.specs.declared.stopped.Stopped.{Stopped}
use Rattle.som_values.specs.declared.stopped.Stopped.TheVariants as stopped
use Rattle.som_values.specs.Shown.{IsMade, place_of}
use Rattle.som_trace.specs.declared.running.Place.{Place}
use Rattle.som_interp_state.specs.declared.frames.Now.TheVariants as nows
use Rattle.som_interp_state.specs.declared.frames.Waiting.TheVariants as waits
use Rattle.som_interp_state.specs.declared.task.Task.{Task}
use Rattle.som_interp_state.specs.Settings.{Linked}
use Rattle.som_interp_state.specs.Standing.{place_shown}
use Rattle.som_interp_state.specs.Stored.{Spares}
use Rattle.som_interp_state.specs.Own.{IsOwnWaiting}
use Rattle.som_interp_state.specs.Holding.{Holding}
use Rattle.som_interp_objects.specs.Acting.{Becomes}
use Rattle.som_interp_objects.specs.Making.{ended}
use Rattle.som_interp_loop.specs.declared.stop.Stop.{Stop}
use Rattle.som_interp_loop.specs.declared.stop.Stop.TheVariants as stops
use Rattle.som_interp_loop.specs.Scene.{IsFineWaiting, Scene, scene, setting_of}
use Rattle.som_interp_loop.specs.Moving.{Failed, Keeps}
use Rattle.som_interp_calls.specs.Answering.{Resumes, answer_to}
use Rattle.som_interp_loop.specs.NextInstruction.{stop_at}
use Rattle.som_interp_calls.proofs.Growing.{around_later, none}
use Rattle.som_interp_loop.proofs.Untold.{at_state}

went_so : (b : Bool) (x h : Heap) → ◌≡◌ {A = Tried Heap} (if b then Ok x else Err faults.Freed) (Ok h) → (b ≡ true) × (x ≡ h)
went_so true x h e = (refl, cc)
went_so false x h e = absurd cc

stopped_so : (b : Bool) (x : Heap) (f : Fault) → ◌≡◌ {A = Tried Heap} (if b then Ok x else Err faults.Freed) (Err f) → (b ≡ false) × (f ≡ faults.Freed)
stopped_so false x f e = (refl, cc)
stopped_so true x f e = absurd cc

module _ (l : Linked) (kn : Numbering) (main : Block) (made : ClassKey → Bool) (os os' : Objects) (t : Task) (f : ℕ) (from : Place) (object : ObjRef) (cell : Cell) where
  abbrev before : Scene
  before = scene l kn main made os t f

  abbrev after : Scene
  after = scene l kn main made os' t f

  abbrev self : Ref
  self = Object (place_of t.serials object.serial)

  -- what comes of the store is the heap without the object
  abbrev pub IsFreed : Result (Unit {0}) Stopped → Type 0
  IsFreed result = (h : Heap) → Holding l made t.serials os t.statics.items h → IsMade t.serials object.serial → Becomes l made t.serials os' t.statics.items result (ended self h)

  -- the act, by whether the object is live
  abbrev by : List frames.Waiting → State → Bool → Ran (After frames.Frames (Unit {0}))
  by ws s b = follow ((tried (place_shown (setting_of before) from) (if b then Ok self else Err faults.Freed)).does s) (λ r. (become (freed self) (freed_stays self) >> go (frames.Answering Nil) ws).does)

  pub freed_resumes : KeepsKnown os os' → (u : Unit {0}) → IsFreed (Ok u) → Resumes before after (waits.Uninit from object) cell (Ok (nows.Answering cells.Nil))
  freed_resumes known u is ws s meets fuel =
      let became = is s.heap meets.around.holding meets.own.1.0 in
      let so = went_so (is_live s.heap self) (freed self s.heap) became.0 became.1 in
      let set = setting_of after in
      record {
        next = frames.Answering Nil;
        waiting = ws;
        then = at_state s.fuel s.events (freed self s.heap);
        is = ap (by ws s) so.0;
        events = sym (append-nil s.events);
        fuel = fuel;
        around = around_later l kn main made made os os' t t.frames f f (λ k e. e) known s.heap (freed self s.heap) meets.around.holding.heap.holds.many (freed_stays self s.heap) ws [] (sym (append-nil t.frames.waiting.items)) meets.around
            (subst (Holding l made t.serials os' t.statics.items) (sym so.1) became.2) (none (IsOwnWaiting set os')) tt (none (IsFineWaiting after (freed self s.heap)));
        next_is = record { shown = refl; own = (tt, tt); made_of = tt; fine = tt };
      }

  pub freed_fails : (x : Stopped) (e : Stop) → e ≡ stop_at from x → os' ≡ os → IsFreed (Err x) → Resumes before after (waits.Uninit from object) cell (Err e)
  freed_fails stopped.NoMemory e d still is = subst (λ z. Resumes before after (waits.Uninit from object) cell (Err z)) (sym d) (λ ws s meets fuel. tt)
  freed_fails (stopped.Fault x) e d still is = subst (λ z. Resumes before after (waits.Uninit from object) cell (Err z)) (sym d) fails
    where
      fails : Resumes before after (waits.Uninit from object) cell (Err (stops.Fault x from))
      fails ws s meets fuel =
          let so = stopped_so (is_live s.heap self) (freed self s.heap) x (is s.heap meets.around.holding meets.own.1.0) in
          subst (λ z. Failed (answer_to before (waits.Uninit from object) cell ws) s z (place_shown (setting_of after) from) after []) (sym so.1)
          (record { then = s; is = ap (by ws s) so.0; events = sym (append-nil s.events); holding = subst (λ o. Holding l made t.serials o t.statics.items s.heap) (sym still) meets.around.holding })

-- ---- what stays

alone : (n : ℕ) → IsMade (n ∷ []) n
alone n = subst (λ b. (if b then 0 else suc 0) < 1) (sym (exact_numbers.one n)) (omega arith)

one_of : (n k : ℕ) (b : Bool) → (n == k) ≡ b → (if b then 0 else suc 0) < 1 → n ≡ k
one_of n k true e lt = exact_numbers.two n k e
one_of n k false e lt = absurd (omega (arith, lt))

pub freed_keeps : (l : Linked) (kn : Numbering) (main : Block) (made : ClassKey → Bool) (os os' : Objects) (t : Task) (f : ℕ) (object : ObjRef) → ((ys : List ℕ) → (IsMade ys object.serial → ⊥) → Spares ys os os') → KeepsKnown os os' → length os' ≡ length os
    → IsMade t.serials object.serial → Keeps (scene l kn main made os t f) (scene l kn main made os' t f)
freed_keeps l kn main made os os' t f object others known count mine = record {
  linked = refl;
  classes = refl;
  main = refl;
  codes = [];
  codes_are = sym (append-nil t.codes);
  serials = [];
  serials_are = sym (append-nil t.serials);
  granted = refl;
  begun = refl;
  known = known;
  count = omega (arith, count);
  others = λ n le other. (others (n ∷ []) (λ m. other (subst (IsMade t.serials) (sym (one_of n object.serial (n == object.serial) refl m)) mine))).same n (alone n);
  above = λ n m. absurd m;
}
