-- A new object of a task, and what begins with one.
use Rattle.std.proofs.Common.{◌≡◌, ◌<◌, ◌≤◌, ◌+◌, inl, inr, ℕ, zero, suc, Bool, true, List, [], ◌∷◌, ◌++◌, length, slice_get, Some, Result, Ok, Err, IfOk, refl, sym, ap, subst, ◌∙◌, append-nil, arith}
use Rattle.som_model.specs.declared.key.ClassKey.{ClassKey}
use Rattle.som_model.specs.declared.syntax.Block.{Block}
use Rattle.som_model.specs.declared.program.Fault.TheVariants as faults
use Rattle.som_model.specs.Kernel.{som_init}
use Rattle.som_model.specs.Lists.{Mem}
use Rattle.som_semantics.specs.State.{Heap, InBody, Manner, Nil, Object, Offset, Ref, State, To, Value}
use Rattle.som_semantics.specs.State as state
use Rattle.som_semantics.specs.Runs.{Ends, Faulted, Goes, IsLater}
use Rattle.som_semantics.specs.Acts.{one_more_stays, with_one}
use Rattle.som_semantics.specs.Calls.{Request}
use Rattle.som_code.specs.Machine.{On}
use Rattle.som_code_cache.specs.Coded.{AreCodes}
use Rattle.som_machine_laws.specs.Frames as frames
use Rattle.som_machine_laws.specs.Passed.{passes_offset}
use Rattle.som_machine_laws.specs.Step.{Step, frames as both, kernel_begins, makes}
use Rattle.som_meta.specs.Numbering.{Numbering}
use Rattle.som_objects.specs.declared.cell.Cell.{Cell}
use Rattle.som_objects.specs.declared.cell.Cell.TheVariants as cells
use Rattle.som_objects.specs.declared.object_ref.ObjRef.{ObjRef}
use Rattle.som_objects.specs.Objects.{KeepsKnown, Objects, live_at}
use Rattle.som_values.specs.declared.reference.Reference.{Reference}
use Rattle.som_values.specs.declared.reference.Reference.TheVariants as references
use Rattle.som_values.specs.declared.stopped.Stopped.{Stopped}
use Rattle.som_values.specs.Shown.{IsMade, IsNumbered, all_shown, key_of, place_of, shown_ref, showing}
use Rattle.som_trace.specs.declared.running.Place.{Place}
use Rattle.som_trace.specs.declared.running.Place.TheVariants as places
use Rattle.som_interp_state.specs.Own.{IsOwnObject}
use Rattle.som_interp_state.specs.declared.call.Call.{Call}
use Rattle.som_interp_state.specs.declared.frames.Frames.{Frames}
use Rattle.som_interp_state.specs.declared.frames.Now.TheVariants as nows
use Rattle.som_interp_state.specs.declared.frames.Waiting.TheVariants as waits
use Rattle.som_interp_state.specs.declared.task.Task.{Task}
use Rattle.som_interp_state.specs.Settings.{Linked}
use Rattle.som_interp_state.specs.Standing.{place_shown}
use Rattle.som_interp_state.specs.Stored.{AreSerials, Spares}
use Rattle.som_interp_state.specs.Holding.{Holding, IsUsable}
use Rattle.som_interp_builtins.specs.declared.kinds.KernelBody.{KernelBody}
use Rattle.som_interp_builtins.specs.declared.kinds.KernelBody.TheVariants as kinds
use Rattle.som_interp_builtins.specs.Kinds.{body_shown}
use Rattle.som_interp_objects.specs.Making.{IsNext}
use Rattle.som_interp_state.specs.Named.{HaveOwner, IsOnLive, IsUsableCall}
use Rattle.som_interp_dispatch.specs.Passed.{Passes}
use Rattle.som_interp_loop.specs.declared.stop.Stop.TheVariants as stops
use Rattle.som_interp_loop.specs.Scene.{Around, Scene, scene, setting_of}
use Rattle.som_interp_loop.specs.Moving.{Keeps}
use Rattle.som_interp_invoke.specs.declared.begun.Begun.{Begun}
use Rattle.som_interp_invoke.specs.declared.begun.What.TheVariants as whats
use Rattle.som_interp_invoke.specs.Beginning.{Began, act_of, call_at}
use Rattle.som_interp_invoke.proofs.Asked.{kernel_act}
use Rattle.som_interp_invoke.proofs.Called.{call_moved, no_arguments}
use Rattle.som_interp_invoke.proofs.Pushing.{around_pushed}
use Rattle.som_interp_invoke.proofs.Standing.{call_none, quiet, quiet_to}
use Rattle.som_interp_loop.proofs.Growing.{Grows, around_later}
use Rattle.som_interp_loop.proofs.Untold.{at_state}
use Rattle.som_interp_invoke.proofs.Written.{one_made, the_one}

-- a single serial that was given
pub are_one : (n : ℕ) (os : Objects) → 0 < n → n ≤ length os → AreSerials (n ∷ []) os
are_one n os more le = record {
  positive = λ x made. subst (λ y. 0 < y) (the_one n x made) more;
  given = λ x made. subst (λ y. y ≤ length os) (the_one n x made) le;
  apart = λ i x e. at i x e;
}
  where
    at : (i x : ℕ) → slice_get (n ∷ []) i ≡ Some x → place_of (n ∷ []) x ≡ i
    at zero x e = (let same : n ≡ x = let z = e in cc in let m = subst (λ y. IsMade (n ∷ []) y) same (one_made n) in omega (arith, m))
    at (suc i) x e = absurd (let z = e in cc)

-- others' objects stay
pub others_stay : (os os' : Objects) → ((ys : List ℕ) → AreSerials ys os → Spares ys os os') → (n : ℕ) → n ≤ length os → live_at os' n ≡ live_at os n
others_stay os os' spares zero le = refl
others_stay os os' spares (suc n) le = (spares (suc n ∷ []) (are_one (suc n) os (omega arith) le)).same (suc n) (one_made (suc n))

module _ (l : Linked) (k : Numbering) (main : Block) (made : ClassKey → Bool) (os : Objects) (t : Task) (f : ℕ) (b : Begun) (levels : ℕ) (args : List Cell) where
  abbrev old : Scene
  old = scene l k main made os t f

  -- ---- no class object

  -- a body that makes an object
  abbrev pub Makes : KernelBody → Type 0
  Makes kinds.New = Unit {0}
  Makes kinds.NewNoInit = Unit {0}
  Makes _ = ⊥

  abbrev here : state.Place
  here = InBody (key_of l.keys b.class) (l.method b.method).name

  not_made : (kind : KernelBody) → Makes kind → (me : Reference) → ((n : ℕ) → me ≡ references.Class n → ⊥) → (ws : List frames.Waiting) (s : State)
      → (kernel_begins l.world levels here (shown_ref (showing l.keys t.serials) me) ws (body_shown kind) (all_shown (showing l.keys t.serials) args)).does s ≡ Ends (Faulted faults.NotClass here) s
  not_made kind m (references.Class n) none ws s = absurd (none n refl)
  not_made kinds.New m (references.Object r) none ws s = refl
  not_made kinds.New m references.Manager none ws s = refl
  not_made kinds.NewNoInit m (references.Object r) none ws s = refl
  not_made kinds.NewNoInit m references.Manager none ws s = refl
  not_made kinds.Idle m me none ws s = absurd m
  not_made kinds.Free m me none ws s = absurd m
  not_made kinds.FindClass m me none ws s = absurd m
  not_made (kinds.Asks q) m me none ws s = absurd m

  pub no_class_answer : (kind : KernelBody) → Makes kind → b.what ≡ whats.Kernel kind → (me : Reference) → ((n : ℕ) → me ≡ references.Class n → ⊥) → Began old old b levels me args (Err (stops.Fault faults.NotClass (places.Body b.class b.method)))
  no_class_answer kind m is me none = quiet old b levels me args (Err (stops.Fault faults.NotClass (places.Body b.class b.method))) refl (λ body ws s began fuel tests way a. record {
    then = s;
    is = ap (λ (x : Step). x.does s) (kernel_act old b me args kind is body ws s began levels tests way a) ∙ not_made kind m me none ws s;
    events = sym (append-nil s.events);
    holding = began.around.holding;
  })

  -- ---- a new object

  module _ (n : ℕ) (os' : Objects) (t' : Task) (codes_are : t'.codes ≡ t.codes) (granted_is : t'.granted ≡ t.granted) (begun_is : t'.begun ≡ t.begun) (statics_are : t'.statics.items ≡ t.statics.items)
      (known : KeepsKnown os os') (others : (ys : List ℕ) → AreSerials ys os → Spares ys os os') where
    abbrev new : Scene
    new = scene l k main made os' t' f

    abbrev me : Reference
    me = references.Class n

    abbrev key : ClassKey
    key = key_of l.keys n

    -- what is kept where serials were added
    pub keeps_added : (xs : List ℕ) → t'.serials ≡ t.serials ++ xs → length os' ≡ length os + length xs → ((m : ℕ) → Mem m xs → (length os < m) × (m ≤ length os')) → Keeps old new
    keeps_added xs serials_are count above = record {
      linked = refl;
      classes = refl;
      main = refl;
      codes = [];
      codes_are = codes_are ∙ sym (append-nil t.codes);
      serials = xs;
      serials_are = serials_are;
      granted = granted_is;
      begun = begun_is;
      known = known;
      count = count;
      others = λ m le other. others_stay os os' others m le;
      above = above;
    }

    -- memory was wanting
    pub wanting : Keeps old new → Began old new b levels me args (Err stops.NoMemory)
    wanting keeps = quiet_to old new b levels me args (Err stops.NoMemory) refl keeps tt (λ body ws s began fuel tests way a. tt)

    pub keeps_none : t'.serials ≡ t.serials → os' ≡ os → Keeps old new
    keeps_none same equal = keeps_added [] (same ∙ sym (append-nil t.serials)) (let e = ap (λ (x : Objects). length x) equal in omega (arith, e)) (λ m f. absurd f)

    module _ (r : ObjRef) (serials_are : t'.serials ≡ t.serials ++ r.serial ∷ []) where
      growing : (fr : Frames) → fr.waiting.items ≡ t.frames.waiting.items → Grows made made os os' t (record t' { frames = fr })
      growing fr waiting_is = record { serials = r.serial ∷ []; serials_are = serials_are; codes = []; codes_are = codes_are ∙ sym (append-nil t.codes); waiting = waiting_is; made_more = λ x e. e; known = known }

      pub keeps_one : r.serial ≡ length os + 1 → length os' ≡ length os + 1 → Keeps old new
      keeps_one serial count = keeps_added (r.serial ∷ []) serials_are (omega (arith, count)) above
        where
          above : (m : ℕ) → Mem m (r.serial ∷ []) → (length os < m) × (m ≤ length os')
          above m (inl e) = (omega (arith, e, serial), omega (arith, e, serial, count))
          above m (inr e) = absurd e

      -- the new object is the next of the heap
      abbrev pub Next : Heap → Type 0
      Next h = IsNext l made n cells.Nil t.serials os' t.statics.items h r

      module _ (next : (h : Heap) → Holding l made t.serials os t.statics.items h → Next h) where
        abbrev grown : Heap → Heap
        grown h = with_one l.world key Nil h

        holding : (h : Heap) → Holding l made t.serials os t.statics.items h → Holding l made t'.serials os' t'.statics.items (grown h)
        holding h x = subst (λ xs. Holding l made xs os' t'.statics.items (grown h)) (sym serials_are) (subst (λ v. Holding l made (t.serials ++ r.serial ∷ []) os' v (grown h)) (sym statics_are) (next h x).holding)

        place : (h : Heap) → Holding l made t.serials os t.statics.items h → place_of t'.serials r.serial ≡ length h.objects
        place h x = ap (λ xs. place_of xs r.serial) serials_are ∙ (next h x).place

        -- the object is the task's own
        own : (h : Heap) → Holding l made t.serials os t.statics.items h → IsOwnObject (showing l.keys t'.serials) os' r
        own h x = subst (λ xs. IsOwnObject (showing l.keys xs) os' r) (sym serials_are) (next h x).own

        pub usable : (h : Heap) → Holding l made t.serials os t.statics.items h → IsUsable l made t'.serials os' (cells.Object r)
        usable h x = record { own = own h x; made_of = tt }

        pub object_owner : (h : Heap) → Holding l made t.serials os t.statics.items h → (none : List Cell) → none ≡ [] → HaveOwner l made os' (cells.Object r) none
        object_owner h x none empty = no_arguments l made t'.serials os' t'.statics.items (grown h) (holding h x) (cells.Object r) (usable h x) none empty

        codes_kept : (h : Heap) (ws : List frames.Waiting) → Around old h ws → AreCodes k main t'.codes
        codes_kept h ws around = subst (AreCodes k main) (sym codes_are) around.codes

        later : (h : Heap) → IsLater h (grown h)
        later h = one_more_stays l.world key Nil h

        -- ---- somNewNoInit

        -- the object is answered
        pub object_made : b.what ≡ whats.Kernel kinds.NewNoInit → t'.frames.waiting.items ≡ t.frames.waiting.items → Keeps old new → Began old new b levels me args (Ok (nows.Answering (cells.Object r)))
        object_made is waiting_is keeps = quiet_to old new b levels me args (Ok (nows.Answering (cells.Object r))) refl keeps tt (λ body ws s began fuel tests way a.
            (let held = began.around.holding in
            record {
              next = frames.Answering (To (Object (place_of t'.serials r.serial)));
              waiting = ws;
              then = at_state s.fuel s.events (grown s.heap);
              is = ap (λ (x : Step). x.does s) (kernel_act old b me args kinds.NewNoInit is body ws s began levels tests way a)
                  ∙ ap (λ i. Goes (On (both (frames.Answering (To (Object i))) ws)) (at_state s.fuel s.events (grown s.heap))) (sym (place s.heap held));
              events = sym (append-nil s.events);
              fuel = fuel;
              around = around_later l k main made made os os' t t' f f (growing t'.frames waiting_is) s.heap (grown s.heap) held.heap.holds.many (later s.heap) ws began.around (holding s.heap held) (codes_kept s.heap ws began.around);
              next_is = record { shown = refl; own = own s.heap held; made_of = tt; fine = tt };
            }))

        -- ---- somNew

        abbrev at : Place
        at = places.Body b.class b.method

        -- the call of somInit on an object
        abbrev inits : Ref → List Value → (Request → Step) → Step
        inits o vs next = passes_offset l.world next (place_shown (setting_of new) at) Offset som_init (To o) vs

        -- somInit is called, for which the object waits
        pub object_called : b.what ≡ whats.Kernel kinds.New → t'.frames.waiting.items ≡ t.frames.waiting.items ++ waits.Init r ∷ [] → Keeps old new → (none : List Cell) → none ≡ [] → (call : Result Call Stopped) → IfOk call (λ (x : Call). IsOnLive os' x.me x.parent)
            → ((h : Heap) → Holding l made t'.serials os' t'.statics.items h → IsUsable l made t'.serials os' (cells.Object r) → IsNumbered l.keys b.class → l.is_token b.method ≡ true
            → Passes (setting_of new) h at call (inits (Object (place_of t'.serials r.serial)) (all_shown (showing l.keys t'.serials) none)) × IfOk call (IsUsableCall (setting_of new) made os'))
            → Began old new b levels me args (call_at levels at call)
        object_called is waiting_is keeps none empty call live passes = quiet_to old new b levels me args (call_at levels at call) refl keeps (call_none levels at call) (λ body ws s began fuel tests way a.
            (let held = began.around.holding in
            let p = passes (grown s.heap) (holding s.heap held) (usable s.heap held) began.begun.class began.begun.method in
            let ws' : List frames.Waiting = frames.ForInit (Object (place_of t'.serials r.serial)) ∷ ws in
            call_moved old new (act_of old b body levels me args ws tests way a) s (grown s.heap) ws' (inits (Object (place_of t'.serials r.serial)) (all_shown (showing l.keys t'.serials) none)) levels at call
            (ap (λ (x : Step). x.does s) (kernel_act old b me args kinds.New is body ws s began levels tests way a)
            ∙ ap (λ i. (inits (Object i) [] (makes levels (frames.ForInit (Object i) ∷ ws))).does (at_state s.fuel s.events (grown s.heap))) (sym (place s.heap held))
            ∙ ap (λ cs. (inits (Object (place_of t'.serials r.serial)) (all_shown (showing l.keys t'.serials) cs) (makes levels ws')).does (at_state s.fuel s.events (grown s.heap))) (sym empty))
            p.0 p.1 live
            (around_pushed l k main made made os os' t t' f f (growing t.frames refl) s.heap (grown s.heap) held.heap.holds.many (later s.heap) ws began.around (holding s.heap held) (codes_kept s.heap ws began.around) (waits.Init r) waiting_is (own s.heap held) tt tt)
            fuel))
