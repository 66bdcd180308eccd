-- A call that passed its tests is next.
use Rattle.std.proofs.Common.{◌≡◌, ℕ, Bool, true, false, List, [], ◌∷◌, ◌++◌, length, Option, Some, Result, Ok, Err, IfOk, refl, sym, ap, subst, ◌∙◌, if◌then◌else◌, append-nil, arith}
use Rattle.std.specs.List.{All}
use Rattle.som_model.specs.declared.key.ClassKey.{ClassKey}
use Rattle.som_model.specs.declared.key.MethodRef.{MethodRef}
use Rattle.som_model.specs.declared.syntax.Block.{Block}
use Rattle.som_model.specs.declared.program.Fault.TheVariants as faults
use Rattle.som_model.specs.declared.class.Sig.{Sig}
use Rattle.som_semantics.specs.World.{World, world}
use Rattle.som_model.specs.Class.{Class}
use Rattle.som_model.specs.Loads.{Loads}
use Rattle.som_model.specs.Kernel.{kernel, som_uninit}
use Rattle.som_model.specs.Implementation.{Held}
use Rattle.som_model.specs.Implementation as held
use Rattle.som_semantics.specs.State.{Forward, Heap, Manner, Object, Offset, Ref, State, To, Tried, Value, is_live, target_of}
use Rattle.som_semantics.specs.Runs.{Ends, Faulted}
use Rattle.som_semantics.specs.Acts.{◌>>=◌, asked, later_self, tried}
use Rattle.som_semantics.specs.Calls.{Request}
use Rattle.som_code.specs.Machine.{On}
use Rattle.som_code_cache.specs.Coded.{AreCodes, key_of as body_of}
use Rattle.som_machine_laws.specs.Frames as frames
use Rattle.som_machine_laws.specs.Passed.{passes_offset}
use Rattle.som_machine_laws.specs.Tested.{Tests}
use Rattle.som_machine_laws.specs.Step.{Step, frames as both, kernel_begins, makes}
use Rattle.som_meta.specs.Numbering.{Numbering}
use Rattle.som_type_soundness.proofs.Methods.{own_owner}
use Rattle.som_objects.specs.declared.cell.Cell.{Cell}
use Rattle.som_objects.specs.declared.cell.Cell.TheVariants as cells
use Rattle.som_objects.specs.declared.object_ref.ObjRef.{ObjRef}
use Rattle.som_objects.specs.Objects.{Objects}
use Rattle.som_values.specs.declared.reference.Reference.{Reference}
use Rattle.som_values.specs.declared.reference.Reference.TheVariants as references
use Rattle.som_values.specs.declared.stopped.Stopped.{Stopped}
use Rattle.som_values.specs.declared.stopped.Stopped.TheVariants as stopped
use Rattle.som_values.specs.Answers.{Answers}
use Rattle.som_values.specs.Shown.{IsNumbered, IsSeen, all_shown, place_of, shown, shown_ref, showing}
use Rattle.som_trace.specs.declared.manner.Manner.{Manner as Way}
use Rattle.som_trace.specs.Events.{manner_of}
use Rattle.som_code.specs.declared.instruction.Instruction.{Instruction}
use Rattle.som_values.specs.Stored.{Holds}
use Rattle.som_trace.specs.declared.running.Place.{Place}
use Rattle.som_trace.specs.declared.running.Place.TheVariants as places
use Rattle.som_interp_state.specs.declared.call.Call.{Call}
use Rattle.som_interp_state.specs.declared.frames.Waiting.TheVariants as waits
use Rattle.som_interp_state.specs.declared.task.Task.{Task}
use Rattle.som_interp_state.specs.Settings.{Linked, shows}
use Rattle.som_interp_state.specs.Standing.{call_shown, place_shown}
use Rattle.som_interp_state.specs.Asked.{Agree, CanLoad}
use Rattle.som_interp_state.specs.Holding.{Holding, IsUsable}
use Rattle.som_interp_objects.specs.Targets.{targeted}
use Rattle.som_interp_state.specs.Named.{HaveOwner, IsOnLive, IsUsableCall, setting}
use Rattle.som_interp_dispatch.specs.Passed.{Passes}
use Rattle.som_interp_builtins.specs.declared.kinds.KernelBody.TheVariants as kinds
use Rattle.som_interp_loop.specs.declared.stop.Stop.TheVariants as stops
use Rattle.som_semantics.specs.Invoked as bodies
use Rattle.som_interp_state.specs.Own.{IsOwnObject}
use Rattle.som_interp_loop.specs.Scene.{Around, Scene, scene, setting_of}
use Rattle.som_interp_loop.specs.Moving.{Keeps, Moved}
use Rattle.som_interp_invoke.specs.declared.begun.Begun.{Begun}
use Rattle.som_interp_invoke.specs.declared.begun.What.{What}
use Rattle.som_interp_invoke.specs.declared.begun.What.TheVariants as whats
use Rattle.som_interp_invoke.specs.Begun.{IsWhat}
use Rattle.som_interp_invoke.specs.Beginning.{Began, Begins, act_of, call_at, stopped_at}
use Rattle.som_interp_invoke.proofs.Asked.{kernel_act}
use Rattle.som_interp_invoke.proofs.Pushing.{around_pushed}
use Rattle.som_interp_invoke.proofs.Standing.{call_none, quiet, quiet_to, stopped_none}
use Rattle.som_interp_loop.proofs.Growing.{Grows}
use Rattle.som_interp_loop.proofs.Untold.{at_state, ends_untold, goes_untold}

-- what a call's tests came to is what the act comes to that makes it
pub call_moved : (c c' : Scene) (act : Step) (s : State) (h : Heap) (ws : List frames.Waiting) (P : (Request → Step) → Step) (levels : ℕ) (at : Place) (r : Result Call Stopped)
    → act.does s ≡ (P (makes levels ws)).does (at_state s.fuel s.events h) → Passes (setting_of c') h at r P → IfOk r (IsUsableCall (setting_of c') c'.made c'.objects) → IfOk r (λ (x : Call). IsOnLive c'.objects x.me x.parent)
    → Around c' h ws → s.fuel ≡ c'.fuel → Moved act s (call_at levels at r) c' []
call_moved c c' act s h ws P levels at (Ok call) starts passes usable live around fuel = record {
  next = frames.Calling levels (call_shown (setting_of c') call);
  waiting = ws;
  then = at_state s.fuel s.events h;
  is = starts ∙ goes_untold (P (makes levels ws)) h (On (both (frames.Calling levels (call_shown (setting_of c') call)) ws)) (λ add t e. passes (makes levels ws) add t e) s.fuel s.events;
  events = sym (append-nil s.events);
  fuel = fuel;
  around = around;
  next_is = record { shown = refl; own = usable.own; made_of = usable.made_of; fine = live };
}
call_moved c c' act s h ws P levels at (Err (stopped.Fault f)) starts passes usable live around fuel = record {
  then = at_state s.fuel s.events h;
  is = starts ∙ ends_untold (P (makes levels ws)) h (Faulted f (place_shown (setting_of c') at)) (λ add t e. passes (makes levels ws) add t e) s.fuel s.events;
  events = sym (append-nil s.events);
  holding = around.holding;
}
call_moved c c' act s h ws P levels at (Err stopped.NoMemory) starts passes usable live around fuel = tt

owner_itself : (cs : List Class) (main : Block) → Loads cs main → (r : MethodRef) (sig : Sig) → (world (kernel ++ cs)).sig r ≡ Some sig → (world (kernel ++ cs)).owner r ≡ r
unfolding world
owner_itself cs main loads r sig e = own_owner cs loads.faces r sig e

-- a method that has a signature owns itself
pub own_method : (ks : List ClassKey) (w : World) (k : Numbering) (l : Linked) (main : Block) → Agree ks w k l → CanLoad k.classes main → (r : MethodRef) (sig : Sig) → w.sig r ≡ Some sig → l.world.owner r ≡ r
own_method ks w k l main agree can r sig e =
    let is : w ≡ world (kernel ++ can.others) = agree.answers ∙ ap world can.is in
    subst (λ (v : World). v.owner r ≡ r) (sym (agree.linked_answers ∙ is)) (owner_itself can.others main can.loads r sig (subst (λ (v : World). v.sig r ≡ Some sig) is e))

pub all_none : {A : Type 0} (P : A → Type 0) (none : List A) → none ≡ [] → All P none
all_none P none empty = subst (All P) (sym empty) (λ n d lt. absurd (let f : ⊥ = omega (arith, lt) in f))

-- some task owns the receiver of a call without arguments
pub no_arguments : (l : Linked) (made : ClassKey → Bool) (xs : List ℕ) (os : Objects) (statics : List (Option (List Cell))) (h : Heap) → Holding l made xs os statics h → (on : Cell) → IsUsable l made xs os on → (none : List Cell) → none ≡ [] → HaveOwner l made os on none
no_arguments l made xs os statics h holding on usable none empty = (record { serials = xs; statics = statics; heap = h; holding = holding }, usable, all_none (IsUsable l made xs os) none empty)

-- what is said of a call from a place is said of it from an equal place
pub offset_at : (l : Linked) (os : Objects) (from at : Place) → from ≡ at → (call : Result Call Stopped) (manner : Way) (tok : ℕ × ℕ) (on : Cell) (args : List Cell)
    → ((xs : List ℕ) (cs : List (List Instruction)) (h : Heap) (r : MethodRef) → l.world.owner r ≡ l.method tok → Holds (showing l.keys xs) os h → IsSeen (showing l.keys xs) on
    → Passes (setting l xs cs) h from call (λ next. passes_offset l.world next (place_shown (setting l xs cs) from) (manner_of manner) r (shown (showing l.keys xs) on) (all_shown (showing l.keys xs) args)))
    → (xs : List ℕ) (cs : List (List Instruction)) (h : Heap) (r : MethodRef) → l.world.owner r ≡ l.method tok → Holds (showing l.keys xs) os h → IsSeen (showing l.keys xs) on
    → Passes (setting l xs cs) h at call (λ next. passes_offset l.world next (place_shown (setting l xs cs) at) (manner_of manner) r (shown (showing l.keys xs) on) (all_shown (showing l.keys xs) args))
offset_at l os from at e call manner tok on args p xs cs h r own holds seen =
    subst (λ (x : Place). Passes (setting l xs cs) h x call (λ next. passes_offset l.world next (place_shown (setting l xs cs) x) (manner_of manner) r (shown (showing l.keys xs) on) (all_shown (showing l.keys xs) args))) e (p xs cs h r own holds seen)

module _ (l : Linked) (k : Numbering) (main : Block) (made : ClassKey → Bool) (os : Objects) (t t' : Task) (f : ℕ) (serials_are : t'.serials ≡ t.serials) (codes_are : t'.codes ≡ t.codes) (statics_are : t'.statics.items ≡ t.statics.items) (granted_is : t'.granted ≡ t.granted) (begun_is : t'.begun ≡ t.begun) where
  abbrev old : Scene
  old = scene l k main made os t f

  abbrev new : Scene
  new = scene l k main made os t' f

  pub keeps_frames : Keeps old new
  keeps_frames = record {
    linked = refl;
    classes = refl;
    main = refl;
    codes = [];
    codes_are = codes_are ∙ sym (append-nil t.codes);
    serials = [];
    serials_are = serials_are ∙ sym (append-nil t.serials);
    granted = granted_is;
    begun = begun_is;
    known = λ r x. x;
    count = omega arith;
    others = λ n le other. refl;
    above = λ n m. absurd m;
  }

  -- memory was wanting
  pub frames_wanting : (b : Begun) (levels : ℕ) (me : Reference) (args : List Cell) → Began old new b levels me args (Err stops.NoMemory)
  frames_wanting b levels me args = quiet_to old new b levels me args (Err stops.NoMemory) refl keeps_frames tt (λ body ws s began fuel tests way a. tt)

  growing : Grows made made os os t (record t' { frames = t.frames })
  growing = record { serials = []; serials_are = serials_are ∙ sym (append-nil t.serials); codes = []; codes_are = codes_are ∙ sym (append-nil t.codes); waiting = refl; made_more = λ x e. e; known = λ r x. x }

  module _ (b : Begun) (is : b.what ≡ whats.Kernel kinds.Free) (levels : ℕ) (args : List Cell) where
    abbrev at : Place
    at = places.Body b.class b.method

    -- what isn't freed
    pub not_freed : (me : Reference) → ((r : ObjRef) → me ≡ references.Object r → ⊥) → Began old old b levels me args (Err (stops.Fault faults.ClassFree at))
    not_freed me none = quiet old b levels me args (Err (stops.Fault faults.ClassFree at)) refl (λ body ws s began fuel tests way a. record {
      then = s;
      is = ap (λ (x : Step). x.does s) (kernel_act old b me args kinds.Free is body ws s began levels tests way a) ∙ by me none ws s;
      events = sym (append-nil s.events);
      holding = began.around.holding;
    })
      where
        by : (me : Reference) → ((r : ObjRef) → me ≡ references.Object r → ⊥) → (ws : List frames.Waiting) (s : State) → (kernel_begins l.world levels (place_shown (setting_of old) at) (shown_ref (shows (setting_of old)) me) ws bodies.Free (all_shown (shows (setting_of old)) args)).does s ≡ Ends (Faulted faults.ClassFree (place_shown (setting_of old) at)) s
        by (references.Class n) none ws s = refl
        by references.Manager none ws s = refl
        by (references.Object r) none ws s = absurd (none r refl)

    -- somUninit is called, for which the freeing waits
    pub object_freed : (r : ObjRef) → t'.frames.waiting.items ≡ t.frames.waiting.items ++ waits.Uninit at r ∷ [] → (none : List Cell) → none ≡ [] → (call : Result Call Stopped) → IfOk call (λ (x : Call). IsOnLive os x.me x.parent)
        → ((h : Heap) → Holding l made t'.serials os t'.statics.items h → IsUsable l made t'.serials os (cells.Object r) → IsNumbered l.keys b.class → l.is_token b.method ≡ true
        → Passes (setting_of new) h at call (λ next. passes_offset l.world next (place_shown (setting_of new) at) Offset som_uninit (To (Object (place_of t'.serials r.serial))) (all_shown (showing l.keys t'.serials) none))
        × IfOk call (IsUsableCall (setting_of new) made os))
        → Began old new b levels (references.Object r) args (call_at levels at call)
    object_freed r waiting_is none empty call live passes = quiet_to old new b levels (references.Object r) args (call_at levels at call) refl keeps_frames (call_none levels at call) (λ body ws s began fuel tests way a.
        (let uninits : ℕ → List Value → (Request → Step) → Step = λ i vs next. passes_offset l.world next (place_shown (setting_of new) at) Offset som_uninit (To (Object i)) vs in
        let holding : Holding l made t'.serials os t'.statics.items s.heap = subst (λ xs. Holding l made xs os t'.statics.items s.heap) (sym serials_are) (subst (λ v. Holding l made t.serials os v s.heap) (sym statics_are) began.around.holding) in
        let own : IsOwnObject (showing l.keys t'.serials) os r = subst (λ xs. IsOwnObject (showing l.keys xs) os r) (sym serials_are) began.self.own in
        let p = passes s.heap holding (record { own = own; made_of = tt }) began.begun.class began.begun.method in
        let ws' : List frames.Waiting = frames.ForUninit (place_shown (setting_of new) at) (Object (place_of t'.serials r.serial)) ∷ ws in
        call_moved old new (act_of old b body levels (references.Object r) args ws tests way a) s s.heap ws' (uninits (place_of t'.serials r.serial) (all_shown (showing l.keys t'.serials) none)) levels at call
        (ap (λ (x : Step). x.does s) (kernel_act old b (references.Object r) args kinds.Free is body ws s began levels tests way a)
        ∙ ap (λ (xs : List ℕ). (uninits (place_of xs r.serial) [] (makes levels (frames.ForUninit (place_shown (setting_of new) at) (Object (place_of xs r.serial)) ∷ ws))).does s) (sym serials_are)
        ∙ ap (λ cs. (uninits (place_of t'.serials r.serial) (all_shown (showing l.keys t'.serials) cs) (makes levels ws')).does s) (sym empty))
        p.0 p.1 live
        (around_pushed l k main made made os os t t' f f growing s.heap s.heap began.around.holding.heap.holds.many (later_self s.heap) ws began.around holding (subst (AreCodes k main) (sym codes_are) began.around.codes) (waits.Uninit at r) waiting_is
        ((began.begun.class, began.begun.method), own) tt tt)
        fuel))

-- ---- forwards

module _ (c : Scene) (b : Begun) (is : b.what ≡ whats.Forward) (levels : ℕ) (me : Reference) (args : List Cell) where
  abbrev self : Ref
  self = shown_ref (shows (setting_of c)) me

  abbrev from : Place
  from = places.Body b.class b.method

  abbrev forwards : List frames.Waiting → Value → Step
  forwards ws on = passes_offset c.linked.world (makes levels ws) (place_shown (setting_of c) from) Forward (c.linked.method b.method) on (all_shown (shows (setting_of c)) args)

  -- the call on the target, or the fault
  abbrev goes_to : List frames.Waiting → Tried Value → Step
  goes_to ws t = tried (place_shown (setting_of c) from) t >>= forwards ws

  forward_is : (body : Held) (ws : List frames.Waiting) (s : State) → Begins c s.heap ws b body me args → (tests : Tests) (way : Manner) (a : Bool) → (act_of c b body levels me args ws tests way a).does s ≡ (goes_to ws (targeted self s.heap)).does s
  forward_is body ws s began tests way a = by (act_of c b held.Forward levels me args ws tests way a) (ap (λ (y : Held). (act_of c b y levels me args ws tests way a).does s) (subst (λ (x : What). IsWhat c.task.codes (body_of b.class b.method (length args)) x body) is began.begun.what)) (two (is_live s.heap self))
    where
      by : (act : Step) → (act_of c b body levels me args ws tests way a).does s ≡ act.does s → act.does s ≡ (goes_to ws (targeted self s.heap)).does s → (act_of c b body levels me args ws tests way a).does s ≡ (goes_to ws (targeted self s.heap)).does s
      by act d e = d ∙ e

      two : (z : Bool) → (tried (place_shown (setting_of c) from) (if z then Ok self else Err faults.Freed) >>= λ _. asked (place_shown (setting_of c) from) (λ h. Ok (target_of h self)) >>= forwards ws).does s
          ≡ (goes_to ws (if z then Ok (target_of s.heap self) else Err faults.Freed)).does s
      two true = refl
      two false = refl

  -- there is no target
  pub not_forwarded : (e : Stopped) → ((body : Held) (ws : List frames.Waiting) (s : State) → Begins c s.heap ws b body me args → Answers (shows (setting_of c)) (Err e) (targeted self s.heap)) → Began c c b levels me args (Err (stopped_at from e))
  not_forwarded e fails = quiet c b levels me args (Err (stopped_at from e)) (stopped_none from e) (λ body ws s began fuel tests way a. by e (act_of c b body levels me args ws tests way a) ws s (forward_is body ws s began tests way a) (fails body ws s began) began.around.holding)
    where
      by : (x : Stopped) (act : Step) (ws : List frames.Waiting) (s : State) → act.does s ≡ (goes_to ws (targeted self s.heap)).does s → Answers (shows (setting_of c)) (Err x) (targeted self s.heap)
          → Holding c.linked c.made c.task.serials c.objects c.task.statics.items s.heap → Moved act s (Err (stopped_at from x)) c []
      by (stopped.Fault f) act ws s starts means holding = record { then = s; is = starts ∙ ap (λ z. (goes_to ws z).does s) means; events = sym (append-nil s.events); holding = holding }
      by stopped.NoMemory act ws s starts means holding = tt

  -- the call is made on the target
  pub was_forwarded : (on : Cell) (call : Result Call Stopped) → IfOk call (λ (x : Call). IsOnLive c.objects x.me x.parent)
      → ((body : Held) (ws : List frames.Waiting) (s : State) → Begins c s.heap ws b body me args → (targeted self s.heap ≡ Ok (shown (shows (setting_of c)) on))
      × Passes (setting_of c) s.heap from call (λ next. passes_offset c.linked.world next (place_shown (setting_of c) from) Forward (c.linked.method b.method) (shown (shows (setting_of c)) on) (all_shown (shows (setting_of c)) args))
      × IfOk call (IsUsableCall (setting_of c) c.made c.objects))
      → Began c c b levels me args (call_at levels from call)
  was_forwarded on call live by = quiet c b levels me args (call_at levels from call) (call_none levels from call) (λ body ws s began fuel tests way a.
      (let p = by body ws s began in
      call_moved c c (act_of c b body levels me args ws tests way a) s s.heap ws (λ next. passes_offset c.linked.world next (place_shown (setting_of c) from) Forward (c.linked.method b.method) (shown (shows (setting_of c)) on) (all_shown (shows (setting_of c)) args)) levels from call
      (forward_is body ws s began tests way a ∙ ap (λ z. (goes_to ws z).does s) p.0) p.1 p.2 live began.around fuel))
