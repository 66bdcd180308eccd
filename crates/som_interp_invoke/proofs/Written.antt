-- A variable of self gets a value.
use Rattle.std.proofs.Common.{◌≡◌, ◌<◌, ◌==◌, ℕ, Bool, true, false, if◌then◌else◌, List, [], ◌∷◌, ◌++◌, length, Some, Result, Ok, Err, OnErr, refl, sym, ap, subst, ◌∙◌, append-nil, arith}
use Rattle.som_model.specs.declared.key.ClassKey.{ClassKey}
use Rattle.som_model.specs.declared.syntax.Block.{Block}
use Rattle.som_model.specs.declared.program.Fault.{Fault}
use Rattle.som_model.specs.declared.program.Fault.TheVariants as faults
use Rattle.som_model.specs.declared.key.MethodRef.{MethodRef}
use Rattle.som_semantics.specs.World.{World, world}
use Rattle.som_model.specs.Kernel.{kernel}
use Rattle.som_model.specs.Rules.{is_void}
use Rattle.som_machine_laws.proofs.Declared.{writer_there}
use Rattle.som_interp_state.specs.Asked.{Agree, CanLoad}
use Rattle.som_model.specs.Implementation.{Held}
use Rattle.som_model.specs.Implementation as held
use Rattle.som_semantics.specs.Invoked.{first_argument}
use Rattle.som_semantics.specs.State.{Heap, InBody, Manner, Nil, Ref, State, To, Tried, Value, is_live, write}
use Rattle.som_semantics.specs.State as state
use Rattle.som_semantics.specs.Runs.{Ends, Faulted, Goes, IsLater}
use Rattle.som_semantics.specs.Acts.{◌>>◌, become, tried, write_stays}
use Rattle.som_model.proofs.KeyLaws.{exact_numbers}
use Rattle.som_code.specs.Machine.{On}
use Rattle.som_code_cache.specs.Coded.{AreCodes, Coded, key_of as body_of}
use Rattle.som_machine_laws.specs.Frames as frames
use Rattle.som_machine_laws.specs.Tested.{Tests}
use Rattle.som_machine_laws.specs.Step.{Step, frames as both, go}
use Rattle.som_meta.specs.Numbering.{Numbering}
use Rattle.som_objects.specs.declared.cell.Cell.{Cell}
use Rattle.som_objects.specs.Objects.{KeepsKnown, Objects}
use Rattle.som_values.specs.declared.reference.Reference.{Reference}
use Rattle.som_values.specs.declared.reference.Reference.TheVariants as references
use Rattle.som_values.specs.declared.stopped.Stopped.{Stopped}
use Rattle.som_values.specs.declared.stopped.Stopped.TheVariants as stopped
use Rattle.som_values.specs.Shown.{IsMade, all_shown, key_of, shown, shown_ref, showing}
use Rattle.som_trace.specs.declared.running.Place.{Place}
use Rattle.som_trace.specs.declared.running.Place.TheVariants as places
use Rattle.som_interp_state.specs.declared.task.Task.{Task}
use Rattle.som_interp_state.specs.Settings.{Linked}
use Rattle.som_interp_state.specs.Own.{IsOwnRef}
use Rattle.som_interp_state.specs.Stored.{Spares}
use Rattle.som_interp_state.specs.Holding.{Holding, IsUsable}
use Rattle.som_interp_builtins.specs.Arguments.{first_cell}
use Rattle.som_interp_builtins.proofs.Firsts.{first_holds, first_value}
use Rattle.som_interp_objects.specs.Acting.{Acts, Becomes, IsAmong, assigned, me_value}
use Rattle.som_interp_loop.specs.Scene.{Scene, scene}
use Rattle.som_interp_loop.specs.Moving.{Keeps, Moved}
use Rattle.som_interp_invoke.specs.declared.begun.Begun.{Begun}
use Rattle.som_interp_invoke.specs.declared.begun.What.{What}
use Rattle.som_interp_invoke.specs.declared.begun.What.TheVariants as whats
use Rattle.som_interp_invoke.specs.Begun.{IsBegun, IsWhat}
use Rattle.som_interp_invoke.specs.Beginning.{Began, Begins, StopsAt, act_of, write_at}
use Rattle.som_interp_invoke.proofs.Asked.{acts}
use Rattle.som_interp_invoke.proofs.Standing.{quiet_to, stopped_none}
use Rattle.som_interp_loop.proofs.Growing.{Grows, around_later}
use Rattle.som_interp_loop.proofs.Untold.{at_state}

-- one serial is the only one of itself
pub the_one : (n x : ℕ) → IsMade (n ∷ []) x → n ≡ x
the_one n x made = by (n == x) refl made
  where
    by : (z : Bool) → (n == x) ≡ z → (if z then 0 else 1) < 1 → n ≡ x
    by true e lt = exact_numbers.two n x e
    by false e lt = absurd (let f : ⊥ = omega (arith, lt) in f)

pub one_made : (n : ℕ) → IsMade (n ∷ []) n
one_made n = subst (λ (z : Bool). (if z then 0 else 1) < 1) (sym (exact_numbers.one n)) (omega arith)

-- an object with another serial isn't self
pub not_among : (s : List ℕ) (os : Objects) (l : Linked) (n : ℕ) (me : Reference) → IsOwnRef (showing l.keys s) os me → (IsMade s n → ⊥) → IsAmong (n ∷ []) (Some me) → ⊥
not_among s os l n (references.Object r) own other among = other (subst (IsMade s) (sym (the_one n r.serial among)) own.0)
not_among s os l n (references.Class k) own other among = among
not_among s os l n references.Manager own other among = among

write_none : (at : Place) (r : Result (Unit {0}) Stopped) → StopsAt at (write_at at r)
write_none at (Ok u) = tt
write_none at (Err e) = stopped_none at e

-- a body that writes a variable is of a variable that its class has
pub variable_there : (ks : List ClassKey) (w : World) (k : Numbering) (l : Linked) (main : Block) → Agree ks w k l → CanLoad k.classes main → (key : ClassKey) (r : MethodRef) (n : ℕ) → l.world.held key r ≡ Some (held.Set n) → is_void (l.world.variable key n) ≡ false
variable_there ks w k l main agree can key r n e =
    let is : l.world ≡ world (kernel ++ can.others) = agree.linked_answers ∙ agree.answers ∙ ap world can.is in
    subst (λ (v : World). is_void (v.variable key n) ≡ false) (sym is) (writer_there can.others main can.loads key r n (subst (λ (v : World). v.held key r ≡ Some (held.Set n)) is e))

module _ (l : Linked) (k : Numbering) (main : Block) (made : ClassKey → Bool) (os os' : Objects) (t t' : Task) (f : ℕ)
    (serials_are : t'.serials ≡ t.serials) (codes_are : t'.codes ≡ t.codes) (waiting_is : t'.frames.waiting.items ≡ t.frames.waiting.items) (granted_is : t'.granted ≡ t.granted) (begun_is : t'.begun ≡ t.begun)
    (known : KeepsKnown os os') (count : length os' ≡ length os) where
  abbrev old : Scene
  old = scene l k main made os t f

  abbrev new : Scene
  new = scene l k main made os' t' f

  pub written_keeps : (me : Reference) → IsOwnRef (showing l.keys t.serials) os me → ((ys : List ℕ) → (IsAmong ys (Some me) → ⊥) → Spares ys os os') → Keeps old new
  written_keeps me own spares = record {
    linked = refl;
    classes = refl;
    main = refl;
    codes = [];
    codes_are = codes_are ∙ sym (append-nil t.codes);
    serials = [];
    serials_are = serials_are ∙ sym (append-nil t.serials);
    granted = granted_is;
    begun = begun_is;
    known = known;
    count = omega (arith, count);
    others = λ n le other. (spares (n ∷ []) (not_among t.serials os l n me own other)).same n (one_made n);
    above = λ n m. absurd m;
  }

  growing : Grows made made os os' t t'
  growing = record { serials = []; serials_are = serials_are ∙ sym (append-nil t.serials); codes = []; codes_are = codes_are ∙ sym (append-nil t.codes); waiting = waiting_is; made_more = λ x e. e; known = known }

  module _ (b : Begun) (n : ℕ) (is : b.what ≡ whats.Set n) (levels : ℕ) (me : Reference) (args : List Cell) where
    abbrev self : Ref
    self = shown_ref (showing l.keys t.serials) me

    abbrev value : Value
    value = first_argument (all_shown (showing l.keys t.serials) args)

    abbrev key : ClassKey
    key = key_of l.keys b.class

    abbrev at : state.Place
    at = InBody key (l.method b.method).name

    abbrev next : List frames.Waiting → Step
    next ws = go (frames.Answering Nil) ws

    -- what the machine does, by whether self is live
    abbrev writes : Bool → List frames.Waiting → Step
    writes z ws = (tried at (if z then Ok self else Err faults.Freed) >> become (write self key n value) (write_stays self key n value)) >> next ws

    act_is : (body : Held) (ws : List frames.Waiting) (s : State) → Begins old s.heap ws b body me args → (tests : Tests) (way : Manner) (a : Bool)
        → (act_of old b body levels me args ws tests way a).does s ≡ (writes (is_live s.heap self) ws).does s
    act_is body ws s began tests way a = ap (λ (y : Held). (act_of old b y levels me args ws tests way a).does s) (subst (λ (x : What). IsWhat t.codes (body_of b.class b.method (length args)) x body) is began.begun.what)

    live_written : (z : Bool) (h h' : Heap) → ◌≡◌ {A = Tried Heap} (if z then Ok h else Err faults.Freed) (Ok h') → (z ≡ true) × (h ≡ h')
    live_written true h h' e = (refl, let x = e in cc)
    live_written false h h' e = absurd (let x = e in cc)

    not_written : (z : Bool) (h : Heap) (e : Fault) → ◌≡◌ {A = Tried Heap} (if z then Ok h else Err faults.Freed) (Err e) → (z ≡ false) × (faults.Freed ≡ e)
    not_written true h e d = absurd (let x = d in cc)
    not_written false h e d = (refl, let x = d in cc)

    comes : (r : Result (Unit {0}) Stopped) (body : Held) (ws : List frames.Waiting) (s : State) → Begins old s.heap ws b body me args → s.fuel ≡ f → (tests : Tests) (way : Manner) (a : Bool)
        → Becomes l made t.serials os' t'.statics.items r (assigned key n (To self) value s.heap) → OnErr r (Holding l made t.serials os' t'.statics.items s.heap) → Moved (act_of old b body levels me args ws tests way a) s (write_at (places.Body b.class b.method) r) new []
    comes (Ok u) body ws s began fuel tests way a becomes held =
        let w = live_written (is_live s.heap self) (write self key n value s.heap) becomes.0 becomes.1 in
        let later : IsLater s.heap becomes.0 = subst (λ (h : Heap). IsLater s.heap h) w.1 (write_stays self key n value s.heap) in
        let holding : Holding l made t'.serials os' t'.statics.items becomes.0 = subst (λ xs. Holding l made xs os' t'.statics.items becomes.0) (sym serials_are) becomes.2 in
        record {
          next = frames.Answering Nil;
          waiting = ws;
          then = at_state s.fuel s.events becomes.0;
          is = act_is body ws s began tests way a ∙ ap (λ z. (writes z ws).does s) w.0 ∙ ap (λ h. Goes (On (both (frames.Answering Nil) ws)) (at_state s.fuel s.events h)) w.1;
          events = sym (append-nil s.events);
          fuel = fuel;
          around = around_later l k main made made os os' t t' f f growing s.heap becomes.0 began.around.holding.heap.holds.many later ws began.around holding (subst (AreCodes k main) (sym codes_are) began.around.codes);
          next_is = record { shown = refl; own = (tt, tt); made_of = tt; fine = tt };
        }
    comes (Err (stopped.Fault e)) body ws s began fuel tests way a becomes held =
        let w = not_written (is_live s.heap self) (write self key n value s.heap) e becomes in
        record {
          then = s;
          is = act_is body ws s began tests way a ∙ ap (λ z. (writes z ws).does s) w.0 ∙ ap (λ x. Ends (Faulted x at) s) w.1;
          events = sym (append-nil s.events);
          holding = subst (λ xs. Holding l made xs os' t'.statics.items s.heap) (sym serials_are) held;
        }
    comes (Err stopped.NoMemory) body ws s began fuel tests way a becomes held = tt

    -- the first argument as a cell
    pub first_usable : (body : Held) (ws : List frames.Waiting) (h : Heap) → Begins old h ws b body me args → IsUsable l made t.serials os (first_cell args)
    first_usable body ws h began = first_holds (IsUsable l made t.serials os) args (record { own = (tt, tt); made_of = tt }) began.arguments

    pub was_written : (r : Result (Unit {0}) Stopped) → Keeps old new
        → ((h : Heap) → Acts l made os t.statics.items (Some me) t.serials h → IsUsable l made t.serials os (first_cell args) → Becomes l made t.serials os' t'.statics.items r (assigned key n (me_value l t.serials (Some me)) (shown (showing l.keys t.serials) (first_cell args)) h))
        → ((h : Heap) → Holding l made t.serials os t.statics.items h → OnErr r (Holding l made t.serials os' t'.statics.items h))
        → Began old new b levels me args (write_at (places.Body b.class b.method) r)
    was_written r keeps means fails = quiet_to old new b levels me args (write_at (places.Body b.class b.method) r) refl keeps (write_none (places.Body b.class b.method) r) (λ body ws s began fuel tests way a.
        comes r body ws s began fuel tests way a
        (subst (λ v. Becomes l made t.serials os' t'.statics.items r (assigned key n (To self) v s.heap)) (sym (first_value (showing l.keys t.serials) args))
        (means s.heap (acts old b me args body ws s.heap began) (first_usable body ws s.heap began)))
        (fails s.heap began.around.holding))

-- the class has the writer of the variable for its method
pub set_held : (l : Linked) (cs : List Coded) (b : Begun) (n : ℕ) → b.what ≡ whats.Set n → (params : ℕ) (body : Held) → IsBegun l cs b params body → l.world.held (key_of l.keys b.class) (l.method b.method) ≡ Some (held.Set n)
set_held l cs b n is params body begun = begun.held ∙ ap (λ (x : Held). Some x) (subst (λ (x : What). IsWhat cs (body_of b.class b.method params) x body) is begun.what)
