-- Dispatches: the name is asked for first, and then the call is made by it.
use Rattle.std.proofs.Common.{◌≡◌, ◌-◌, ℕ, Bool, List, [], ◌∷◌, ◌++◌, length, drop, Some, Result, Ok, Err, sym, ap, subst, ◌∙◌, append-nil}
use Rattle.std.specs.List.{All}
use Rattle.std.proofs.lemmas.List.Elements.{All-drop, All-take}
use Rattle.som_model.specs.declared.key.ClassKey.{ClassKey}
use Rattle.som_model.specs.declared.key.ValueType.{ValueType}
use Rattle.som_model.specs.declared.syntax.Block.{Block}
use Rattle.som_model.specs.Kernel.{som_dispatch_name}
use Rattle.som_semantics.specs.State.{Heap, State, Str, Value}
use Rattle.som_semantics.specs.Values.{text_of}
use Rattle.som_semantics.specs.Calls.{Request}
use Rattle.som_meta.specs.Numbering.{Numbering}
use Rattle.som_code.specs.declared.instruction.Instruction.TheVariants as ops
use Rattle.som_code.specs.Effect.{arguments, below, top}
use Rattle.som_code_cache.specs.Coded.{codes_of}
use Rattle.som_machine_laws.specs.Frames as frames
use Rattle.som_machine_laws.specs.Passed.{passes_named, passes_offset}
use Rattle.som_machine_laws.specs.Step.{Step, goes_past, makes, obey_at}
use Rattle.som_objects.specs.declared.cell.Cell.{Cell}
use Rattle.som_objects.specs.declared.cell.Cell.TheVariants as cells
use Rattle.som_objects.specs.Objects.{Objects}
use Rattle.som_values.specs.Shown.{IsSeen, all_shown, shown, showing}
use Rattle.som_values.specs.Stored.{Holds}
use Rattle.som_trace.specs.declared.running.Place.{Place}
use Rattle.som_trace.specs.Events.{manner_of}
use Rattle.som_trace.specs.declared.manner.Manner.TheVariants as manners
use Rattle.som_interp_state.specs.declared.body.Body.{Body}
use Rattle.som_interp_state.specs.declared.call.Call.{Call}
use Rattle.som_interp_state.specs.declared.frames.Frames.{Frames}
use Rattle.som_interp_state.specs.declared.frames.Now.TheVariants as nows
use Rattle.som_interp_state.specs.declared.frames.Waiting.{Waiting}
use Rattle.som_interp_state.specs.declared.frames.Waiting.TheVariants as waits
use Rattle.som_interp_state.specs.declared.task.Task.{Task}
use Rattle.som_interp_state.specs.Settings.{Linked, Setting, instruction_at, result_wanted, shows}
use Rattle.som_interp_state.specs.Standing.{body_shown, place_shown}
use Rattle.som_interp_state.specs.Own.{IsOwn, IsOwnPlace, IsOwnWaiting}
use Rattle.som_interp_state.proofs.Lists.{all_more}
use Rattle.som_interp_state.specs.Holding.{IsUsable}
use Rattle.som_interp_state.specs.Named.{HaveOwner, IsOnLive, IsUsableCall, Owner}
use Rattle.som_interp_loop.specs.declared.stop.Stop.{Stop}
use Rattle.som_interp_loop.specs.Scene.{IsFineWaiting, Scene, scene, setting_of}
use Rattle.som_interp_ops.specs.Cells.{lower_cells, top_cell, values_of}
use Rattle.som_interp_calls.specs.Answering.{Meets, Resumes, answer_to}
use Rattle.som_interp_calls.specs.Calling.{ComesTo, PassesIn}
use Rattle.som_interp_loop.specs.NextInstruction.{Runs, act_of, next_of}
use Rattle.som_interp_calls.proofs.Arguments.{all_lower, all_top, arguments_shown, below_shown, nil_usable, receiver_shown, usable, values_in}
use Rattle.som_interp_calls.proofs.Growing.{none, put}
use Rattle.som_interp_calls.proofs.Offset.{kept, taken}
use Rattle.som_interp_calls.proofs.Passing.{passed_went, stop_moved}
use Rattle.som_interp_calls.proofs.Pushing.{around_call, call_in, operands_usable, past}
use Rattle.som_interp_loop.proofs.Untold.{at_state}

-- ---- the name that is asked for

text_usable : (l : Linked) (made : ClassKey → Bool) (xs : List ℕ) (os : Objects) (name : List ℕ) → IsUsable l made xs os (cells.Str name)
text_usable l made xs os name = record { own = (tt, tt); made_of = tt }

only_text : (l : Linked) (made : ClassKey → Bool) (xs : List ℕ) (os : Objects) (name : List ℕ) (given : List Cell) → given ≡ cells.Str name ∷ [] → All (IsUsable l made xs os) given
only_text l made xs os name given e = subst (All (IsUsable l made xs os)) (sym e) (put (IsUsable l made xs os) (cells.Str name) [] (text_usable l made xs os name) (none (IsUsable l made xs os)))

pub dispatch_owner : (l : Linked) (made : ClassKey → Bool) (os : Objects) (items : List Cell) (n : ℕ) (on receiver : Cell) (name : List ℕ) (given : List Cell) → on ≡ top_cell (kept items n) → receiver ≡ on → given ≡ cells.Str name ∷ []
    → (o : Owner l made os) × All (IsUsable l made o.serials os) items → HaveOwner l made os receiver given
dispatch_owner l made os items n on receiver name given e d g o =
    let P = IsUsable l made o.0.serials os in
    (o.0, subst P (sym (d ∙ e)) (all_top P (kept items n) (nil_usable l made o.0.serials os) (All-take P (length items - n) items o.1)), only_text l made o.0.serials os name given g)

module _ (l : Linked) (kn : Numbering) (main : Block) (made : ClassKey → Bool) (os : Objects) (t : Task) (fr : Frames) (f : ℕ) (b : Body) (wanted : ValueType) (name : List ℕ) (n : ℕ) (is : next_of (scene l kn main made os t f) b ≡ Some (ops.Dispatch wanted name n)) where
  abbrev pub earlier : Scene
  earlier = scene l kn main made os t f

  abbrev pub later : Scene
  later = scene l kn main made os (record t { frames = fr }) f

  abbrev set : Setting
  set = setting_of earlier

  abbrev items : List Cell
  items = b.operands.items

  abbrev P : Cell → Type 0
  P = IsUsable l made t.serials os

  module _ (on : Cell) (on_is : on ≡ top_cell (kept items n)) (a : Body) (args_are : a.operands.items ≡ taken items n) (receiver : Cell) (same : receiver ≡ on) (given : List Cell) (given_is : given ≡ cells.Str name ∷ []) where
    abbrev pub tests : Body → (Request → Step) → Step
    tests z next = passes_offset l.world next (place_shown set z.place) (manner_of manners.Offset) som_dispatch_name (shown (shows set) receiver) (all_shown (shows set) given)

    abbrev passes : Body → Result Call Stop → Type 0
    passes z result = (h : Heap) → Holds (showing l.keys t.serials) os h → IsSeen (showing l.keys t.serials) receiver → PassesIn set h z.place result (tests z)

    abbrev usable_call : Body → Call → Type 0
    usable_call z call = IsOwnPlace set os z.place → P receiver → All P given → IsUsableCall set made os call

    -- what waits for the name
    abbrev for_name : Body → Waiting
    for_name z = waits.Name z.levels z.place z.code b.at on a.operands

    module _ (v : Body) (rest : v.operands.items ≡ lower_cells (kept items n)) where
      -- the act, by its parts
      abbrev parts : List frames.Waiting → ValueType → List Value → Value → List Value → Value → List Value → Step
      parts ws kind low on_name args_name on_test args_test =
          passes_offset l.world (makes b.levels (frames.ForName b.levels (place_shown set b.place) kind on_name args_name ∷ frames.ForCall (goes_past (body_shown set b) low) ∷ ws)) (place_shown set b.place) (manner_of manners.Offset) som_dispatch_name on_test args_test

      abbrev waiting : List frames.Waiting → List frames.Waiting
      waiting ws = frames.ForName b.levels (place_shown set b.place) (result_wanted (next_of earlier b)) (shown (shows set) on) (all_shown (shows set) a.operands.items) ∷ frames.ForCall (body_shown set (past b v)) ∷ ws

      abbrev next_act : List frames.Waiting → Step
      next_act ws = tests (past b v) (makes b.levels (waiting ws))

      act_is : (ws : List frames.Waiting) → act_of earlier b ws ≡ next_act ws
      act_is ws =
          let st = (body_shown set b).conf.stack in
          let kind = result_wanted (next_of earlier b) in
          let lower = values_of (shows set) v.operands.items in
          let on_is_shown = sym (ap (shown (shows set)) on_is ∙ receiver_shown (shows set) items n) in
          let all = all_shown (shows set) a.operands.items in
          ap (λ i. obey_at l.world i (body_shown set b) ws) is
          ∙ ap (λ x. parts ws x (below (drop n st)) (top (drop n st)) (arguments n st) (top (drop n st)) (Str name ∷ [])) (sym (ap result_wanted is))
          ∙ ap (λ x. parts ws kind x (top (drop n st)) (arguments n st) (top (drop n st)) (Str name ∷ [])) (sym (ap (values_of (shows set)) rest ∙ below_shown (shows set) items n))
          ∙ ap (λ x. parts ws kind lower x (arguments n st) x (Str name ∷ [])) on_is_shown
          ∙ ap (λ x. parts ws kind lower (shown (shows set) on) x (shown (shows set) on) (Str name ∷ [])) (sym (ap (all_shown (shows set)) args_are ∙ arguments_shown (shows set) items n))
          ∙ ap (λ x. parts ws kind lower (shown (shows set) on) all x (Str name ∷ [])) (sym (ap (shown (shows set)) same))
          ∙ ap (λ x. parts ws kind lower (shown (shows set) on) all (shown (shows set) receiver) x) (sym (ap (all_shown (shows set)) given_is))

      does : (ws : List frames.Waiting) (s : State) → (act_of earlier b ws).does s ≡ (next_act ws).does (at_state s.fuel (s.events ++ []) s.heap)
      does ws s = ap (λ (x : Step). x.does s) (act_is ws) ∙ ap (λ es. (next_act ws).does (at_state s.fuel es s.heap)) (sym (append-nil s.events))

      module _ (h : Heap) (ws : List frames.Waiting) (runs : Runs earlier b h ws) where
        below_all : All P (kept items n)
        below_all = All-take P (length items - n) items (operands_usable earlier b h ws runs)

        usable_on : P on
        usable_on = subst P (sym on_is) (all_top P (kept items n) (nil_usable l made t.serials os) below_all)

        usable_receiver : P receiver
        usable_receiver = subst P (sym same) usable_on

        usable_args : All P a.operands.items
        usable_args = subst (All P) (sym args_are) (All-drop P (length items - n) items (operands_usable earlier b h ws runs))

        usable_rest : All P v.operands.items
        usable_rest = subst (All P) (sym rest) (all_lower P (kept items n) below_all)

      goes : (call : Call) → passes (past b v) (Ok call) → usable_call (past b v) call → IsOnLive os call.me call.parent → fr.waiting.items ≡ t.frames.waiting.items ++ waits.Call (past b v) ∷ for_name (past b v) ∷ []
          → ComesTo earlier later b (Ok (nows.Calling b.levels call)) []
      goes call passed usable_it live pushed ws s runs fuel =
          let on_ok = usable_on s.heap ws runs in
          let all = usable_args s.heap ws runs in
          let low = usable_rest s.heap ws runs in
          let own = all_more P (IsOwn (shows set) os) a.operands.items (λ x u. u.own) all in
          let mine = runs.next.own in
          passed_went later (act_of earlier b ws) s b.place (tests (past b v)) b.levels (waiting ws) [] (does ws s) call
          (passed s.heap runs.around.holding.heap.holds (usable_receiver s.heap ws runs).own.0) fuel
          (around_call l kn main made made (λ k e. e) os t fr f b v s.heap ws runs low (for_name (past b v) ∷ []) pushed
          (put (IsOwnWaiting (setting_of later) os) (for_name (past b v)) [] (mine.place, mine.code, on_ok.own, own) (none (IsOwnWaiting (setting_of later) os)))
          ((on_ok.made_of, values_in l made t.serials os a.operands.items all), (call_in l kn main made made (λ k e. e) os t fr f b v s.heap ws runs low, tt))
          (put (IsFineWaiting later s.heap) (for_name (past b v)) [] tt (none (IsFineWaiting later s.heap))))
          (usable_it mine.place (usable_receiver s.heap ws runs) (only_text l made t.serials os name given given_is)) live

      stops : (e : Stop) → passes (past b v) (Err e) → ComesTo earlier later b (Err e) []
      stops e passed ws s runs fuel =
          stop_moved later (act_of earlier b ws) s b.place (tests (past b v)) b.levels (waiting ws) [] (does ws s) e runs.around.holding (passed s.heap runs.around.holding.heap.holds (usable_receiver s.heap ws runs).own.0)

    -- the body after the call, by other words
    pub dispatch_goes : (b' : Body) → b' ≡ past b b' → b'.operands.items ≡ lower_cells (kept items n) → (call : Call) → passes b' (Ok call) → usable_call b' call → IsOnLive os call.me call.parent
        → fr.waiting.items ≡ t.frames.waiting.items ++ waits.Call b' ∷ for_name b' ∷ [] → ComesTo earlier later b (Ok (nows.Calling b'.levels call)) []
    dispatch_goes b' same_body rest call =
        subst (λ z. passes z (Ok call) → usable_call z call → IsOnLive os call.me call.parent → fr.waiting.items ≡ t.frames.waiting.items ++ waits.Call z ∷ for_name z ∷ [] → ComesTo earlier later b (Ok (nows.Calling z.levels call)) []) (sym same_body) (goes b' rest call)

    pub dispatch_stops : (b' : Body) → b' ≡ past b b' → b'.operands.items ≡ lower_cells (kept items n) → (e : Stop) → passes b' (Err e) → ComesTo earlier later b (Err e) []
    dispatch_stops b' same_body rest e = subst (λ z. passes z (Err e) → ComesTo earlier later b (Err e) []) (sym same_body) (stops b' rest e)

-- ---- the name that has come

module _ (c : Scene) (levels : ℕ) (from : Place) (code at : ℕ) (on : Cell) (a : Body) (cell : Cell) (name : List ℕ) (name_is : name ≡ text_of (shown (shows (setting_of c)) cell)) where
  abbrev asked : Waiting
  asked = waits.Name levels from code at on a.operands

  abbrev call_tests : (Request → Step) → Step
  call_tests next = passes_named c.linked.world next (place_shown (setting_of c) from) (manner_of manners.Dispatch) (result_wanted (instruction_at (codes_of c.task.codes) code at)) name (shown (shows (setting_of c)) on) (all_shown (shows (setting_of c)) a.operands.items)

  abbrev call_passes : Result Call Stop → Type 0
  call_passes result = (h : Heap) → Holds (shows (setting_of c)) c.objects h → IsSeen (shows (setting_of c)) on → All (IsSeen (shows (setting_of c))) a.operands.items → PassesIn (setting_of c) h from result call_tests

  abbrev Q : Cell → Type 0
  Q = IsUsable c.linked c.made c.task.serials c.objects

  call_does : (ws : List frames.Waiting) (s : State) → (answer_to c asked cell ws).does s ≡ (call_tests (makes levels ws)).does (at_state s.fuel (s.events ++ []) s.heap)
  call_does ws s =
      ap (λ x. (passes_named c.linked.world (makes levels ws) (place_shown (setting_of c) from) (manner_of manners.Dispatch) (result_wanted (instruction_at (codes_of c.task.codes) code at)) x (shown (shows (setting_of c)) on) (all_shown (shows (setting_of c)) a.operands.items)).does s) (sym name_is)
      ∙ ap (λ es. (call_tests (makes levels ws)).does (at_state s.fuel es s.heap)) (sym (append-nil s.events))

  name_usable : (h : Heap) (ws : List frames.Waiting) → Meets c asked cell h ws → Q on × All Q a.operands.items
  name_usable h ws meets = (record { own = meets.own.2; made_of = meets.made_of.0 }, usable c.linked c.made c.task.serials c.objects a.operands.items meets.own.3 meets.made_of.1)

  seen_all : All Q a.operands.items → All (IsSeen (shows (setting_of c))) a.operands.items
  seen_all all = all_more Q (IsSeen (shows (setting_of c))) a.operands.items (λ x u. u.own.0) all

  pub name_goes : (call : Call) → call_passes (Ok call) → (IsOwnPlace (setting_of c) c.objects from → Q on → All Q a.operands.items → IsUsableCall (setting_of c) c.made c.objects call) → IsOnLive c.objects call.me call.parent
      → Resumes c c asked cell (Ok (nows.Calling levels call))
  name_goes call passed usable_it live ws s meets fuel =
      let u = name_usable s.heap ws meets in
      passed_went c (answer_to c asked cell ws) s from call_tests levels ws [] (call_does ws s) call (passed s.heap meets.around.holding.heap.holds u.0.own.0 (seen_all u.1)) fuel meets.around (usable_it meets.own.0 u.0 u.1) live

  pub name_stops : (e : Stop) → call_passes (Err e) → Resumes c c asked cell (Err e)
  name_stops e passed ws s meets fuel =
      let u = name_usable s.heap ws meets in
      stop_moved c (answer_to c asked cell ws) s from call_tests levels ws [] (call_does ws s) e meets.around.holding (passed s.heap meets.around.holding.heap.holds u.0.own.0 (seen_all u.1))

  pub name_owner : (h : Heap) (ws : List frames.Waiting) → Meets c asked cell h ws → HaveOwner c.linked c.made c.objects on a.operands.items
  name_owner h ws meets =
      let u = name_usable h ws meets in
      (record { serials = c.task.serials; statics = c.task.statics.items; heap = h; holding = meets.around.holding }, u.0, u.1)
