-- The next parent whose body is called, and those that wait.
use Rattle.std.proofs.Common.{◌≡◌, inl, inr, ◌+◌, ℕ, zero, suc, Bool, true, List, [], ◌∷◌, ◌++◌, drop, Option, Some, None, Ok, Err, refl, sym, ap, subst, ◌∙◌, append-nil}
use Rattle.std.specs.List.{All}
use Rattle.som_model.specs.declared.key.ClassKey.{ClassKey}
use Rattle.som_model.specs.declared.key.MethodRef.{MethodRef}
use Rattle.som_model.specs.declared.syntax.Block.{Block}
use Rattle.som_model.specs.Lists.{Mem}
use Rattle.som_semantics.specs.World.{World}
use Rattle.som_semantics.specs.State.{Heap, Nil, State, Value}
use Rattle.som_semantics.specs.Acts.{later_self}
use Rattle.som_semantics.specs.Calls.{Here, Request, class_here}
use Rattle.som_meta.specs.Numbering.{Numbering}
use Rattle.som_model_laws.proofs.Lists.{get_mem}
use Rattle.som_code_cache.specs.Coded.{codes_of}
use Rattle.som_machine_laws.specs.Frames as frames
use Rattle.som_machine_laws.specs.Passed.{passes_parent}
use Rattle.som_machine_laws.specs.Step.{Step, makes, next_parent}
use Rattle.som_machine_laws.specs.Needs.{AllIn, AllMade, PlaceIn, ValueIn}
use Rattle.som_objects.specs.declared.cell.Cell.{Cell}
use Rattle.som_objects.specs.declared.cell.Cell.TheVariants as cells
use Rattle.som_objects.specs.Objects.{Objects}
use Rattle.som_values.specs.declared.reference.Reference.{Reference}
use Rattle.som_values.specs.Shown.{all_shown, key_of}
use Rattle.som_trace.specs.declared.running.Place.{Place}
use Rattle.som_trace.specs.declared.running.Place.TheVariants as places
use Rattle.som_interp_state.specs.declared.body.Body.{Body}
use Rattle.som_interp_state.specs.declared.call.Call.{Call}
use Rattle.som_interp_state.specs.declared.frames.Frames.{Frames}
use Rattle.som_interp_state.specs.declared.frames.Now.TheVariants as nows
use Rattle.som_interp_state.specs.declared.frames.Waiting.{Waiting}
use Rattle.som_interp_state.specs.declared.frames.Waiting.TheVariants as waits
use Rattle.som_interp_state.specs.declared.task.Task.{Task}
use Rattle.som_interp_state.specs.Settings.{Linked, Setting, instruction_at, method_named, shows}
use Rattle.som_interp_state.specs.Standing.{here_shown, place_shown}
use Rattle.som_interp_state.specs.Own.{AreOwn, IsOwn, IsOwnMe, IsOwnPlace, IsOwnWaiting}
use Rattle.som_interp_state.proofs.Lists.{all_more}
use Rattle.som_interp_state.specs.Asked.{IsClosed}
use Rattle.som_interp_state.specs.Holding.{IsUsable, IsUsableMe}
use Rattle.som_interp_state.specs.Named.{IsMadeClass, IsOnLive, IsUsableCall}
use Rattle.som_interp_loop.specs.declared.stop.Stop.{Stop}
use Rattle.som_interp_loop.specs.Scene.{Around, IsFineWaiting, Scene, scene, setting_of}
use Rattle.som_interp_calls.specs.Calling.{PassesIn}
use Rattle.som_interp_calls.specs.Parents.{IsFirst, IsNone, Nexts}
use Rattle.som_interp_calls.proofs.Arguments.{values_in}
use Rattle.som_interp_calls.proofs.Growing.{around_later, none, put}
use Rattle.som_interp_calls.proofs.Passing.{passed_went, stop_moved}
use Rattle.som_interp_loop.proofs.Untold.{at_state}

-- ---- classes that are made

made_all : (made : ClassKey → Bool) (ps : List ClassKey) → ((p : ClassKey) → Mem p ps → made p ≡ true) → AllMade made ps
made_all made [] m = tt
made_all made (p ∷ ps) m = (m p (inl refl), made_all made ps (λ q e. m q (inr e)))

made_from : (made : ClassKey → Bool) (n : ℕ) (ps : List ClassKey) → AllMade made ps → AllMade made (drop n ps)
made_from made zero [] m = m
made_from made zero (p ∷ ps) m = m
made_from made (suc n) [] m = m
made_from made (suc n) (p ∷ ps) m = made_from made n ps m.1

-- the class that runs is made
pub here_made : (w : World) (made : ClassKey → Bool) → IsClosed w made → (s : Setting) (me : Option Reference) (at : Place) → PlaceIn made (place_shown s at) → made (class_here (here_shown s me at)) ≡ true
here_made w made closed s me places.Main p = closed.object
here_made w made closed s me (places.Body class method) p = p

own_me : (c : Scene) (me : Option Reference) → IsUsableMe c.linked c.made c.task.serials c.objects me → IsOwnMe (shows (setting_of c)) c.objects me
own_me c None u = tt
own_me c (Some r) u = u.own

value_me : (c : Scene) (me : Option Reference) (at : Place) → IsUsableMe c.linked c.made c.task.serials c.objects me → ValueIn c.made (here_shown (setting_of c) me at).me
value_me c None at u = tt
value_me c (Some r) at u = u.made_of

module _ (l : Linked) (kn : Numbering) (main : Block) (made : ClassKey → Bool) (closed : IsClosed l.world made) (os : Objects) (t : Task) (fr : Frames) (f : ℕ) (levels : ℕ) (me : Option Reference) (at : Place) (from code : ℕ) (r : MethodRef) (args : List Cell) where
  abbrev pub earlier : Scene
  earlier = scene l kn main made os t f

  abbrev pub later : Scene
  later = scene l kn main made os (record t { frames = fr }) f

  abbrev set : Setting
  set = setting_of earlier

  abbrev here : Here
  here = here_shown set me at

  module _ (class owner : ℕ) (class_is : key_of l.keys class ≡ class_here here) (owner_is : (l.world.owner r).class ≡ key_of l.keys owner) where
    -- the calls from the place on
    abbrev calls : ClassKey → List frames.Waiting → Step
    calls k ws = next_parent l.world levels here (drop from (l.world.parents k)) r (all_shown (shows set) args) ws

    pub none_moved : fr.waiting.items ≡ t.frames.waiting.items ++ [] → IsNone l.keys l.world class owner from → Nexts earlier later levels me at from code r args (Ok (nows.Answering cells.Nil))
    none_moved items is act ws s around usable_me place here_in all has fuel does = record {
      next = frames.Answering Nil;
      waiting = ws;
      then = s;
      is = does ∙ ap (λ k. (calls k ws).does s) (sym class_is) ∙ ap (λ (a : Step). a.does s) (is levels here r (all_shown (shows set) args) ws owner_is);
      events = sym (append-nil s.events);
      fuel = fuel;
      around = around_later l kn main made made os os t fr f f (λ k e. e) (λ x k. k) s.heap s.heap around.holding.heap.holds.many (later_self s.heap) ws [] items around around.holding (none (IsOwnWaiting set os)) tt (none (IsFineWaiting later s.heap));
      next_is = record { shown = refl; own = (tt, tt); made_of = tt; fine = tt };
    }

    module _ (place number : ℕ) (first : IsFirst l.keys l.world class owner from (place, number)) where
      abbrev pub tests : (Request → Step) → Step
      tests next = passes_parent l.world next here (key_of l.keys number) r (all_shown (shows set) args)

      abbrev waiting : List frames.Waiting → List frames.Waiting
      waiting ws = frames.ForParent levels here (drop (place + 1) (l.world.parents (class_here here))) r (all_shown (shows set) args) ∷ ws

      first_does : (act : Step) (ws : List frames.Waiting) (s : State) → act.does s ≡ (calls (class_here here) ws).does s → act.does s ≡ (tests (makes levels (waiting ws))).does (at_state s.fuel (s.events ++ []) s.heap)
      first_does act ws s does =
          does ∙ ap (λ k. (calls k ws).does s) (sym class_is) ∙ ap (λ (a : Step). a.does s) (first.calls levels here r (all_shown (shows set) args) ws owner_is)
          ∙ ap (λ k. (tests (makes levels (frames.ForParent levels here (drop (place + 1) (l.world.parents k)) r (all_shown (shows set) args) ∷ ws))).does s) class_is
          ∙ ap (λ es. (tests (makes levels (waiting ws))).does (at_state s.fuel es s.heap)) (sym (append-nil s.events))

      pub first_stops : (e : Stop) → ((h : Heap) → PassesIn set h at (Err e) tests) → Nexts earlier later levels me at from code r args (Err e)
      first_stops e passed act ws s around usable_me placed here_in all has fuel does = stop_moved later act s at tests levels (waiting ws) [] (first_does act ws s does) e around.holding (passed s.heap)

      parents_made : PlaceIn made here.place → (p : ClassKey) → Mem p (l.world.parents (class_here here)) → made p ≡ true
      parents_made here_in p m = closed.parents (class_here here) p (here_made l.world made closed set me at here_in) m

      number_made : PlaceIn made here.place → IsMadeClass l made number
      number_made here_in =
          (first.numbered, parents_made here_in (key_of l.keys number) (subst (λ k. Mem (key_of l.keys number) (l.world.parents k)) class_is (get_mem (l.world.parents (key_of l.keys class)) place (key_of l.keys number) first.there)))

      -- what waits for the body, with the place of the next parent and equal arguments
      module _ (again : Body) (again_are : again.operands.items ≡ args) (instruction : ℕ) (method_is : method_named (instruction_at (codes_of t.codes) code instruction) ≡ r) where
        abbrev parent_waits : Waiting
        parent_waits = waits.Parent levels me at (place + 1) code instruction again.operands

        abbrev shown_waits : List Value → MethodRef → frames.Waiting
        shown_waits vs m = frames.ForParent levels here (drop (place + 1) (l.world.parents (class_here here))) m vs

        pub first_goes : (call : Call) → ((h : Heap) → PassesIn set h at (Ok call) tests)
            → (IsOwnPlace set os at → IsMadeClass l made number → IsUsableMe l made t.serials os me → All (IsUsable l made t.serials os) args → IsUsableCall set made os call) → IsOnLive os call.me call.parent
            → fr.waiting.items ≡ t.frames.waiting.items ++ parent_waits ∷ [] → Nexts earlier later levels me at from code r args (Ok (nows.Calling levels call))
        first_goes call passed usable live items act ws s around usable_me placed here_in all has fuel does =
            let same : shown_waits (all_shown (shows set) again.operands.items) (method_named (instruction_at (codes_of t.codes) code instruction)) ≡ shown_waits (all_shown (shows set) args) r =
            ap (λ vs. shown_waits (all_shown (shows set) vs) (method_named (instruction_at (codes_of t.codes) code instruction))) again_are ∙ ap (shown_waits (all_shown (shows set) args)) method_is in
            let own = all_more (IsUsable l made t.serials os) (IsOwn (shows set) os) args (λ x u. u.own) all in
            let in_args = values_in l made t.serials os args all in
            passed_went later act s at tests levels (waiting ws) [] (first_does act ws s does) call (passed s.heap) fuel
            (subst (λ k. Around later s.heap (k ∷ ws)) same
            (around_later l kn main made made os os t fr f f (λ k e. e) (λ x k. k) s.heap s.heap around.holding.heap.holds.many (later_self s.heap) ws (parent_waits ∷ []) items around around.holding
            (put (IsOwnWaiting (setting_of later) os) parent_waits [] (own_me earlier me usable_me, placed, has, subst (AreOwn (shows set) os) (sym again_are) own) (none (IsOwnWaiting (setting_of later) os)))
            ((record { me = value_me earlier me at usable_me; place = here_in }, made_from made (place + 1) (l.world.parents (class_here here)) (made_all made (l.world.parents (class_here here)) (parents_made here_in)), subst (λ vs. AllIn made (all_shown (shows set) vs)) (sym again_are) in_args), tt)
            (put (IsFineWaiting later s.heap) parent_waits [] tt (none (IsFineWaiting later s.heap)))))
            (usable placed (number_made here_in) usable_me all) live
