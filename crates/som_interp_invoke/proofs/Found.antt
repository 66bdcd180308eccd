-- A class that is found is made, and its class object answered.
use Rattle.std.proofs.Common.{◌≡◌, ◌⊎◌, inl, inr, ℕ, Bool, true, List, [], ◌∷◌, ◌++◌, Option, None, Some, Result, Ok, Err, refl, sym, ap, subst, ◌∙◌, append-nil}
use Rattle.std.specs.Option.{option_map}
use Rattle.som_model.specs.declared.key.ClassKey.{ClassKey}
use Rattle.som_model.specs.declared.syntax.Block.{Block}
use Rattle.som_model.specs.Implementation.{Held}
use Rattle.som_model.specs.Lists.{Mem}
use Rattle.som_model.specs.Made.{ComesOf}
use Rattle.som_semantics.specs.State.{ClassObject, Manner, State, To, Used, Value}
use Rattle.som_semantics.specs.World.{World}
use Rattle.som_semantics.specs.Runs.{Goes, IsPrefix, end_of}
use Rattle.som_semantics.specs.Acts.{◌>>=◌, later_self}
use Rattle.som_semantics.specs.Invoked.{class_found, found_object}
use Rattle.som_code.specs.Machine.{On}
use Rattle.som_machine_laws.specs.Frames as frames
use Rattle.som_machine_laws.specs.Tested.{Tests}
use Rattle.som_machine_laws.specs.Step.{Step, frames as both, go}
use Rattle.som_meta.specs.Numbering.{Numbering}
use Rattle.som_machine_laws.proofs.More.{heap_more}
use Rattle.som_objects.specs.declared.cell.Cell.{Cell}
use Rattle.som_objects.specs.declared.cell.Cell.TheVariants as cells
use Rattle.som_objects.specs.Objects.{Objects}
use Rattle.som_values.specs.declared.reference.Reference.{Reference}
use Rattle.som_values.specs.Shown.{IsNumbered, all_shown, key_of}
use Rattle.som_interp_state.specs.declared.frames.Now.{Now}
use Rattle.som_interp_state.specs.declared.frames.Now.TheVariants as nows
use Rattle.som_interp_state.specs.declared.task.Task.{Task}
use Rattle.som_interp_state.specs.Settings.{Linked, shows}
use Rattle.som_interp_builtins.specs.declared.kinds.KernelBody.TheVariants as kinds
use Rattle.som_interp_loop.specs.declared.stop.Stop.{Stop}
use Rattle.som_interp_loop.specs.declared.stop.Stop.TheVariants as stops
use Rattle.som_interp_loop.specs.Scene.{Scene, scene, setting_of}
use Rattle.som_interp_loop.specs.Moving.{Keeps, Went}
use Rattle.som_interp_invoke.specs.declared.begun.Begun.{Begun}
use Rattle.som_interp_invoke.specs.declared.begun.What.TheVariants as whats
use Rattle.som_interp_invoke.specs.Beginning.{Began, Begins, act_of}
use Rattle.som_interp_invoke.proofs.Asked.{kernel_act}
use Rattle.som_interp_invoke.proofs.Standing.{answers, keeps_still, quiet}
use Rattle.som_interp_loop.proofs.Growing.{Grows, around_later}

-- what was found is what the meaning finds, by other words
pub found_is : (ks : List ClassKey) (w : World) (l : Linked) → l.keys ≡ ks → l.world ≡ w → (vs : List Value) (o x : Option ℕ) → option_map (key_of ks) o ≡ class_found w vs → o ≡ x → class_found l.world vs ≡ option_map (key_of l.keys) x
found_is ks w l d e vs o x is same = ap (λ (v : World). class_found v vs) e ∙ sym is ∙ ap (λ (y : List ClassKey). option_map (key_of y) o) (sym d) ∙ ap (option_map (key_of l.keys)) same

-- what began in a scene began in one whose parts are equal
pub carried : (c : Scene) (b : Begun) (levels : ℕ) (me : Reference) (args : List Cell) (r : Result Now Stop) (l l' : Linked) (k k' : Numbering) (main main' : Block) (made : ClassKey → Bool) (os : Objects) (t : Task) (f : ℕ) → l' ≡ l → k' ≡ k → main' ≡ main
    → Began c (scene l k main made os t f) b levels me args r → Began c (scene l' k' main' made os t f) b levels me args r
carried c b levels me args r l l' k k' main main' made os t f d e m x =
    subst (λ y. Began c (scene y k' main' made os t f) b levels me args r) (sym d)
    (subst (λ y. Began c (scene l y main' made os t f) b levels me args r) (sym e)
    (subst (λ y. Began c (scene l k y made os t f) b levels me args r) (sym m) x))

module _ (l : Linked) (k : Numbering) (main : Block) (made : ClassKey → Bool) (os : Objects) (t : Task) (f : ℕ) (b : Begun) (is : b.what ≡ whats.Kernel kinds.FindClass) (levels : ℕ) (me : Reference) (args : List Cell) where
  abbrev pub old : Scene
  old = scene l k main made os t f

  -- what the machine does with the class that was found
  abbrev finds : Option ClassKey → List frames.Waiting → Step
  finds found ws = found_object found >>= λ v. go (frames.Answering v) ws

  act_is : (found : Option ClassKey) → class_found l.world (all_shown (shows (setting_of old)) args) ≡ found
      → (body : Held) (ws : List frames.Waiting) (s : State) → Begins old s.heap ws b body me args → (tests : Tests) (way : Manner) (answers : Bool) → act_of old b body levels me args ws tests way answers ≡ finds found ws
  act_is found e body ws s began tests way answers = kernel_act old b me args kinds.FindClass is body ws s began levels tests way answers ∙ ap (λ (o : Option ClassKey). finds o ws) e

  -- no class is found
  pub none_found : class_found l.world (all_shown (shows (setting_of old)) args) ≡ None → Began old old b levels me args (Ok (nows.Answering cells.Nil))
  none_found e = quiet old b levels me args (Ok (nows.Answering cells.Nil)) tt (λ body ws s began fuel tests way a.
      answers old s ws began.around fuel (act_of old b body levels me args ws tests way a) cells.Nil (record { own = (tt, tt); made_of = tt })
      (ap (λ (x : Step). x.does s) (act_is None e body ws s began tests way a)))

  -- memory was wanting before any class was found
  pub nothing_done : Began old old b levels me args (Err stops.NoMemory)
  nothing_done = quiet old b levels me args (Err stops.NoMemory) tt (λ body ws s began fuel tests way a. tt)

  module _ (more : ClassKey → Bool) (grows : (x : ClassKey) → made x ≡ true → more x ≡ true) (n : ℕ) (found : class_found l.world (all_shown (shows (setting_of old)) args) ≡ Some (key_of l.keys n))
      (only : (x : ClassKey) → more x ≡ true → (made x ≡ true) ⊎ ComesOf k.classes (key_of l.keys n ∷ []) x) where
    abbrev new : Scene
    new = scene l k main more os t f

    abbrev key : ClassKey
    key = key_of l.keys n

    keeps : Keeps old new
    keeps = keeps_still l k main made more os t f

    does : (body : Held) (ws : List frames.Waiting) (s : State) → Begins old s.heap ws b body me args → (tests : Tests) (way : Manner) (a : Bool)
        → (act_of old b body levels me args ws tests way a).does s ≡ Goes (On (both (frames.Answering (To (ClassObject key))) ws)) (record { fuel = s.fuel; events = s.events ++ Used key ∷ []; heap = s.heap })
    does body ws s began tests way a = ap (λ (x : Step). x.does s) (act_is (Some key) found body ws s began tests way a)

    tells : (body : Held) (ws : List frames.Waiting) (s : State) → Begins old s.heap ws b body me args → (tests : Tests) (way : Manner) (a : Bool)
        → IsPrefix (s.events ++ Used key ∷ []) (end_of ((act_of old b body levels me args ws tests way a).does s)).events
    tells body ws s began tests way a = ([], ap (λ r. (end_of r).events) (does body ws s began tests way a) ∙ sym (append-nil (s.events ++ Used key ∷ [])))

    -- memory was wanting while it was made
    pub half_made : Began old new b levels me args (Err stops.NoMemory)
    half_made = record {
      events = Used key ∷ [];
      silent = λ shows. refl;
      moved = λ body ws s began fuel tests way a. tt;
      told = λ body ws s began fuel tests way a. tells body ws s began tests way a;
      makes = tt;
      keeps_made = grows;
      only_made = only;
      keeps = keeps;
      stops = tt;
    }

    module _ (numbered : IsNumbered l.keys n) (now : more key ≡ true) where
      used_made : (x : ClassKey) → Mem x (key ∷ []) → more x ≡ true
      used_made x (inl e) = subst (λ z. more z ≡ true) (sym e) now
      used_made x (inr e) = absurd e

      growing : Grows made more os os t t
      growing = record { serials = []; serials_are = sym (append-nil t.serials); codes = []; codes_are = sym (append-nil t.codes); waiting = refl; made_more = grows; known = λ r x. x }

      went : (body : Held) (ws : List frames.Waiting) (s : State) → Begins old s.heap ws b body me args → s.fuel ≡ f → (tests : Tests) (way : Manner) (a : Bool)
          → Went (act_of old b body levels me args ws tests way a) s new (nows.Answering (cells.Class n)) (Used key ∷ [])
      went body ws s began fuel tests way a = record {
        next = frames.Answering (To (ClassObject key));
        waiting = ws;
        then = record { fuel = s.fuel; events = s.events ++ Used key ∷ []; heap = s.heap };
        is = does body ws s began tests way a;
        events = refl;
        fuel = fuel;
        around = around_later l k main made more os os t t f f growing s.heap s.heap began.around.holding.heap.holds.many (later_self s.heap) ws began.around
            (record { serials = began.around.holding.serials; heap = began.around.holding.heap; class_objects = began.around.holding.class_objects; made_of = heap_more made more grows s.heap began.around.holding.made_of }) began.around.codes;
        next_is = record { shown = refl; own = (numbered, tt); made_of = now; fine = tt };
      }

      pub class_made : Began old new b levels me args (Ok (nows.Answering (cells.Class n)))
      class_made = record {
        events = Used key ∷ [];
        silent = λ shows. refl;
        moved = went;
        told = λ body ws s began fuel tests way a. tells body ws s began tests way a;
        makes = record { keeps = grows; used_made = used_made; only = only };
        keeps_made = grows;
        only_made = only;
        keeps = keeps;
        stops = tt;
      }
