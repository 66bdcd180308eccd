-- Calls of the bodies of all parents, one after the other.
use Rattle.std.specs.Prelude.{◌≡◌, ◌+◌, ℕ, List, [], ◌∷◌, drop, Option, Some, Result, slice_get}
use Rattle.std.specs.List.{All}
use Rattle.som_model.specs.declared.key.ClassKey.{ClassKey}
use Rattle.som_model.specs.declared.key.MethodRef.{MethodRef}
use Rattle.som_semantics.specs.World.{World}
use Rattle.som_semantics.specs.State.{Nil, State, Value}
use Rattle.som_semantics.specs.Calls.{Here, class_here}
use Rattle.som_machine_laws.specs.Needs.{PlaceIn}
use Rattle.som_objects.specs.declared.cell.Cell.{Cell}
use Rattle.som_values.specs.declared.reference.Reference.{Reference}
use Rattle.som_trace.specs.declared.running.Place.{Place}
use Rattle.som_interp_state.specs.declared.frames.Now.{Now}
use Rattle.som_interp_state.specs.Settings.{shows}
use Rattle.som_interp_state.specs.Standing.{here_shown}
use Rattle.som_interp_state.specs.Own.{HasCode, IsOwnPlace}
use Rattle.som_interp_state.specs.Holding.{IsUsable, IsUsableMe}
use Rattle.som_interp_loop.specs.declared.stop.Stop.{Stop}
use Rattle.som_interp_loop.specs.Scene.{Around, Scene, setting_of}
use Rattle.som_interp_loop.specs.Moving.{Moved}
use Rattle.som_machine_laws.specs.Frames.{Answering, ForParent, Waiting}
use Rattle.som_machine_laws.specs.Passed.{passes_parent}
use Rattle.som_machine_laws.specs.Step.{Step, go, makes, next_parent}
use Rattle.som_values.specs.Shown.{IsNumbered, all_shown, key_of}

module _ (keys : List ClassKey) (w : World) (class owner from : ℕ) where
  -- the parents of the class from the place on
  abbrev pub parents_from : ℕ → List ClassKey
  parents_from n = drop n (w.parents (key_of keys class))

  -- from a place on, the calls of a method that this class owns are these
  abbrev pub AreCalls : (ℕ → Here → MethodRef → List Value → List Waiting → Step) → Type 0
  AreCalls calls = (levels : ℕ) (here : Here) (r : MethodRef) (args : List Value) (ks : List Waiting) → (w.owner r).class ≡ key_of keys owner → next_parent w levels here (parents_from from) r args ks ≡ calls levels here r args ks

  -- no parent from the place on descends from the owner: nil is answered
  abbrev pub IsNone : Type 0
  IsNone = AreCalls (λ levels here r args ks. go (Answering Nil) ks)

  -- the parent found is the first that does: it is called, and those after it wait
  pub record IsFirst (found : ℕ × ℕ) : Type 0 where
    pub numbered : IsNumbered keys found.1
    pub there : slice_get (w.parents (key_of keys class)) found.0 ≡ Some (key_of keys found.1)
    pub calls : AreCalls (λ levels here r args ks. passes_parent w (makes levels (ForParent levels here (parents_from (found.0 + 1)) r args ∷ ks)) here (key_of keys found.1) r args)

-- from wherever self and the arguments can be gone on with, the code came to what the calls of the parents from a place on come to
abbrev pub Nexts : Scene → Scene → ℕ → Option Reference → Place → ℕ → ℕ → MethodRef → List Cell → Result Now Stop → Type 0
Nexts old new levels me at from code r args result =
    let here : Here = here_shown (setting_of old) me at in
    (act : Step) (ws : List Waiting) (s : State) → Around old s.heap ws → IsUsableMe old.linked old.made old.task.serials old.objects me → IsOwnPlace (setting_of old) old.objects at → PlaceIn old.made here.place
    → All (IsUsable old.linked old.made old.task.serials old.objects) args → HasCode (setting_of old) old.objects code → s.fuel ≡ old.fuel
    → act.does s ≡ (next_parent old.linked.world levels here (drop from (old.linked.world.parents (class_here here))) r (all_shown (shows (setting_of old)) args) ws).does s
    → Moved act s result new []
