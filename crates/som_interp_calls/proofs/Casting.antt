-- An object that comes to the `new` that asked for it.
use Rattle.std.proofs.Common.{◌≡◌, ℕ, Bool, List, Option, Result, Ok, Err, sym, ap, subst, ◌∙◌, append-nil}
use Rattle.som_model.specs.declared.key.ClassKey.{ClassKey}
use Rattle.som_model.specs.declared.program.Fault.{Fault}
use Rattle.som_semantics.specs.World.{World}
use Rattle.som_semantics.specs.State.{Heap, Tried, Value}
use Rattle.som_semantics.specs.Runs.{follow}
use Rattle.som_semantics.specs.Acts.{tried}
use Rattle.som_semantics.specs.Values.{cast}
use Rattle.som_machine_laws.specs.Frames as frames
use Rattle.som_machine_laws.specs.Step.{go}
use Rattle.som_objects.specs.declared.cell.Cell.{Cell}
use Rattle.som_objects.specs.declared.cell.Cell.TheVariants as cells
use Rattle.som_objects.specs.Objects.{Objects}
use Rattle.som_values.specs.Answers.{passed}
use Rattle.som_values.specs.Shown.{IsNumbered, IsSeen, key_of, shown, showing}
use Rattle.som_values.specs.Stored.{Holds, IsClassed}
use Rattle.som_interp_state.specs.declared.frames.Now.TheVariants as nows
use Rattle.som_interp_state.specs.declared.frames.Waiting.{Waiting}
use Rattle.som_interp_state.specs.declared.frames.Waiting.TheVariants as waits
use Rattle.som_interp_state.specs.Settings.{Linked, class_named, instruction_at, shows}
use Rattle.som_interp_state.specs.Standing.{place_shown}
use Rattle.som_interp_state.proofs.Objects.{instance_of}
use Rattle.som_trace.specs.declared.running.Place.{Place}
use Rattle.som_interp_state.specs.Holding.{Holding, IsUsable}
use Rattle.som_interp_loop.specs.declared.stop.Stop.TheVariants as stops
use Rattle.som_interp_loop.specs.Scene.{Scene, setting_of}
use Rattle.som_code_cache.specs.Coded.{codes_of}
use Rattle.som_interp_calls.specs.Answering.{Meets, Resumes, answer_to}
use Rattle.som_interp_calls.proofs.Going.{stays}

-- the class of what a cell of the task's refers to can be asked for
pub cell_classed : (l : Linked) (made : ClassKey → Bool) (ks : List ClassKey) (xs : List ℕ) (os : Objects) (statics : List (Option (List Cell))) (h : Heap) (c : Cell) → Holding l made xs os statics h → l.keys ≡ ks → IsUsable l made xs os c → IsClassed ks made os c
cell_classed l made ks xs os statics h (cells.Long z) holding e u = tt
cell_classed l made ks xs os statics h (cells.Boolean b) holding e u = tt
cell_classed l made ks xs os statics h cells.EmptyStr holding e u = tt
cell_classed l made ks xs os statics h (cells.Str s) holding e u = tt
cell_classed l made ks xs os statics h cells.Nil holding e u = tt
cell_classed l made ks xs os statics h cells.Manager holding e u = tt
cell_classed l made ks xs os statics h (cells.Class n) holding e u = (subst (λ z. IsNumbered z n) e u.own.0, ap (λ z. made (key_of z n)) (sym e) ∙ u.made_of)
cell_classed l made ks xs os statics h (cells.Object r) holding e u = λ x at. subst (λ z. IsNumbered z x.class) e (instance_of l xs os h r.serial x at u.own.0 holding.heap.holds).2.2

-- so it is of a value that comes to what waits
pub value_classed : (ks : List ClassKey) (c : Scene) (first : Waiting) (cell : Cell) (h : Heap) (ws : List frames.Waiting) → Meets c first cell h ws → c.linked.keys ≡ ks → IsClassed ks c.made c.objects cell
value_classed ks c first cell h ws meets e = cell_classed c.linked c.made ks c.task.serials c.objects c.task.statics.items h cell meets.around.holding e meets.value

-- whether a value may be taken for one of this class is what the test says
abbrev pub IsCast : Objects → Cell → Result (Unit {0}) Fault → List ClassKey → World → ClassKey → Type 0
IsCast os cell r ks w k = (xs : List ℕ) (h : Heap) → Holds (showing ks xs) os h → IsSeen (showing ks xs) cell → passed (shown (showing ks xs) cell) r ≡ cast w k h (shown (showing ks xs) cell)

-- a cast among classes by other names that are equal to these
pub cast_moved : (os : Objects) (cell : Cell) (r : Result (Unit {0}) Fault) (ks ks' : List ClassKey) (w w' : World) (k k' : ClassKey) → ks' ≡ ks → w' ≡ w → k ≡ k' → IsCast os cell r ks w k → IsCast os cell r ks' w' k'
cast_moved os cell r ks ks' w w' k k' e d a is = subst (λ z. IsCast os cell r z w' k') (sym e) (subst (λ z. IsCast os cell r ks z k') (sym d) (subst (λ z. IsCast os cell r ks w z) a is))

module _ (c : Scene) (from : Place) (code at : ℕ) (cell : Cell) where
  abbrev pub named : ClassKey
  named = class_named (instruction_at (codes_of c.task.codes) code at)

  pub object_resumes : (u : Unit {0}) → IsCast c.objects cell (Ok u) c.linked.keys c.linked.world named → Resumes c c (waits.Object from code at) cell (Ok (nows.Answering cell))
  object_resumes u is ws s meets fuel =
      let v = shown (shows (setting_of c)) cell in
      let e : Ok v ≡ cast c.linked.world named s.heap v = is c.task.serials s.heap meets.around.holding.heap.holds meets.value.own.0 in
      stays c (answer_to c (waits.Object from code at) cell ws) s ws (nows.Answering cell) fuel meets.around
      (ap (λ (t : Tried Value). follow ((tried (place_shown (setting_of c) from) t).does s) (λ x. (go (frames.Answering x) ws).does)) (sym e))
      meets.value.own meets.value.made_of tt

  pub object_fails : (f : Fault) → IsCast c.objects cell (Err f) c.linked.keys c.linked.world named → Resumes c c (waits.Object from code at) cell (Err (stops.Fault f from))
  object_fails f is ws s meets fuel =
      let v = shown (shows (setting_of c)) cell in
      let e : Err f ≡ cast c.linked.world named s.heap v = is c.task.serials s.heap meets.around.holding.heap.holds meets.value.own.0 in
      record {
        then = s;
        is = ap (λ (t : Tried Value). follow ((tried (place_shown (setting_of c) from) t).does s) (λ x. (go (frames.Answering x) ws).does)) (sym e);
        events = sym (append-nil s.events);
        holding = meets.around.holding;
      }
