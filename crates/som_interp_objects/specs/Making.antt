-- An object that is made or freed, in the store and in the heap.
use Rattle.std.specs.Prelude.{◌≡◌, ℕ, Bool, if◌then◌else◌, List, [], ◌∷◌, ◌++◌, length, Some, Ok, Err}
use Rattle.som_model.specs.declared.key.ClassKey.{ClassKey}
use Rattle.som_model.specs.declared.program.Fault.TheVariants as faults
use Rattle.som_semantics.specs.Acts.{with_one}
use Rattle.som_semantics.specs.State.{Heap, Ref, Tried, freed, is_live}
use Rattle.som_objects.specs.declared.cell.Cell.{Cell}
use Rattle.som_objects.specs.declared.object_ref.ObjRef.{ObjRef}
use Rattle.som_objects.specs.Objects.{Objects}
use Rattle.som_values.specs.declared.reference.Reference.{Reference}
use Rattle.som_values.specs.Shown.{key_of, place_of, shown, showing}
use Rattle.som_interp_state.specs.Own.{IsOwnObject}
use Rattle.som_interp_state.specs.Settings.{Linked}
use Rattle.som_interp_state.specs.Asked.{is_proxy}
use Rattle.som_interp_state.specs.Holding.{Holding}
use Rattle.som_interp_objects.specs.Acting.{Acts}
use Rattle.som_interp_objects.specs.Cells.{AreNew}
use Rattle.som_interp_objects.specs.Statics.{Statics}

-- some task may use this reference
abbrev pub IsInUse : Linked → (ClassKey → Bool) → Objects → Reference → Type 0
IsInUse l made os r = (statics : Statics) × (xs : List ℕ) × (h : Heap) × Acts l made os statics (Some r) xs h

-- the object is the heap's next, of this class, with this target and with its variables at their zero values; and it is the task's own
pub record IsNext (l : Linked) (made : ClassKey → Bool) (class : ℕ) (target : Cell) (xs : List ℕ) (os : Objects) (statics : Statics) (h : Heap) (r : ObjRef) : Type 0 where
  pub holding : Holding l made (xs ++ r.serial ∷ []) os statics (with_one l.world (key_of l.keys class) (shown (showing l.keys xs) target) h)
  pub place : place_of (xs ++ r.serial ∷ []) r.serial ≡ length h.objects
  pub own : IsOwnObject (showing l.keys (xs ++ r.serial ∷ [])) os r

-- the heap where an object was freed, which has to be live
abbrev pub ended : Ref → Heap → Tried Heap
ended r h = if is_live h r then Ok (freed r h) else Err faults.Freed

-- the cells of a new object of a class: those of its variables, and a proxy's target after them
abbrev pub AreWith : Linked → ℕ → Cell → List Cell → Type 0
AreWith l class target cells = (new : List Cell) × AreNew l class new × (cells ≡ (if is_proxy (key_of l.keys class) then new ++ target ∷ [] else new))
