-- The class and the target of what a reference refers to.
use Rattle.std.proofs.Common.{◌≡◌, ℕ, Bool, true, if◌then◌else◌, List, Option, Some, None, Result, Ok, Err, slice_get, refl, sym, ap, subst, ◌∙◌}
use Rattle.std.specs.Result.{IfOk}
use Rattle.std.proofs.lemmas.Option.{slice_get_within}
use Rattle.som_model.specs.declared.key.ClassKey.{ClassKey}
use Rattle.som_model.specs.declared.program.Fault.{Fault}
use Rattle.som_model.specs.declared.program.Fault.TheVariants as faults
use Rattle.som_model.specs.Kernel.{som_object}
use Rattle.som_semantics.specs.World.{World}
use Rattle.som_semantics.specs.State.{Value, Nil, Heap, Instance, Ref, Object, ClassObject, Manager, Tried, class_of, target_of}
use Rattle.som_objects.specs.declared.cell.Cell.{Cell}
use Rattle.som_objects.specs.declared.object_ref.ObjRef.{ObjRef}
use Rattle.som_objects.specs.Objects.{Live, Objects, live_at}
use Rattle.som_machine_laws.specs.Needs.{HeapIn, ObjectsIn, RefIn, ValueIn}
use Rattle.som_machine_laws.proofs.Values.{target_in}
use Rattle.som_values.specs.declared.reference.Reference.{Reference}
use Rattle.som_values.specs.declared.reference.Reference.TheVariants as references
use Rattle.som_values.specs.declared.stopped.Stopped.{Stopped}
use Rattle.som_values.specs.declared.stopped.Stopped.TheVariants as stops
use Rattle.som_values.specs.Answers.{Answers}
use Rattle.som_values.specs.Shown.{IsSeenRef, key_of, place_of, shown, shown_ref, showing}
use Rattle.som_values.specs.Stored.{Holds, IsClassOf}
use Rattle.som_values.proofs.Keeping.{same_some}
use Rattle.som_interp_state.specs.Own.{IsOwn}
use Rattle.som_interp_state.specs.Settings.{Linked}
use Rattle.som_interp_state.specs.Stored.{HoldsTarget, IsInstance}
use Rattle.som_interp_state.specs.Asked.{IsClosed}
use Rattle.som_interp_state.specs.Holding.{IsUsable}
use Rattle.som_interp_objects.specs.Acting.{Acts}
use Rattle.som_interp_objects.specs.Objects.{IsWhole}
use Rattle.som_interp_objects.specs.Statics.{Statics}
use Rattle.som_interp_objects.proofs.Reading.{object_in, there, live_there, gone_there, whole_of, on_object}
use Rattle.som_interp_objects.specs.Making.{IsInUse}
use Rattle.som_interp_objects.specs.Targets.{HasTarget, IsTarget, IsTargetAt, targeted}

-- ---- the class

class_at : (w : World) (made : ClassKey → Bool) (ts : List Instance) (i : ℕ) (o : Option Instance) → IsClosed w made → slice_get ts i ≡ o → ObjectsIn made ts → made (elim o [ None ↦ som_object | Some t ↦ t.class ]) ≡ true
class_at w made ts i None closed e os = closed.object
class_at w made ts i (Some t) closed e os = (object_in made ts i t e os).class

class_in : (w : World) (made : ClassKey → Bool) (h : Heap) (r : Ref) → IsClosed w made → HeapIn made h → RefIn made r → made (class_of w h r) ≡ true
class_in w made h (Object i) closed heap p = class_at w made h.objects i (slice_get h.objects i) closed refl heap.objects
class_in w made h (ClassObject k) closed heap p = closed.meta k p
class_in w made h Manager closed heap p = closed.manager

-- what is told of the class by the keys of numbers
abbrev Tells : World → Objects → Reference → Result ℕ Fault → List ClassKey → Type 0
Tells w os r answer ks = (xs : List ℕ) (h : Heap) → Holds (showing ks xs) os h → IsSeenRef (showing ks xs) r → IsClassOf ks w h (shown_ref (showing ks xs) r) answer

made_by : (w : World) (l : Linked) (made : ClassKey → Bool) (os : Objects) (r : Reference) (answer : Result ℕ Fault) → IsClosed w made → IsInUse l made os r → Tells w os r answer l.keys → IfOk answer (λ n. made (key_of l.keys n) ≡ true)
made_by w l made os r (Ok n) closed task tells =
    let acts = task.3 in
    let is = tells task.1 task.2 acts.holding.heap.holds acts.self.own.0 in
    subst (λ k. made k ≡ true) is.1 (class_in w made task.2 (shown_ref (showing l.keys task.1) r) closed acts.holding.made_of acts.self.made_of)
made_by w l made os r (Err f) closed task tells = tt

pub class_made : (w : World) (ks : List ClassKey) (l : Linked) (made : ClassKey → Bool) (os : Objects) (r : Reference) (answer : Result ℕ Fault) → l.keys ≡ ks → IsClosed w made → IsInUse l made os r → Tells w os r answer ks
    → IfOk answer (λ n. made (key_of l.keys n) ≡ true)
class_made w ks l made os r answer e closed task tells = made_by w l made os r answer closed task (subst (Tells w os r answer) (sym e) tells)

-- ---- the target

module _ (l : Linked) (made : ClassKey → Bool) (xs : List ℕ) (os : Objects) (statics : Statics) (h : Heap) (r : ObjRef) (acts : Acts l made os statics (Some (references.Object r)) xs h) where
  instance_there : (o : Live) → live_at os r.serial ≡ Some o → (u : Instance) × (slice_get h.objects (place_of xs r.serial) ≡ Some u) × IsInstance l xs os o u
  instance_there o live = (let u = there l made xs os statics h r acts o live in (u.0, u.1, acts.holding.heap.objects r.serial o u.0 acts.self.own.0 live u.1))

  target_room : HasTarget l os r
  target_room o p live at =
      let u = instance_there o live in
      let held : HoldsTarget l xs os (Some p) o.cells u.0.target = subst (λ q. HoldsTarget l xs os q o.cells u.0.target) at u.2.target in
      slice_get_within o.cells p held.0 held.1

  target_is : (o : Live) (c : Cell) (q : Option ℕ) (v : Value) → HoldsTarget l xs os q o.cells v → IsTargetAt q o.cells c → v ≡ shown (showing l.keys xs) c
  target_is o c (Some p) v held is = held.2 ∙ ap (shown (showing l.keys xs)) (same_some (sym held.1 ∙ is))
  target_is o c None v held is = held ∙ ap (shown (showing l.keys xs)) (sym is)

  target_of_live : (o : Live) (c : Cell) → live_at os r.serial ≡ Some o → IsTargetAt (l.target o.class) o.cells c → target_of h (Object (place_of xs r.serial)) ≡ shown (showing l.keys xs) c
  target_of_live o c live is =
      let u = instance_there o live in
      ap (λ (x : Option Instance). elim x as (λ _. Value) [ None ↦ Nil | Some t ↦ t.target ]) u.1 ∙ target_is o c (l.target o.class) u.0.target u.2.target is

  target_own : (o : Live) (c : Cell) (q : Option ℕ) → live_at os r.serial ≡ Some o → IsTargetAt q o.cells c → IsOwn (showing l.keys xs) os c
  target_own o c (Some p) live is = (instance_there o live).2.variables.own p c is
  target_own o c None live is = subst (IsOwn (showing l.keys xs) os) (sym is) (tt, tt)

  pub target_means : (answer : Result Cell Stopped) → IsTarget l os r answer → Answers (showing l.keys xs) answer (targeted (Object (place_of xs r.serial)) h)
  target_means (Ok c) is =
      let fault : Tried Value = Err faults.Freed in
      ap (λ (b : Bool). if b then Ok (target_of h (Object (place_of xs r.serial))) else fault) (live_there l made xs os statics h r acts is.0 is.1) ∙ ap (λ (v : Value). Ok v) (target_of_live is.0 c is.1 is.2)
  target_means (Err (stops.Fault f)) is =
      let fault : Tried Value = Err faults.Freed in
      ap (λ (b : Bool). if b then Ok (target_of h (Object (place_of xs r.serial))) else fault) (gone_there l made xs os statics h r acts is.0) ∙ ap (λ x. Err x) (sym is.1)
  target_means (Err stops.NoMemory) is = tt

  pub target_usable : (answer : Result Cell Stopped) → IsTarget l os r answer → IfOk answer (IsUsable l made xs os)
  target_usable (Ok c) is = record {
    own = target_own is.0 c (l.target is.0.class) is.1 is.2;
    made_of = subst (ValueIn made) (target_of_live is.0 c is.1 is.2) (target_in made h (Object (place_of xs r.serial)) acts.holding.made_of);
  }
  target_usable (Err e) is = tt

-- what is asked of a reference that is one to an object
module _ (l : Linked) (made : ClassKey → Bool) (os : Objects) (me : Reference) (r : ObjRef) (is : me ≡ references.Object r) where
  pub whole_in_use : IsInUse l made os me → IsWhole l made os r
  whole_in_use task = whole_of l made os task.0 me r is (task.1, task.2, task.3)

  pub room_in_use : IsInUse l made os me → HasTarget l os r
  room_in_use task = target_room l made task.1 os task.0 task.2 r (on_object l made os task.0 me r is task.1 task.2 task.3)

  pub means_target : (answer : Result Cell Stopped) → IsTarget l os r answer → (statics : Statics) (xs : List ℕ) (h : Heap) → Acts l made os statics (Some me) xs h → Answers (showing l.keys xs) answer (targeted (shown_ref (showing l.keys xs) me) h)
  means_target answer has statics xs h acts = subst (λ x. Answers (showing l.keys xs) answer (targeted (shown_ref (showing l.keys xs) x) h)) (sym is) (target_means l made xs os statics h r (on_object l made os statics me r is xs h acts) answer has)

  pub usable_target : (answer : Result Cell Stopped) → IsTarget l os r answer → (statics : Statics) (xs : List ℕ) (h : Heap) → Acts l made os statics (Some me) xs h → IfOk answer (IsUsable l made xs os)
  usable_target answer has statics xs h acts = target_usable l made xs os statics h r (on_object l made os statics me r is xs h acts) answer has
