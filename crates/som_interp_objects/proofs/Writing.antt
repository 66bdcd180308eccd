-- What is written is what the meaning writes, and the task's other objects stay.
use Rattle.std.proofs.Common.{◌≡◌, ℕ, ◌-◌, Bool, true, if◌then◌else◌, List, length, Option, Some, None, Result, Ok, Err, slice_set, refl, sym, ap, subst, ◌∙◌, arith}
use Rattle.std.specs.Result.{OnErr}
use Rattle.std.proofs.lemmas.List.{length-set}
use Rattle.som_model.specs.declared.key.ClassKey.{ClassKey}
use Rattle.som_model.specs.declared.program.Fault.TheVariants as faults
use Rattle.som_semantics.specs.State.{Variables, Heap, To, Object, ClassObject, Tried, is_live, write, zeros}
use Rattle.som_objects.specs.declared.cell.Cell.{Cell}
use Rattle.som_objects.specs.declared.object_ref.ObjRef.{ObjRef}
use Rattle.som_objects.specs.Objects.{Objects, KeepsKnown, Writes}
use Rattle.som_objects.proofs.Known.{keeps_written}
use Rattle.som_machine_laws.proofs.Within.{write_in}
use Rattle.som_values.specs.declared.reference.Reference.{Reference}
use Rattle.som_values.specs.declared.reference.Reference.TheVariants as references
use Rattle.som_values.specs.declared.stopped.Stopped.{Stopped}
use Rattle.som_values.specs.declared.stopped.Stopped.TheVariants as stops
use Rattle.som_values.specs.Shown.{shown, showing, key_of, place_of, IsMade}
use Rattle.som_values.specs.Variables.{Places}
use Rattle.som_interp_state.specs.Settings.{Linked, IsLinked}
use Rattle.som_interp_state.specs.Stored.{AreSerials, HoldVariables, HoldsStatic, Spares}
use Rattle.som_interp_state.proofs.Objects.{heap_written, heap_beside, spares_written}
use Rattle.som_interp_state.proofs.Classes.{statics_still, statics_written}
use Rattle.som_interp_state.specs.Holding.{Holding, IsUsable}
use Rattle.som_interp_objects.specs.Acting.{Acts, IsActing, MayAssign, Becomes, IsAmong, me_value, assigned}
use Rattle.som_interp_objects.specs.Objects.{IsWritten}
use Rattle.som_interp_objects.specs.Statics.{Statics, cells_of, GoesOnWith, IsPut}
use Rattle.som_interp_objects.proofs.Reading.{live_there, gone_there}

-- a written store has as many objects
pub same_count : (os os' : Objects) (r : ObjRef) (p : ℕ) (cell : Cell) → Writes os os' r p cell → length os' ≡ length os
same_count os os' r p cell w = ap (λ (x : Objects). length x) w.2 ∙ length-set os (r.serial - 1) (Some (record w.0 { cells = slice_set w.0.cells p cell }))

serials_still : (xs : List ℕ) (os os' : Objects) → length os' ≡ length os → AreSerials xs os → AreSerials xs os'
serials_still xs os os' e a = record { positive = a.positive; given = λ n made. (let g = a.given n made in omega (arith, g, e)); apart = a.apart }

-- nothing changes
pub spares_self : (ys : List ℕ) (os : Objects) → Spares ys os os
spares_self ys os = record { same = λ n made. refl; known = λ r k. k; more = omega arith }

pub spares_same : (ys : List ℕ) (os os' : Objects) → os' ≡ os → Spares ys os os'
spares_same ys os os' e = subst (λ (x : Objects). Spares ys os x) (sym e) (spares_self ys os)

-- ---- objects

pub object_written : (l : Linked) → IsLinked l → (made : ClassKey → Bool) (xs : List ℕ) (os os' : Objects) (statics : Statics) (h : Heap) (r : ObjRef) (c : ClassKey) (n : ℕ) (cell : Cell) (answer : Result (Unit {0}) Stopped)
    → IsWritten l os os' r c n cell answer → Acts l made os statics (Some (references.Object r)) xs h → IsUsable l made xs os cell
    → Becomes l made xs os' statics answer (assigned c n (To (Object (place_of xs r.serial))) (shown (showing l.keys xs) cell) h)
object_written l linked made xs os os' statics h r c n cell (Ok u) is acts usable =
    let w = is.1 in
    let v = shown (showing l.keys xs) cell in
    let i = place_of xs r.serial in
    let freed : Tried Heap = Err faults.Freed in
    let keeps : KeepsKnown os os' = keeps_written os os' r is.0 cell w in
    let live : is_live h (Object i) ≡ true = live_there l made xs os statics h r acts w.0 w.1 in (
      write (Object i) c n v h,
      ap (λ (b : Bool). if b then Ok (write (Object i) c n v h) else freed) live,
      record {
        serials = serials_still xs os os' (same_count os os' r is.0 cell w) acts.holding.serials;
        heap = heap_written l linked xs os os' h r c n is.0 cell w is.2 acts.self.own.0 usable.own acts.holding.heap;
        class_objects = statics_still l xs os os' statics h (write (Object i) c n v h) keeps (λ x. refl) acts.holding.class_objects;
        made_of = write_in made (Object i) c n v usable.made_of h acts.holding.made_of;
      },
    )
object_written l linked made xs os os' statics h r c n cell (Err (stops.Fault f)) is acts usable =
    let i = place_of xs r.serial in
    let fault : Tried Heap = Err faults.Freed in
    ap (λ (b : Bool). if b then Ok (write (Object i) c n (shown (showing l.keys xs) cell) h) else fault) (gone_there l made xs os statics h r acts is.0) ∙ ap (λ x. Err x) (sym is.1)
object_written l linked made xs os os' statics h r c n cell (Err stops.NoMemory) is acts usable = tt

-- the objects of others stay
pub others_written : (l : Linked) (os os' : Objects) (r : ObjRef) (c : ClassKey) (n : ℕ) (cell : Cell) (answer : Result (Unit {0}) Stopped) → IsWritten l os os' r c n cell answer → OnErr answer (os' ≡ os)
    → (ys : List ℕ) → (IsMade ys r.serial → ⊥) → Spares ys os os'
others_written l os os' r c n cell (Ok u) is e ys other = spares_written ys os os' r is.0 cell other is.1
others_written l os os' r c n cell (Err x) is e ys other = spares_same ys os os' e

-- ---- class objects

-- variables that are each what others are
held_as : (l : Linked) (xs : List ℕ) (os : Objects) (places : Places) (cs : List Cell) (vars nil : Variables) → ((c : ClassKey) (n : ℕ) → vars c n ≡ nil c n) → ((c : ClassKey) (n : ℕ) → nil c n ≡ zeros l.world c n)
    → HoldVariables l xs os places cs nil → HoldVariables l xs os places cs vars
held_as l xs os places cs vars nil same are held = record {
  held = λ c n p at. (let v = held.held c n p at in (v.0, v.1, same c n ∙ v.2));
  others = λ c n none. same c n ∙ are c n;
  own = held.own;
}

goes_on : (l : Linked) (xs : List ℕ) (os : Objects) (of : ℕ) (vars : Variables) (cs : List Cell) (o : Option (List Cell)) → HoldsStatic l xs os (l.statics of) o vars → GoesOnWith l of o cs → HoldVariables l xs os (l.statics of) cs vars
goes_on l xs os of vars cs (Some ds) held on = subst (λ (x : List Cell). HoldVariables l xs os (l.statics of) x vars) on held
goes_on l xs os of vars cs None held on = held_as l xs os (l.statics of) cs vars (zeros l.world) held (λ c n. refl) (on xs os)

class_written : (l : Linked) → IsLinked l → (made : ClassKey → Bool) (xs : List ℕ) (os : Objects) (old new : Statics) (h : Heap) (of : ℕ) (c : ClassKey) (n : ℕ) (cell : Cell)
    → IsPut l old new of c n cell → Acts l made os old (Some (references.Class of)) xs h → IsUsable l made xs os cell → Holding l made xs os new (write (ClassObject (key_of l.keys of)) c n (shown (showing l.keys xs) cell) h)
class_written l linked made xs os old new h of c n cell put acts usable =
    let v = shown (showing l.keys xs) cell in
    let k = key_of l.keys of in
    record {
      serials = acts.holding.serials;
      heap = heap_beside l xs os h (write (ClassObject k) c n v h) refl acts.holding.heap;
      class_objects = statics_written l linked xs os old new h of c n put.1 put.0 cell acts.self.own.0 put.4 put.5 put.2 usable.own
          (goes_on l xs os of (h.statics k) put.0 (cells_of old of) (acts.holding.class_objects.by of acts.self.own.0) put.3) acts.holding.class_objects;
      made_of = write_in made (ClassObject k) c n v usable.made_of h acts.holding.made_of;
    }

-- what the code does with the statics, in the words of the definition
pub class_becomes : (l : Linked) → IsLinked l → (made : ClassKey → Bool) (xs : List ℕ) (os : Objects) (old new : Statics) (h : Heap) (of : ℕ) (c : ClassKey) (n : ℕ) (cell : Cell)
    → IsPut l old new of c n cell → Acts l made os old (Some (references.Class of)) xs h → IsUsable l made xs os cell
    → Becomes l made xs os new (Ok tt) (assigned c n (To (ClassObject (key_of l.keys of))) (shown (showing l.keys xs) cell) h)
class_becomes l linked made xs os old new h of c n cell put acts usable =
    (write (ClassObject (key_of l.keys of)) c n (shown (showing l.keys xs) cell) h, refl, class_written l linked made xs os old new h of c n cell put acts usable)

-- some task acts
pub acting : (l : Linked) (made : ClassKey → Bool) (os : Objects) (statics : Statics) (me : Option Reference) (k : ClassKey) → MayAssign l made os statics me k → IsActing l made os statics me
acting l made os statics me k may = (may.0, may.1, may.2)

-- ---- the answers, of a reference

module _ (l : Linked) (linked : IsLinked l) (made : ClassKey → Bool) (os os' : Objects) (old new : Statics) (me : Reference) (c : ClassKey) (n : ℕ) (cell : Cell) where
  abbrev Assigned : Objects → Statics → Result (Unit {0}) Stopped → Reference → Type 0
  Assigned os'' statics answer x = (xs : List ℕ) (h : Heap) → Acts l made os old (Some x) xs h → IsUsable l made xs os cell
      → Becomes l made xs os'' statics answer (assigned c n (me_value l xs (Some x)) (shown (showing l.keys xs) cell) h)

  pub assigns_object : (r : ObjRef) (answer : Result (Unit {0}) Stopped) → me ≡ references.Object r → IsWritten l os os' r c n cell answer → Assigned os' old answer me
  assigns_object r answer is written = subst (Assigned os' old answer) (sym is) (λ xs h acts usable. object_written l linked made xs os os' old h r c n cell answer written acts usable)

  pub assigns_class : (of : ℕ) → me ≡ references.Class of → IsPut l old new of c n cell → Assigned os new (Ok tt) me
  assigns_class of is put = subst (Assigned os new (Ok tt)) (sym is) (λ xs h acts usable. class_becomes l linked made xs os old new h of c n cell put acts usable)

  pub others_object : (r : ObjRef) (answer : Result (Unit {0}) Stopped) → me ≡ references.Object r → IsWritten l os os' r c n cell answer → OnErr answer (os' ≡ os) → (ys : List ℕ) → (IsAmong ys (Some me) → ⊥) → Spares ys os os'
  others_object r answer is written e ys other = others_written l os os' r c n cell answer written e ys (λ m. other (subst (λ x. IsAmong ys (Some x)) (sym is) m))
