-- What is read is what the meaning reads.
use Rattle.std.proofs.Common.{◌≡◌, ℕ, zero, suc, ◌<◌, Bool, true, false, if◌then◌else◌, List, [], ◌∷◌, length, Option, Some, None, Result, Ok, Err, slice_get, refl, sym, ap, subst, ◌∙◌}
use Rattle.std.specs.Result.{IfOk}
use Rattle.std.proofs.lemmas.Option.{slice_get_within}
use Rattle.som_model.specs.declared.key.ClassKey.{ClassKey}
use Rattle.som_model.specs.declared.program.Fault.TheVariants as faults
use Rattle.som_semantics.specs.State.{Instance, Value, Heap, To, Object, ClassObject, Tried, is_live, variables_of, zeros}
use Rattle.som_semantics.specs.Expressions.{read}
use Rattle.som_objects.specs.declared.cell.Cell.{Cell}
use Rattle.som_objects.specs.declared.object_ref.ObjRef.{ObjRef}
use Rattle.som_objects.specs.Objects.{Live, Objects, live_at, IsGone}
use Rattle.som_machine_laws.specs.Needs.{InstanceIn, ObjectsIn, ValueIn}
use Rattle.som_machine_laws.proofs.Within as within
use Rattle.som_machine_laws.proofs.Values.{read_in}
use Rattle.som_values.specs.declared.reference.Reference.{Reference}
use Rattle.som_values.specs.declared.reference.Reference.TheVariants as references
use Rattle.som_values.specs.declared.stopped.Stopped.{Stopped}
use Rattle.som_values.specs.declared.stopped.Stopped.TheVariants as stops
use Rattle.som_values.specs.Answers.{Answers}
use Rattle.som_values.specs.Shown.{shown, showing, key_of, place_of}
use Rattle.som_values.specs.Stored.{IsOne}
use Rattle.som_values.proofs.Keeping.{no_some, same_some}
use Rattle.som_interp_state.specs.Own.{IsOwn}
use Rattle.som_interp_state.specs.Settings.{Linked}
use Rattle.som_interp_state.specs.Stored.{HoldVariables, HoldsStatic}
use Rattle.som_interp_state.proofs.Objects.{instance_of, read_of, read_zero}
use Rattle.som_interp_state.specs.Holding.{IsUsable}
use Rattle.som_interp_objects.specs.Acting.{Acts, IsActing, me_value}
use Rattle.som_interp_objects.specs.Cells.{IsAt}
use Rattle.som_interp_objects.specs.Objects.{IsWhole, IsOfObject}
use Rattle.som_interp_objects.specs.Statics.{Statics, cells_of, IsWholeClass, IsOfCells, IsOfClassObject}

pub object_in : (made : ClassKey → Bool) (ts : List Instance) (i : ℕ) (t : Instance) → slice_get ts i ≡ Some t → ObjectsIn made ts → InstanceIn made t
object_in made [] zero t e os = absurd (no_some e)
object_in made [] (suc i) t e os = absurd (no_some e)
object_in made (x ∷ ts) zero t e os = subst (InstanceIn made) (same_some e) os.0
object_in made (x ∷ ts) (suc i) t e os = object_in made ts i t e os.1

-- whether the meaning's object is live
abbrev live_in : Option Instance → Bool
live_in o = elim o [ None ↦ false | Some t ↦ t.live ]

not_live : (keys : List ClassKey) (t : Option Instance) → IsOne keys None t → live_in t ≡ false
not_live keys (Some u) one = one
not_live keys None one = absurd one

abbrev O : ObjRef → Option Reference
O r = Some (references.Object r)

module _ (l : Linked) (made : ClassKey → Bool) (xs : List ℕ) (os : Objects) (statics : Statics) (h : Heap) where
  module _ (r : ObjRef) (acts : Acts l made os statics (O r) xs h) where
    -- an object of the task that is live, in the heap
    pub there : (o : Live) → live_at os r.serial ≡ Some o → (u : Instance) × (slice_get h.objects (place_of xs r.serial) ≡ Some u) × IsOne l.keys (Some o) (Some u)
    there o live = instance_of l xs os h r.serial o live acts.self.own.0 acts.holding.heap.holds

    vars_there : (o : Live) → live_at os r.serial ≡ Some o → (u : Instance) × HoldVariables l xs os (l.variables o.class) o.cells u.variables
    vars_there o live = (let u = there o live in (u.0, (acts.holding.heap.objects r.serial o u.0 acts.self.own.0 live u.1).variables))

    cell_there : (o : Live) (c : ClassKey) (n p : ℕ) → live_at os r.serial ≡ Some o → l.variables o.class c n ≡ Some p → p < length o.cells
    cell_there o c n p live at = (let v = (vars_there o live).1.held c n p at in slice_get_within o.cells p v.0 v.1)

    made_there : (o : Live) → live_at os r.serial ≡ Some o → made (key_of l.keys o.class) ≡ true
    made_there o live = (let u = there o live in subst (λ k. made k ≡ true) u.2.1 (object_in made h.objects (place_of xs r.serial) u.0 u.1 acts.holding.made_of.objects).class)

    pub live_there : (o : Live) → live_at os r.serial ≡ Some o → is_live h (Object (place_of xs r.serial)) ≡ true
    live_there o live = (let u = there o live in ap live_in u.1 ∙ u.2.0)

    pub gone_there : IsGone os r → is_live h (Object (place_of xs r.serial)) ≡ false
    gone_there gone = not_live l.keys (slice_get h.objects (place_of xs r.serial)) (subst (λ o. IsOne l.keys o (slice_get h.objects (place_of xs r.serial))) gone (acts.holding.heap.holds.by r.serial acts.self.own.0))

    pub whole_here : IsWhole l made os r
    whole_here = record { numbered = λ o live. (there o live).2.2; made_of = made_there; cells = cell_there }

    read_gone : (c : ClassKey) (n : ℕ) → IsGone os r → read c n (To (Object (place_of xs r.serial))) h ≡ Err faults.Freed
    read_gone c n gone =
        let freed : Tried Value = Err faults.Freed in
        ap (λ (b : Bool). if b then Ok (variables_of h (Object (place_of xs r.serial)) c n) else freed) (gone_there gone)

    cell_means : (o : Live) (c : ClassKey) (n : ℕ) (cell : Cell) (q : Option ℕ) → live_at os r.serial ≡ Some o → l.variables o.class c n ≡ q → IsAt q o.cells (zeros l.world c n) cell
        → read c n (To (Object (place_of xs r.serial))) h ≡ Ok (shown (showing l.keys xs) cell)
    cell_means o c n cell (Some p) live at is = read_of l xs os h r o c n p cell live at is acts.self.own.0 acts.holding.heap
    cell_means o c n cell None live at is = read_zero l xs os h r o c n live at acts.self.own.0 acts.holding.heap ∙ ap (λ x. Ok x) (sym (is.means (showing l.keys xs)))

    cell_own : (o : Live) (c : ClassKey) (n : ℕ) (cell : Cell) (q : Option ℕ) → live_at os r.serial ≡ Some o → IsAt q o.cells (zeros l.world c n) cell → IsOwn (showing l.keys xs) os cell
    cell_own o c n cell (Some p) live is = (vars_there o live).1.own p cell is
    cell_own o c n cell None live is = is.own (showing l.keys xs) os

    pub object_means : (c : ClassKey) (n : ℕ) (answer : Result Cell Stopped) → IsOfObject l os r c n answer → Answers (showing l.keys xs) answer (read c n (To (Object (place_of xs r.serial))) h)
    object_means c n (Ok cell) is = cell_means is.0 c n cell (l.variables is.0.class c n) is.1 refl is.2
    object_means c n (Err (stops.Fault f)) is = read_gone c n is.0 ∙ ap (λ x. Err x) (sym is.1)
    object_means c n (Err stops.NoMemory) is = tt

    object_own : (c : ClassKey) (n : ℕ) (cell : Cell) → IsOfObject l os r c n (Ok cell) → IsOwn (showing l.keys xs) os cell
    object_own c n cell is = cell_own is.0 c n cell (l.variables is.0.class c n) is.1 is.2

    pub object_usable : (c : ClassKey) (n : ℕ) (answer : Result Cell Stopped) → IsOfObject l os r c n answer → IfOk answer (IsUsable l made xs os)
    object_usable c n (Ok cell) is = record {
      own = object_own c n cell is;
      made_of = subst (λ (t : Tried Value). within.Answers t (ValueIn made)) (object_means c n (Ok cell) is) (read_in made c n (To (Object (place_of xs r.serial))) h acts.holding.made_of);
    }
    object_usable c n (Err e) is = tt

  -- ---- class objects

  module _ (of : ℕ) (acts : Acts l made os statics (Some (references.Class of)) xs h) where
    holds : HoldsStatic l xs os (l.statics of) (cells_of statics of) (h.statics (key_of l.keys of))
    holds = acts.holding.class_objects.by of acts.self.own.0

    pub whole_class : IsWholeClass l statics of
    whole_class cs c n p e at =
        let held : HoldVariables l xs os (l.statics of) cs (h.statics (key_of l.keys of)) = subst (λ o. HoldsStatic l xs os (l.statics of) o (h.statics (key_of l.keys of))) e holds in
        let v = held.held c n p at in slice_get_within cs p v.0 v.1

    static_at : (cs : List Cell) (c : ClassKey) (n : ℕ) (cell : Cell) (q : Option ℕ) → HoldVariables l xs os (l.statics of) cs (h.statics (key_of l.keys of)) → l.statics of c n ≡ q → IsAt q cs (zeros l.world c n) cell
        → h.statics (key_of l.keys of) c n ≡ shown (showing l.keys xs) cell
    static_at cs c n cell (Some p) held at is = (let v = held.held c n p at in v.2 ∙ ap (shown (showing l.keys xs)) (same_some (sym v.1 ∙ is)))
    static_at cs c n cell None held at is = held.others c n at ∙ sym (is.means (showing l.keys xs))

    own_at : (cs : List Cell) (c : ClassKey) (n : ℕ) (cell : Cell) (q : Option ℕ) → HoldVariables l xs os (l.statics of) cs (h.statics (key_of l.keys of)) → IsAt q cs (zeros l.world c n) cell → IsOwn (showing l.keys xs) os cell
    own_at cs c n cell (Some p) held is = held.own p cell is
    own_at cs c n cell None held is = is.own (showing l.keys xs) os

    static_in : (o : Option (List Cell)) (c : ClassKey) (n : ℕ) (cell : Cell) → HoldsStatic l xs os (l.statics of) o (h.statics (key_of l.keys of)) → IsOfCells l o of c n cell
        → (h.statics (key_of l.keys of) c n ≡ shown (showing l.keys xs) cell) × IsOwn (showing l.keys xs) os cell
    static_in (Some cs) c n cell held is = (static_at cs c n cell (l.statics of c n) held refl is, own_at cs c n cell (l.statics of c n) held is)
    static_in None c n cell held is = (held c n ∙ sym (is.means (showing l.keys xs)), is.own (showing l.keys xs) os)

    pub class_means : (c : ClassKey) (n : ℕ) (cell : Cell) → IsOfClassObject l statics of c n cell → Answers (showing l.keys xs) (Ok cell) (read c n (To (ClassObject (key_of l.keys of))) h)
    class_means c n cell is = ap (λ (v : Value). Ok v) (static_in (cells_of statics of) c n cell holds is).0

    pub class_usable : (c : ClassKey) (n : ℕ) (cell : Cell) → IsOfClassObject l statics of c n cell → IsUsable l made xs os cell
    class_usable c n cell is = record {
      own = (static_in (cells_of statics of) c n cell holds is).1;
      made_of = subst (λ (t : Tried Value). within.Answers t (ValueIn made)) (class_means c n cell is) (read_in made c n (To (ClassObject (key_of l.keys of))) h acts.holding.made_of);
    }

-- ---- what is read through a reference to an object, or to a class object

module _ (l : Linked) (made : ClassKey → Bool) (os : Objects) (statics : Statics) (me : Reference) where
  module _ (r : ObjRef) (is : me ≡ references.Object r) where
    pub on_object : (xs : List ℕ) (h : Heap) → Acts l made os statics (Some me) xs h → Acts l made os statics (O r) xs h
    on_object xs h a = subst (λ x. Acts l made os statics (Some x) xs h) is a

    pub whole_of : IsActing l made os statics (Some me) → IsWhole l made os r
    whole_of a = whole_here l made a.0 os statics a.1 r (on_object a.0 a.1 a.2)

    pub reads_object : (c : ClassKey) (n : ℕ) (answer : Result Cell Stopped) → IsOfObject l os r c n answer → (xs : List ℕ) (h : Heap) → Acts l made os statics (Some me) xs h → Answers (showing l.keys xs) answer (read c n (me_value l xs (Some me)) h)
    reads_object c n answer of xs h a = subst (λ x. Answers (showing l.keys xs) answer (read c n (me_value l xs (Some x)) h)) (sym is) (object_means l made xs os statics h r (on_object xs h a) c n answer of)

    pub object_gives : (c : ClassKey) (n : ℕ) (answer : Result Cell Stopped) → IsOfObject l os r c n answer → (xs : List ℕ) (h : Heap) → Acts l made os statics (Some me) xs h → IfOk answer (IsUsable l made xs os)
    object_gives c n answer of xs h a = object_usable l made xs os statics h r (on_object xs h a) c n answer of

  module _ (of : ℕ) (is : me ≡ references.Class of) where
    pub on_class : (xs : List ℕ) (h : Heap) → Acts l made os statics (Some me) xs h → Acts l made os statics (Some (references.Class of)) xs h
    on_class xs h a = subst (λ x. Acts l made os statics (Some x) xs h) is a

    pub class_whole : IsActing l made os statics (Some me) → IsWholeClass l statics of
    class_whole a = whole_class l made a.0 os statics a.1 of (on_class a.0 a.1 a.2)

    pub reads_class : (c : ClassKey) (n : ℕ) (cell : Cell) → IsOfClassObject l statics of c n cell → (xs : List ℕ) (h : Heap) → Acts l made os statics (Some me) xs h → Answers (showing l.keys xs) (Ok cell) (read c n (me_value l xs (Some me)) h)
    reads_class c n cell has xs h a = subst (λ x. Answers (showing l.keys xs) (Ok cell) (read c n (me_value l xs (Some x)) h)) (sym is) (class_means l made xs os statics h of (on_class xs h a) c n cell has)

    pub class_gives : (c : ClassKey) (n : ℕ) (cell : Cell) → IsOfClassObject l statics of c n cell → (xs : List ℕ) (h : Heap) → Acts l made os statics (Some me) xs h → IsUsable l made xs os cell
    class_gives c n cell has xs h a = class_usable l made xs os statics h of (on_class xs h a) c n cell has
