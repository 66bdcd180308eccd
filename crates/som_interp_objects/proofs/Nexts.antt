-- A new object is the heap's next.
use Rattle.std.proofs.Common.{◌≡◌, ℕ, zero, suc, ◌⊎◌, inl, inr, Bool, true, false, if◌then◌else◌, List, [], ◌∷◌, ◌++◌, length, Some, None, slice_get, refl, sym, ap, subst, ◌∙◌, arith, length-append}
use Rattle.std.proofs.lemmas.Option.{slice_get_within}
use Rattle.som_model.specs.declared.key.ClassKey.{ClassKey}
use Rattle.som_semantics.specs.Acts.{new_instance, with_one}
use Rattle.som_semantics.specs.State.{Value, Heap, Instance, zeros}
use Rattle.som_objects.specs.declared.cell.Cell.{Cell}
use Rattle.som_objects.specs.declared.cell.Cell.TheVariants as cells
use Rattle.som_objects.specs.declared.object_ref.ObjRef.{ObjRef}
use Rattle.som_objects.specs.Objects.{Objects, IsKnown, KeepsKnown, Makes}
use Rattle.som_objects.proofs.Known.{keeps_made}
use Rattle.som_machine_laws.proofs.Within.{with_one_in}
use Rattle.som_values.specs.Shown.{key_of, place_of, shown, showing, IsNumbered}
use Rattle.som_values.specs.Variables.{Places}
use Rattle.som_values.proofs.Places.{shown_later}
use Rattle.som_values.proofs.Keeping.{no_some, same_some, get_left, get_last, seen_later, kept_later}
use Rattle.som_interp_state.specs.Own.{IsOwn}
use Rattle.som_interp_state.specs.Settings.{Linked}
use Rattle.som_interp_state.specs.Stored.{HoldVariables, HoldsTarget, IsInstance}
use Rattle.som_interp_state.proofs.Objects.{heap_made, serials_added}
use Rattle.som_interp_state.proofs.Classes.{statics_later}
use Rattle.som_interp_state.specs.Asked.{is_proxy}
use Rattle.som_interp_state.specs.Holding.{Holding, IsUsable}
use Rattle.som_interp_objects.specs.Cells.{AreNew}
use Rattle.som_interp_objects.specs.Statics.{Statics}
use Rattle.som_interp_objects.specs.Making.{IsNext, AreWith}

-- what stands where one was added stood there, or is that one
stood : {X : Type 0} (xs : List X) (y : X) (i : ℕ) (x : X) → slice_get (xs ++ y ∷ []) i ≡ Some x → (slice_get xs i ≡ Some x) ⊎ (y ≡ x)
stood [] y zero x e = inr (same_some e)
stood [] y (suc i) x e = absurd (no_some e)
stood (z ∷ xs) y zero x e = inl e
stood (z ∷ xs) y (suc i) x e = stood xs y i x e

-- a cell after those of variables
with_last : (l : Linked) (xs : List ℕ) (os : Objects) (places : Places) (new : List Cell) (vars : ClassKey → ℕ → Value) (c : Cell) → IsOwn (showing l.keys xs) os c → HoldVariables l xs os places new vars → HoldVariables l xs os places (new ++ c ∷ []) vars
with_last l xs os places new vars c own held = record {
  held = λ k n p at. (let v = held.held k n p at in (v.0, get_left new (c ∷ []) p (slice_get_within new p v.0 v.1) ∙ v.1, v.2));
  others = held.others;
  own = λ p d e. elim (stood new c p d e) [ inl old ↦ held.own p d old | inr last ↦ subst (IsOwn (showing l.keys xs) os) last own ];
}

module _ (l : Linked) (xs ys : List ℕ) (os os' : Objects) (keeps : KeepsKnown os os') (class : ℕ) (target : Cell) (own : IsOwn (showing l.keys xs) os target) where
  abbrev v : Value
  v = shown (showing l.keys xs) target

  own' : IsOwn (showing l.keys (xs ++ ys)) os' target
  own' = (seen_later l.keys xs ys target own.0, kept_later os os' target keeps own.1)

  cells_held : (b : Bool) (new : List Cell) → HoldVariables l (xs ++ ys) os' (l.variables class) new (zeros l.world) → HoldVariables l (xs ++ ys) os' (l.variables class) (if b then new ++ target ∷ [] else new) (zeros l.world)
  cells_held true new held = with_last l (xs ++ ys) os' (l.variables class) new (zeros l.world) target own' held
  cells_held false new held = held

  target_held : (b : Bool) (new : List Cell) → (b ≡ false → target ≡ cells.Nil) → HoldsTarget l (xs ++ ys) os' (if b then Some (length new) else None) (if b then new ++ target ∷ [] else new) v
  target_held true new nil = (target, get_last new target, sym (shown_later l.keys xs ys target own.0))
  target_held false new nil = ap (shown (showing l.keys xs)) (nil refl)

  -- the new object is an instance with zero values
  instance_new : (key : ℕ) (new : List Cell) (t : Instance) → t ≡ new_instance l.world (key_of l.keys class) v → (is_proxy (key_of l.keys class) ≡ false → target ≡ cells.Nil) → AreNew l class new
      → IsInstance l (xs ++ ys) os' (record { key = key; class = class; cells = if is_proxy (key_of l.keys class) then new ++ target ∷ [] else new }) (new_instance l.world (key_of l.keys class) v)
  instance_new key new t e nil are = record {
    variables = cells_held (is_proxy (key_of l.keys class)) new (are.zero (xs ++ ys) os');
    target = subst (λ q. HoldsTarget l (xs ++ ys) os' q (if is_proxy (key_of l.keys class) then new ++ target ∷ [] else new) v) (sym are.target) (target_held (is_proxy (key_of l.keys class)) new nil);
  }

-- the object has the next place
next_place : (l : Linked) (made : ClassKey → Bool) (xs : List ℕ) (os os' : Objects) (statics : Statics) (h : Heap) (r : ObjRef) (class : ℕ) (held : List Cell) → Makes os os' r class held → Holding l made xs os statics h → place_of (xs ++ r.serial ∷ []) r.serial ≡ length h.objects
next_place l made xs os os' statics h r class held m holding =
    (serials_added xs os os' r class held holding.serials m).apart (length xs) r.serial (get_last xs r.serial) ∙ sym holding.heap.holds.many

pub is_next : (l : Linked) (made : ClassKey → Bool) (class : ℕ) (target : Cell) (xs : List ℕ) (os os' : Objects) (r : ObjRef) (held : List Cell)
    → IsNumbered l.keys class → made (key_of l.keys class) ≡ true → (is_proxy (key_of l.keys class) ≡ false → target ≡ cells.Nil) → AreWith l class target held → Makes os os' r class held → IsKnown os' r
    → (statics : Statics) (h : Heap) → Holding l made xs os statics h → IsUsable l made xs os target → IsNext l made class target xs os' statics h r
is_next l made class target xs os os' r held numbered is_made nil with_target m known statics h holding usable =
    let k = key_of l.keys class in
    let v = shown (showing l.keys xs) target in
    let t = new_instance l.world k v in
    let ys : List ℕ = r.serial ∷ [] in
    let keeps : KeepsKnown os os' = keeps_made os os' r class held m in
    let place : place_of (xs ++ ys) r.serial ≡ length h.objects = next_place l made xs os os' statics h r class held m holding in
    let one : IsInstance l (xs ++ ys) os' (record { key = r.key; class = class; cells = held }) t =
    subst (λ (cs : List Cell). IsInstance l (xs ++ ys) os' (record { key = r.key; class = class; cells = cs }) t) (sym with_target.2) (instance_new l xs ys os os' keeps class target usable.own r.key with_target.0 t refl nil with_target.1) in
    record {
      holding = record {
        serials = serials_added xs os os' r class held holding.serials m;
        heap = heap_made l xs os os' h (with_one l.world k v h) r class held t m refl refl refl numbered holding.serials one holding.heap;
        class_objects = statics_later l xs ys os os' statics h (with_one l.world k v h) keeps (λ x. refl) holding.class_objects;
        made_of = with_one_in made l.world k v is_made usable.made_of h holding.made_of;
      };
      place = place;
      own = (omega (arith, place, holding.heap.holds.many, length-append xs ys), known);
    }
