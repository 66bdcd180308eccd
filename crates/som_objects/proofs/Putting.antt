-- One cell of one object's slot has changed.
use Rattle.std.proofs.Common.{◌≡◌, ℕ, ◌<◌, List, length, Option, Some, None, Result, Ok, Err, OnOk, OnErr, slice_set, sym, ap, ◌∙◌, subst, arith}
use Rattle.std.proofs.lemmas.List.{get_or-set_same, get_or-set_other, get_or_past}
use Rattle.som_objects.proofs.Changing.{written, kept_store}
use Rattle.som_objects.proofs.Found.{held_here, in_slot, no_slot}
use Rattle.som_objects.proofs.Known.{keeps_written}
use Rattle.slab.specs.Slab.{Slab}
use Rattle.som_objects.specs.Objects.{Objects, IsGone, IsKnown, KeepsKnown, Writes}
use Rattle.som_objects.specs.Slots.{live_slot, objects, slot_at, IsStore, as_live, Puts}
use Rattle.som_objects.specs.declared.cell.Cell.{Cell}
use Rattle.som_objects.specs.declared.object_ref.ObjRef.{ObjRef}
use Rattle.som_objects.specs.declared.slot.Slot.{Slot}

-- a slot with another cell is put in the place of the object's own
pub put_slot : (slots : List (Option Slot)) (r : ObjRef) (was is : Slot) (place : ℕ) (cell : Cell) → slot_at slots r.key ≡ Some was → was.serial ≡ r.serial → is.serial ≡ was.serial → is.class ≡ was.class → is.cells.items ≡ slice_set was.cells.items place cell
    → Puts slots (slice_set slots r.key (Some is)) r place cell
put_slot slots r was is place cell at serial same class cells =
    let within : r.key < length slots = grind (arith, get_or_past, at) in
    record {
      was = was;
      is = is;
      found = rw at (held_here was r.serial serial);
      at = get_or-set_same slots r.key (Some is) None within;
      serial = same;
      class = class;
      cells = cells;
      others = λ k other. get_or-set_other slots r.key k (Some is) None other;
    }

-- the store is in order still
pub put_store : (old new : List (Option Slot)) (made : ℕ) (r : ObjRef) (place : ℕ) (cell : Cell) → IsStore old made → IsKnown (objects old made) r → Puts old new r place cell → IsStore new made
put_store old new made r place cell st known p =
    let w = in_slot old made st r known p.was p.found in
    kept_store old new made r.key p.was p.is st w.at p.at p.serial p.others

-- the object's cell has changed, and all else stays
pub put_written : (old new : List (Option Slot)) (made : ℕ) (r : ObjRef) (place : ℕ) (cell : Cell) → IsStore old made → IsKnown (objects old made) r → Puts old new r place cell → Writes (objects old made) (objects new made) r place cell
put_written old new made r place cell st known p =
    let w = in_slot old made st r known p.was p.found in
    let f = written old new made r.key p.was p.is st (put_store old new made r place cell st known p) w.at p.at p.serial p.others in
    (as_live r.key p.was, w.live, rw (← w.serial, ← p.cells, ← p.class) f)

on_ok : {T E : Type 0} {A B : Type 0} (result : Result T E) → (A → B) → OnOk result A → OnOk result B
on_ok (Ok x) f a = f a
on_ok (Err e) f a = tt

on_err : {T E : Type 0} {A B : Type 0} (result : Result T E) → (A → B) → OnErr result A → OnErr result B
on_err (Ok x) f a = tt
on_err (Err e) f a = f a

on_both : {T E : Type 0} {A B C : Type 0} (result : Result T E) → (A → C) → (B → C) → OnOk result A → OnErr result B → C
on_both (Ok x) f g a b = f a
on_both (Err e) f g a b = g b

module _ {T E : Type 0} (old new : Slab Slot) (made : ℕ) (os : Objects) (r : ObjRef) (place : ℕ) (cell : Cell) (result : Result T E) (view : objects old.slots made ≡ os) (st : IsStore old.slots made) (known : IsKnown os r) where
  known_here : IsKnown (objects old.slots made) r
  known_here = subst (λ x. IsKnown x r) (sym view) known

  wrote : Puts old.slots new.slots r place cell → Writes os (objects new.slots made) r place cell
  wrote p = subst (λ x. Writes x (objects new.slots made) r place cell) view (put_written old.slots new.slots made r place cell st known_here p)

  pub written_where_live : OnOk result (Puts old.slots new.slots r place cell) → OnOk result (Writes os (objects new.slots made) r place cell)
  written_where_live p = on_ok {B = Writes os (objects new.slots made) r place cell} result wrote p

  gone_here : live_slot (slot_at old.slots r.key) r.serial ≡ None → IsGone os r
  gone_here e = subst (λ x. IsGone x r) view (no_slot old.slots made st r known_here e)

  pub gone_where_not : OnErr result (live_slot (slot_at old.slots r.key) r.serial ≡ None) → OnErr result (IsGone os r)
  gone_where_not e = on_err {B = IsGone os r} result gone_here e

  same_kept : new ≡ old → KeepsKnown os (objects new.slots made)
  same_kept e = λ other is. subst (λ x. IsKnown x other) (sym view ∙ ap (λ (s : Slab Slot). objects s.slots made) (sym e)) is

  pub all_known : OnOk result (Puts old.slots new.slots r place cell) → OnErr result (new ≡ old) → KeepsKnown os (objects new.slots made)
  all_known p e = on_both {C = KeepsKnown os (objects new.slots made)} result (λ q. keeps_written _ _ r place cell (wrote q)) same_kept p e
