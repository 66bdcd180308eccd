-- An object is found by its serial, and stands in its slot.
use Rattle.std.proofs.Common.{◌≡◌, ℕ, zero, suc, ◌+◌, ◌<◌, ◌≤◌, inl, inr, ◌==◌, Bool, true, false, if◌then◌else◌, List, [], ◌∷◌, ◌++◌, length, Option, Some, None, slice_get, refl, sym, ap, ◌∙◌, subst, arith, true≢false, length-append}
use Rattle.std.specs.Option.{option_map, is_some}
use Rattle.std.proofs.lemmas.Bool.{eqb-true, eq-eqb, ne_eqb, cases_lt}
use Rattle.som_objects.proofs.Lists.{no_some, same_some, cases_option, get_left, get_last}
use Rattle.som_objects.specs.Objects.{Live, there, live_at, IsKnown}
use Rattle.som_objects.specs.Slots.{live_by, live_from, object_of, objects, slot_at, IsStore, as_live, live_slot}
use Rattle.som_objects.specs.declared.slot.Slot.{Slot}
use Rattle.som_objects.specs.declared.object_ref.ObjRef.{ObjRef}

pub many : (slots : List (Option Slot)) (n : ℕ) → length (objects slots n) ≡ n
many slots zero = refl
many slots (suc n) = length-append (objects slots n) (object_of slots (suc n) ∷ []) ∙ (let e = many slots n in omega (arith, e))

pub objects_at : (slots : List (Option Slot)) (n s : ℕ) → s < n → slice_get (objects slots n) s ≡ Some (object_of slots (suc s))
objects_at slots zero s lt = absurd (omega arith)
objects_at slots (suc n) s lt = elim (cases_lt s n) [
  | inl h ↦ get_left (objects slots n) (object_of slots (suc n) ∷ []) s (omega (arith, many slots n)) ∙ objects_at slots n s h
  | inr ge ↦ (let e : n ≡ s = omega arith in subst (λ i. slice_get (objects slots n ++ object_of slots (suc n) ∷ []) i ≡ Some (object_of slots (suc i))) e
      (subst (λ i. slice_get (objects slots n ++ object_of slots (suc n) ∷ []) i ≡ Some (object_of slots (suc n))) (many slots n) (get_last (objects slots n) (object_of slots (suc n)))))
]

omega_move : (k i : ℕ) → suc k + i ≡ k + suc i
omega_move k i = omega arith

add_none : (k : ℕ) → k ≡ k + 0
add_none k = omega arith

none_add : (k : ℕ) → 0 + k ≡ k
none_add k = omega arith

found_from : (slots : List (Option Slot)) (k i : ℕ) (o : Slot) → slot_at slots i ≡ Some o → ((j : ℕ) (q : Slot) → slot_at slots j ≡ Some q → q.serial ≡ o.serial → j ≡ i) → live_from k slots o.serial ≡ Some (as_live (k + i) o)
found_from [] k i o is one = absurd (no_some is)
found_from (None ∷ os) k zero o is one = absurd (no_some is)
found_from (None ∷ os) k (suc i) o is one = found_from os (suc k) i o is (λ j q e s. let w = one (suc j) q e s in omega (arith, w)) ∙ ap (λ n. Some (as_live n o)) (omega_move k i)
found_from (Some p ∷ os) k zero o is one = ap (λ b. live_by b k p (live_from (suc k) os o.serial)) (eq-eqb p.serial o.serial (ap (λ (x : Slot). x.serial) (same_some is))) ∙ ap (λ (x : Slot). Some (as_live k x)) (same_some is) ∙ ap (λ n. Some (as_live n o)) (add_none k)
found_from (Some p ∷ os) k (suc i) o is one = ap (λ b. live_by b k p (live_from (suc k) os o.serial)) (ne_eqb p.serial o.serial (λ s. let w = one 0 p refl s in omega (arith, w)))
    ∙ found_from os (suc k) i o is (λ j q e s. let w = one (suc j) q e s in omega (arith, w)) ∙ ap (λ n. Some (as_live n o)) (omega_move k i)

back_by : (b : Bool) (k s : ℕ) (p : Slot) (os : List (Option Slot)) (l : Live) → (p.serial == s) ≡ b → (live_from (suc k) os s ≡ Some l → (i : ℕ) × (o : Slot) × (slot_at os i ≡ Some o) × (o.serial ≡ s) × (l ≡ as_live (suc k + i) o))
    → live_by b k p (live_from (suc k) os s) ≡ Some l → (i : ℕ) × (o : Slot) × (slot_at (Some p ∷ os) i ≡ Some o) × (o.serial ≡ s) × (l ≡ as_live (k + i) o)
back_by true k s p os l q f e = (0, p, refl, eqb-true p.serial s q, sym (same_some e) ∙ ap (λ n. as_live n p) (add_none k))
back_by false k s p os l q f e = let w = f e in (suc w.0, w.1, w.2, w.3, w.4 ∙ ap (λ n. as_live n w.1) (omega_move k w.0))

back_from : (slots : List (Option Slot)) (k s : ℕ) (l : Live) → live_from k slots s ≡ Some l → (i : ℕ) × (o : Slot) × (slot_at slots i ≡ Some o) × (o.serial ≡ s) × (l ≡ as_live (k + i) o)
back_from [] k s l e = absurd (no_some e)
back_from (None ∷ os) k s l e = let w = back_from os (suc k) s l e in (suc w.0, w.1, w.2, w.3, w.4 ∙ ap (λ n. as_live n w.1) (omega_move k w.0))
back_from (Some p ∷ os) k s l e = back_by (p.serial == s) k s p os l refl (back_from os (suc k) s l) e

pub found : (slots : List (Option Slot)) (made : ℕ) → IsStore slots made → (k : ℕ) (o : Slot) → slot_at slots k ≡ Some o → object_of slots o.serial ≡ Some (as_live k o)
unfolding object_of
found slots made st k o is = found_from slots 0 k o is (λ j q e s. st.apart j k q o e is s) ∙ ap (λ n. Some (as_live n o)) (none_add k)

pub back : (slots : List (Option Slot)) (s : ℕ) (l : Live) → object_of slots s ≡ Some l → (i : ℕ) × (o : Slot) × (slot_at slots i ≡ Some o) × (o.serial ≡ s) × (l ≡ as_live i o)
unfolding object_of
back slots s l e = let w = back_from slots 0 s l e in (w.0, w.1, w.2, w.3, w.4 ∙ ap (λ n. as_live n w.1) (none_add w.0))

none_first : (slots : List (Option Slot)) (made : ℕ) → IsStore slots made → object_of slots 0 ≡ None
none_first slots made st = elim (cases_option (object_of slots 0)) [
  | inl e ↦ e
  | inr w ↦ (let k = back slots 0 w.0 w.1 in let z = (st.serials k.0 k.1 k.2).0 in absurd (omega (arith, z, k.3)))
]

pub at_serial : (slots : List (Option Slot)) (made s : ℕ) → IsStore slots made → s ≤ made → live_at (objects slots made) s ≡ object_of slots s
at_serial slots made zero st le = sym (none_first slots made st)
at_serial slots made (suc s) st le = ap there (objects_at slots made s (omega arith))

not_here : (slots : List (Option Slot)) (made : ℕ) → IsStore slots made → (r : ObjRef) (q : Slot) → object_of slots r.serial ≡ None → slot_at slots r.key ≡ Some q → (b : Bool) → (q.serial == r.serial) ≡ b
    → None ≡ option_map (as_live r.key) (if b then Some q else None)
not_here slots made st r q e f true k = absurd (no_some (sym e ∙ ap (object_of slots) (sym (eqb-true q.serial r.serial k)) ∙ found slots made st r.key q f))
not_here slots made st r q e f false k = refl

seen_by : (slots : List (Option Slot)) (made : ℕ) → IsStore slots made → (r : ObjRef) → (o : Option Live) → object_of slots r.serial ≡ o → ((l : Live) → o ≡ Some l → l.key ≡ r.key) → (q : Option Slot) → slot_at slots r.key ≡ q
    → o ≡ option_map (as_live r.key) (live_slot q r.serial)
seen_by slots made st r (Some l) e knows q f =
    let w = back slots r.serial l e in
    let k : w.0 ≡ r.key = ap (λ (x : Live). x.key) (sym w.4) ∙ knows l refl in
    let g : q ≡ Some w.1 = sym f ∙ ap (slot_at slots) (sym k) ∙ w.2 in
    ap Some (w.4 ∙ ap (λ n. as_live n w.1) k) ∙ sym (ap (λ x. option_map (as_live r.key) (live_slot x r.serial)) g ∙ ap (λ (b : Bool). option_map (as_live r.key) (if b then Some w.1 else None)) (eq-eqb w.1.serial r.serial w.3))
seen_by slots made st r None e knows None f = refl
seen_by slots made st r None e knows (Some q) f = not_here slots made st r q e f (q.serial == r.serial) refl

-- the object, as its slot shows it
pub sees : (slots : List (Option Slot)) (made : ℕ) → IsStore slots made → (r : ObjRef) → IsKnown (objects slots made) r → live_at (objects slots made) r.serial ≡ option_map (as_live r.key) (live_slot (slot_at slots r.key) r.serial)
sees slots made st r k =
    let e = at_serial slots made r.serial st (omega (arith, k.made, many slots made)) in
    e ∙ seen_by slots made st r (object_of slots r.serial) refl (λ l is. k.key l (e ∙ is)) (slot_at slots r.key) refl

by_same : (p : Slot) (s : ℕ) (o : Slot) (b : Bool) → (p.serial == s) ≡ b → (if b then Some p else None) ≡ Some o → (Some p ≡ Some o) × (o.serial ≡ s)
by_same p s o true q e = (e, ap (λ (x : Slot). x.serial) (sym (same_some e)) ∙ eqb-true p.serial s q)
by_same p s o false q e = absurd (no_some e)

some_slot : (q : Option Slot) (s : ℕ) (o : Slot) → live_slot q s ≡ Some o → (q ≡ Some o) × (o.serial ≡ s)
some_slot None s o e = absurd (no_some e)
some_slot (Some p) s o e = by_same p s o (p.serial == s) refl e

-- a live object, in its slot
pub record InSlot (slots : List (Option Slot)) (made : ℕ) (r : ObjRef) (o : Slot) : Type 0 where
  pub at : slot_at slots r.key ≡ Some o
  pub serial : o.serial ≡ r.serial
  pub live : live_at (objects slots made) r.serial ≡ Some (as_live r.key o)

pub in_slot : (slots : List (Option Slot)) (made : ℕ) → IsStore slots made → (r : ObjRef) → IsKnown (objects slots made) r → (o : Slot) → live_slot (slot_at slots r.key) r.serial ≡ Some o → InSlot slots made r o
in_slot slots made st r k o e = let w = some_slot (slot_at slots r.key) r.serial o e in record { at = w.0; serial = w.1; live = sees slots made st r k ∙ ap (option_map (as_live r.key)) e }

pub no_slot : (slots : List (Option Slot)) (made : ℕ) → IsStore slots made → (r : ObjRef) → IsKnown (objects slots made) r → live_slot (slot_at slots r.key) r.serial ≡ None → live_at (objects slots made) r.serial ≡ None
no_slot slots made st r k e = sees slots made st r k ∙ ap (option_map (as_live r.key)) e

held_by : (o : Slot) (s : ℕ) (b : Bool) → is_some (if b then Some o else None) ≡ true → (if b then Some o else None) ≡ Some o
held_by o s true e = refl
held_by o s false e = absurd (true≢false (sym e))

pub is_held : (q : Option Slot) (s : ℕ) (o : Slot) → q ≡ Some o → is_some (live_slot q s) ≡ true → live_slot q s ≡ Some o
is_held None s o is e = absurd (no_some is)
is_held (Some p) s o is e = held_by p s (p.serial == s) e ∙ is

pub not_held : (q : Option Slot) → is_some q ≡ false → q ≡ None
not_held None e = refl
not_held (Some p) e = absurd (true≢false e)

pub held_here : (p : Slot) (s : ℕ) → p.serial ≡ s → live_slot (Some p) s ≡ Some p
held_here p s e = ap (λ (b : Bool). if b then Some p else None) (eq-eqb p.serial s e)
