-- What the objects are once one slot has changed.
use Rattle.std.proofs.Common.{◌≡◌, ◌≢◌, ℕ, zero, suc, ◌+◌, ◌-◌, ◌<◌, ◌≤◌, inl, inr, List, [], ◌∷◌, ◌++◌, length, Option, Some, None, slice_set, refl, sym, ap, ◌∙◌, arith}
use Rattle.std.proofs.lemmas.Bool.{cases_lt, cases_eq}
use Rattle.std.proofs.lemmas.List.{set_at, set-append_left}
use Rattle.som_objects.proofs.Lists.{no_some, same_some, cases_option}
use Rattle.som_objects.specs.Objects.{Live}
use Rattle.som_objects.specs.Slots.{object_of, objects, slot_at, IsStore, as_live}
use Rattle.som_objects.specs.declared.slot.Slot.{Slot}
use Rattle.som_objects.proofs.Found.{many, found, back}

-- two stores with the same slots of a serial have the same object
pub same_object : (a b : List (Option Slot)) (m n : ℕ) → IsStore a m → IsStore b n → (s : ℕ) → ((k : ℕ) (o : Slot) → o.serial ≡ s → slot_at a k ≡ Some o → slot_at b k ≡ Some o) → ((k : ℕ) (o : Slot) → o.serial ≡ s → slot_at b k ≡ Some o → slot_at a k ≡ Some o) → object_of a s ≡ object_of b s
same_object a b m n sa sb s f g = elim (cases_option (object_of a s)) [
  | inr w ↦ (let k = back a s w.0 w.1 in w.1 ∙ ap Some k.4 ∙ sym (ap (object_of b) (sym k.3) ∙ found b n sb k.0 k.1 (f k.0 k.1 k.3 k.2)))
  | inl none ↦ elim (cases_option (object_of b s)) [
    | inl also ↦ none ∙ sym also
    | inr w ↦ (let k = back b s w.0 w.1 in absurd (no_some (sym none ∙ ap (object_of a) (sym k.3) ∙ found a m sa k.0 k.1 (g k.0 k.1 k.3 k.2))))
  ]
]

pub same_objects : (a b : List (Option Slot)) (n : ℕ) → ((s : ℕ) → 0 < s → s ≤ n → object_of a s ≡ object_of b s) → objects a n ≡ objects b n
same_objects a b zero f = refl
same_objects a b (suc n) f = ap (λ os. os ++ object_of a (suc n) ∷ []) (same_objects a b n (λ s z le. f s z (omega arith))) ∙ ap (λ o. objects b n ++ o ∷ []) (f (suc n) (omega arith) (omega arith))

ne_le : (s n : ℕ) → (s ≡ suc n → ⊥) → s ≤ suc n → s ≤ n
ne_le s n ne le = elim (cases_lt n s) [ inl h ↦ absurd (ne (omega arith)) | inr h ↦ h ]

pub set_object : (a b : List (Option Slot)) (n s : ℕ) (v : Option Live) → 0 < s → s ≤ n → object_of b s ≡ v → ((t : ℕ) → 0 < t → t ≤ n → t ≢ s → object_of b t ≡ object_of a t) → objects b n ≡ slice_set (objects a n) (s - 1) v
set_object a b zero s v z le is f = absurd (omega arith)
set_object a b (suc n) s v z le is f = elim (cases_eq s (suc n)) [
  | inl e ↦ (let here : length (objects a n) ≡ s - 1 = omega (arith, many a n, e) in
      ap (λ os. os ++ object_of b (suc n) ∷ []) (same_objects b a n (λ t y k. f t y (omega arith) (λ q. omega (arith, q, e, k)))) ∙ ap (λ o. objects a n ++ o ∷ []) (ap (object_of b) (sym e) ∙ is) ∙ sym (set_at (objects a n) (object_of a (suc n)) [] v (s - 1) here))
  | inr ne ↦ (let lt : s ≤ n = omega (arith, ne_le s n ne le) in let inn : s - 1 < length (objects a n) = omega (arith, many a n) in
      ap (λ os. os ++ object_of b (suc n) ∷ []) (set_object a b n s v z lt is (λ t y k q. f t y (omega arith) q))
      ∙ ap (λ o. slice_set (objects a n) (s - 1) v ++ o ∷ []) (f (suc n) (omega arith) (omega arith) (λ q. ne (sym q)))
      ∙ sym (set-append_left (objects a n) (object_of a (suc n) ∷ []) (s - 1) v inn))
]

-- a further object
pub made_more : (a b : List (Option Slot)) (made key : ℕ) (o : Slot) → IsStore a made → o.serial ≡ made + 1 → slot_at a key ≡ None → slot_at b key ≡ Some o → ((j : ℕ) → j ≢ key → slot_at b j ≡ slot_at a j)
    → IsStore b (made + 1) × (objects b (made + 1) ≡ objects a made ++ Some (as_live key o) ∷ [])
made_more a b made key o st num was is rest =
    let sb : IsStore b (made + 1) = record {
      serials = λ k q e. elim (cases_eq k key) [
        | inl s ↦ (let w : o ≡ q = same_some (sym is ∙ ap (slot_at b) (sym s) ∙ e) in let v : q.serial ≡ made + 1 = ap (λ (x : Slot). x.serial) (sym w) ∙ num in (omega (arith, v), omega (arith, v)))
        | inr n ↦ (let w = st.serials k q (sym (rest k n) ∙ e) in (w.0, omega (arith, w.1)))
      ];
      apart = λ j k p q e f s. elim (cases_eq j key) [
        | inl x ↦ elim (cases_eq k key) [
          | inl y ↦ x ∙ sym y
          | inr y ↦ (let v : p.serial ≡ made + 1 = ap (λ (z : Slot). z.serial) (same_some (sym e ∙ ap (slot_at b) x ∙ is)) ∙ num in let w = st.serials k q (sym (rest k y) ∙ f) in absurd (omega (arith, v, w.1, s)))
        ]
        | inr x ↦ elim (cases_eq k key) [
          | inl y ↦ (let v : q.serial ≡ made + 1 = ap (λ (z : Slot). z.serial) (same_some (sym f ∙ ap (slot_at b) y ∙ is)) ∙ num in let w = st.serials j p (sym (rest j x) ∙ e) in absurd (omega (arith, v, w.1, s)))
          | inr y ↦ st.apart j k p q (sym (rest j x) ∙ e) (sym (rest k y) ∙ f) s
        ]
      ];
    } in
    let n : suc made ≡ made + 1 = omega arith in
    let last : object_of b (suc made) ≡ Some (as_live key o) = ap (object_of b) (n ∙ sym num) ∙ found b (made + 1) sb key o is in
    let first : objects b made ≡ objects a made = same_objects b a made (λ s z le. same_object b a (made + 1) made sb st s
    (λ k q e at. elim (cases_eq k key) [ inl x ↦ (let w : o ≡ q = same_some (sym is ∙ ap (slot_at b) (sym x) ∙ at) in let v : q.serial ≡ made + 1 = ap (λ (z : Slot). z.serial) (sym w) ∙ num in absurd (omega (arith, v, e, le))) | inr x ↦ sym (rest k x) ∙ at ])
    (λ k q e at. elim (cases_eq k key) [ inl x ↦ absurd (no_some (sym was ∙ ap (slot_at a) (sym x) ∙ at)) | inr x ↦ rest k x ∙ at ])) in
    (sb, ap (objects b) (sym n) ∙ ap (λ os. os ++ object_of b (suc made) ∷ []) first ∙ ap (λ v. objects a made ++ v ∷ []) last)

-- one object's slot changes
pub changed : (a b : List (Option Slot)) (made key : ℕ) (o : Slot) (v : Option Live) → IsStore a made → IsStore b made → slot_at a key ≡ Some o → object_of b o.serial ≡ v
    → ((q : Slot) → slot_at b key ≡ Some q → q.serial ≡ o.serial) → ((j : ℕ) → j ≢ key → slot_at b j ≡ slot_at a j) → objects b made ≡ slice_set (objects a made) (o.serial - 1) v
changed a b made key o v sa sb was is keeps rest =
    let w = sa.serials key o was in
    set_object a b made o.serial v w.0 w.1 is (λ t z le ne. same_object b a made made sb sa t
    (λ k q e at. elim (cases_eq k key) [ inl x ↦ absurd (ne (sym e ∙ keeps q (ap (slot_at b) (sym x) ∙ at))) | inr x ↦ sym (rest k x) ∙ at ])
    (λ k q e at. elim (cases_eq k key) [ inl x ↦ absurd (ne (sym e ∙ ap (λ (y : Slot). y.serial) (same_some (sym at ∙ ap (slot_at a) x ∙ was)))) | inr x ↦ rest k x ∙ at ]))

-- an object is freed
pub freed : (a b : List (Option Slot)) (made key : ℕ) (o : Slot) → IsStore a made → IsStore b made → slot_at a key ≡ Some o → slot_at b key ≡ None → ((j : ℕ) → j ≢ key → slot_at b j ≡ slot_at a j) → objects b made ≡ slice_set (objects a made) (o.serial - 1) None
freed a b made key o sa sb was is rest = changed a b made key o None sa sb was
    (elim (cases_option (object_of b o.serial)) [
      | inl n ↦ n
      | inr w ↦ (let k = back b o.serial w.0 w.1 in elim (cases_eq k.0 key) [
        | inl x ↦ absurd (no_some (sym is ∙ ap (slot_at b) (sym x) ∙ k.2))
        | inr x ↦ absurd (x (sa.apart k.0 key k.1 o (sym (rest k.0 x) ∙ k.2) was k.3))
      ])
    ])
    (λ q e. absurd (no_some (sym is ∙ e))) rest

-- one object's cells are changed
pub written : (a b : List (Option Slot)) (made key : ℕ) (o p : Slot) → IsStore a made → IsStore b made → slot_at a key ≡ Some o → slot_at b key ≡ Some p → p.serial ≡ o.serial → ((j : ℕ) → j ≢ key → slot_at b j ≡ slot_at a j)
    → objects b made ≡ slice_set (objects a made) (o.serial - 1) (Some (as_live key p))
written a b made key o p sa sb was is same rest = changed a b made key o (Some (as_live key p)) sa sb was (ap (object_of b) (sym same) ∙ found b made sb key p is)
    (λ q e. ap (λ (x : Slot). x.serial) (same_some (sym e ∙ is)) ∙ same) rest

-- an object's slot, changed in place, keeps the store in order
pub kept_store : (a b : List (Option Slot)) (made key : ℕ) (o p : Slot) → IsStore a made → slot_at a key ≡ Some o → slot_at b key ≡ Some p → p.serial ≡ o.serial → ((j : ℕ) → j ≢ key → slot_at b j ≡ slot_at a j) → IsStore b made
kept_store a b made key o p sa was is same rest = record {
  serials = λ k q e. elim (cases_eq k key) [
    | inl x ↦ (let v : q.serial ≡ o.serial = ap (λ (z : Slot). z.serial) (same_some (sym e ∙ ap (slot_at b) x ∙ is)) ∙ same in let w = sa.serials key o was in (omega (arith, v, w.0), omega (arith, v, w.1)))
    | inr x ↦ sa.serials k q (sym (rest k x) ∙ e)
  ];
  apart = λ j k q r e f s. elim (cases_eq j key) [
    | inl x ↦ elim (cases_eq k key) [ inl y ↦ x ∙ sym y | inr y ↦ (let v : q.serial ≡ o.serial = ap (λ (z : Slot). z.serial) (same_some (sym e ∙ ap (slot_at b) x ∙ is)) ∙ same in x ∙ sa.apart key k o r was (sym (rest k y) ∙ f) (sym v ∙ s)) ]
    | inr x ↦ elim (cases_eq k key) [
      | inl y ↦ (let v : r.serial ≡ o.serial = ap (λ (z : Slot). z.serial) (same_some (sym f ∙ ap (slot_at b) y ∙ is)) ∙ same in sa.apart j key q o (sym (rest j x) ∙ e) was (s ∙ v) ∙ sym y)
      | inr y ↦ sa.apart j k q r (sym (rest j x) ∙ e) (sym (rest k y) ∙ f) s
    ]
  ];
}

pub gone_store : (a b : List (Option Slot)) (made key : ℕ) → IsStore a made → slot_at b key ≡ None → ((j : ℕ) → j ≢ key → slot_at b j ≡ slot_at a j) → IsStore b made
gone_store a b made key sa is rest = record {
  serials = λ k q e. elim (cases_eq k key) [ inl x ↦ absurd (no_some (sym is ∙ ap (slot_at b) (sym x) ∙ e)) | inr x ↦ sa.serials k q (sym (rest k x) ∙ e) ];
  apart = λ j k q r e f s. elim (cases_eq j key) [ inl x ↦ absurd (no_some (sym is ∙ ap (slot_at b) (sym x) ∙ e)) | inr x ↦ elim (cases_eq k key) [ inl y ↦ absurd (no_some (sym is ∙ ap (slot_at b) (sym y) ∙ f)) | inr y ↦ sa.apart j k q r (sym (rest j x) ∙ e) (sym (rest k y) ∙ f) s ] ];
}
