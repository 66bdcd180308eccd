-- Classes that are made one after the other.
use Rattle.std.proofs.Common.{◌≡◌, ◌↔◌, ◌⊎◌, ℕ, zero, suc, ◌+◌, ◌<◌, inl, inr, Bool, true, false, List, [], ◌∷◌, length, take, get_or, Some, slice_get, slice_index_or, refl, sym, ap, ◌∙◌, arith}
use Rattle.som_model.specs.Lists.{Mem}
use Rattle.som_model.specs.Class.{Class}
use Rattle.som_model.specs.Classes.{parents_of}
use Rattle.som_model.specs.Kernel.{kernel}
use Rattle.som_model_laws.proofs.Lists.{get_mem, mem_get, take_get}
use Rattle.som_model_laws.proofs.Metas.{in_four}
use Rattle.som_meta.specs.Numbering.{IsNumbered, Numbering, key_at}
use Rattle.som_class_table.specs.Loaded.{AreLoaded}
use Rattle.som_class_table.specs.Making.{AreToMake, HaveNeeds, IsMarked, IsNeedOf, IsNeeded}
use Rattle.som_class_loaded.specs.Made.{AreMarked, CanBeMade, HaveMadeBelow, IsReached}

-- ---- lists and their fronts

some_same : (x y : ℕ) → Some x ≡ Some y → x ≡ y
some_same x y e = cc

pub got : (xs : List ℕ) (i n : ℕ) → i < length xs → n ≡ get_or xs i n → slice_get xs i ≡ Some n
got [] i n lt e = absurd (omega arith)
got (x ∷ xs) zero n lt e = ap (λ z. Some z) (sym e)
got (x ∷ xs) (suc i) n lt e = got xs i n (omega arith) e

take_one : (xs : List ℕ) (i n k : ℕ) → slice_get xs i ≡ Some n → Mem k (take (i + 1) xs) ↔ (Mem k (take i xs) ⊎ (k ≡ n))
take_one [] i n k e = absurd (cc)
take_one (x ∷ xs) zero n k e =
    let same : x ≡ n = some_same x n e in
    (λ m. elim m [ inl is ↦ inr (is ∙ same) | inr z ↦ absurd z ], λ m. elim m [ inl z ↦ absurd z | inr is ↦ inl (is ∙ sym same) ])
take_one (x ∷ xs) (suc i) n k e =
    let more = take_one xs i n k e in
    let s : suc i + 1 ≡ suc (i + 1) = omega arith in
    rw s (
      (λ m. elim m [ inl is ↦ inl (inl is) | inr t ↦ (elim (more.0 t) [ inl h ↦ inl (inr h) | inr h ↦ inr h ]) ]),
      (λ m. elim m [ inl t ↦ (elim t [ inl is ↦ inl is | inr h ↦ inr (more.1 (inl h)) ]) | inr h ↦ inr (more.1 (inr h)) ]),
    )

take_mem : (xs : List ℕ) (i x : ℕ) → Mem x (take i xs) → Mem x xs
take_mem xs i x m = (let j = mem_get (take i xs) x m in get_mem xs j.0 x (take_get i xs j.0 x j.1).1)

mem_take : (xs : List ℕ) (j i x : ℕ) → slice_get xs j ≡ Some x → j < i → Mem x (take i xs)
mem_take xs j zero x e lt = absurd (omega (arith, lt))
mem_take [] j (suc i) x e lt = absurd (cc)
mem_take (y ∷ ys) zero (suc i) x e lt = inl (sym (some_same y x e))
mem_take (y ∷ ys) (suc j) (suc i) x e lt = inr (mem_take ys j i x e (omega (arith, lt)))

-- ---- marks along an order

pub marked_none : (old : List Bool) → AreMarked old old []
marked_none old n = (λ m. inl m, λ m. elim m [ inl h ↦ h | inr z ↦ absurd z ])

pub marked_more : (old now new : List Bool) (xs : List ℕ) (i n : ℕ) → slice_get xs i ≡ Some n → AreMarked old now (take i xs) → AreMarked now new (n ∷ []) → AreMarked old new (take (i + 1) xs)
marked_more old now new xs i n at a b k =
    let more = take_one xs i n k at in (
      (λ m. elim ((b k).0 m) [
        | inl h ↦ elim ((a k).0 h) [ inl o ↦ inl o | inr t ↦ inr (more.1 (inl t)) ]
        | inr h ↦ elim h [ inl e ↦ inr (more.1 (inr e)) | inr z ↦ absurd z ]
      ]),
      (λ m. elim m [
        | inl o ↦ (b k).1 (inl ((a k).1 (inl o)))
        | inr t ↦ elim (more.0 t) [ inl h ↦ (b k).1 (inl ((a k).1 (inr h))) | inr e ↦ (b k).1 (inr (inl e)) ]
      ]),
    )

-- what is asked of the next class
module _ (k : Numbering) (old now : List Bool) (order : List ℕ) (can : CanBeMade k old order) (i n : ℕ) (at : slice_get order i ≡ Some n) (so : AreMarked old now (take i order)) where
  pub next_new : IsMarked now n → ⊥
  next_new m = elim ((so n).0 m) [ inl o ↦ can.unmade i n at o | inr t ↦ can.once i n at t ]

  pub next_parents : HaveMadeBelow k now n
  next_parents p lt m = (so p).1 (can.parents i n p at lt m)

-- ---- the order that is asked for

stands_once : (k : Numbering) (made : List Bool) (x : ℕ) (order : List ℕ) → AreToMake k made x order → (i n : ℕ) → slice_get order i ≡ Some n → Mem n (take i order) → ⊥
stands_once k made x order a i n at m =
    let j = mem_get (take i order) n m in
    let f = take_get i order j.0 n j.1 in
    elim (a.ordered j.0 i n n f.0 f.1 at) [ inl lt ↦ omega (arith, lt) | inr both ↦ (let lt = both.1 in omega (arith, lt)) ]

module _ (k : Numbering) (made : List Bool) (x : ℕ) (order : List ℕ) (a : AreToMake k made x order) where
  abbrev of_order : (i n : ℕ) → slice_get order i ≡ Some n → IsNumbered k n × IsNeeded k x n × (IsMarked made n → ⊥)
  of_order i n at = (a.which n).0 (get_mem order i n at)

  before : (i n p : ℕ) → slice_get order i ≡ Some n → p < n → Mem (key_at k p) (parents_of k.classes (key_at k n)) → IsMarked made p ⊎ Mem p (take i order)
  before i n p at lt m =
      let num : IsNumbered k n = (of_order i n at).0 in
      let need : IsNeedOf k n p = (omega (arith, lt, num), inl m) in
      elim (a.fronts (i + 1) n p (inr ((take_one order i n n at).1 (inr refl))) need) [
        | inl im ↦ inl im
        | inr t ↦ elim ((take_one order i n p at).0 t) [ inl h ↦ inr h | inr e ↦ absurd (omega (arith, lt, e)) ]
      ]

  pub can_be_made : CanBeMade k made order
  can_be_made = record {
    numbered = λ i n at. (of_order i n at).0;
    unmade = λ i n at. (of_order i n at).2;
    once = stands_once k made x order a;
    parents = before;
  }

  module _ (new : List Bool) (i : ℕ) (so : AreMarked made new (take i order)) where
    pub still_closed : HaveNeeds k (IsMarked new)
    still_closed n m im need = (so m).1 (a.fronts i n m ((so n).0 im) need)

    pub only_reached : (n : ℕ) → IsMarked new n → IsReached k made x n
    only_reached n im = elim ((so n).0 im) [ inl o ↦ inl o | inr t ↦ (let w = (a.which n).0 (take_mem order i n t) in inr (w.0, w.1)) ]

  marked_or_not : (b : Bool) → (b ≡ true) ⊎ (b ≡ true → ⊥)
  marked_or_not true = inl refl
  marked_or_not false = inr (λ e. absurd (cc))

  pub all_reached : (new : List Bool) → AreMarked made new order → (n : ℕ) → IsReached k made x n → IsMarked new n
  all_reached new so n (inl o) = (so n).1 (inl o)
  all_reached new so n (inr need) = elim (marked_or_not (slice_index_or made n false)) [
    | inl o ↦ (so n).1 (inl o)
    | inr un ↦ (so n).1 (inr ((a.which n).1 (need.0, need.1, un)))
  ]

-- ---- the kernel's four

abbrev pub four : List ℕ
four = 0 ∷ 1 ∷ 2 ∷ 3 ∷ []

at_four : (n : ℕ) → n < 4 → slice_get four n ≡ Some n
at_four zero lt = refl
at_four (suc zero) lt = refl
at_four (suc (suc zero)) lt = refl
at_four (suc (suc (suc zero))) lt = refl
at_four (suc (suc (suc (suc n)))) lt = absurd (omega (arith, lt))

four_at : (i n : ℕ) → slice_get four i ≡ Some n → (i < 4) × (i ≡ n)
four_at zero n e = (omega arith, some_same 0 n e)
four_at (suc zero) n e = (omega arith, some_same 1 n e)
four_at (suc (suc zero)) n e = (omega arith, some_same 2 n e)
four_at (suc (suc (suc zero))) n e = (omega arith, some_same 3 n e)
four_at (suc (suc (suc (suc i)))) n e = absurd (cc)

class_of : (n : ℕ) → n < 4 → (c : Class) × (slice_get kernel n ≡ Some c)
class_of zero lt = (_, refl)
class_of (suc zero) lt = (_, refl)
class_of (suc (suc zero)) lt = (_, refl)
class_of (suc (suc (suc zero))) lt = (_, refl)
class_of (suc (suc (suc (suc n)))) lt = absurd (omega (arith, lt))

pub four_numbered : (k : Numbering) → AreLoaded k → (n : ℕ) → n < 4 → IsNumbered k n
four_numbered k l n lt =
    let c = class_of n lt in
    l.first.numbered n c.0 (ap (λ (cs : List Class). slice_get cs n) l.is ∙ (in_four l.others n c.0 c.1).1)

pub four_can : (k : Numbering) → AreLoaded k → (made : List Bool) → ((n : ℕ) → IsMarked made n → ⊥) → CanBeMade k made four
four_can k l made none = record {
  numbered = λ i n at. (let f = four_at i n at in four_numbered k l n (let lt = f.0 in let e = f.1 in omega (arith, lt, e)));
  unmade = λ i n at m. none n m;
  once = λ i n at m.
      (let j = mem_get (take i four) n m in
      let t = take_get i four j.0 n j.1 in
      let e = (four_at i n at).1 in
      let d = (four_at j.0 n t.1).1 in
      let lt = t.0 in
      omega (arith, lt, e, d));
  parents = λ i n p at lt m.
      (let f = four_at i n at in
      let low = f.0 in
      let e = f.1 in
      let below : p < 4 = omega (arith, lt, low, e) in
      inr (mem_take four p i p (at_four p below) (omega (arith, lt, e))));
}

pub four_marked : (old new : List Bool) → ((n : ℕ) → IsMarked old n → ⊥) → AreMarked old new four → (n : ℕ) → IsMarked new n ↔ (n < 4)
four_marked old new none so n = (
  (λ m. elim ((so n).0 m) [
    | inl o ↦ absurd (none n o)
    | inr t ↦ (let i = mem_get four n t in let f = four_at i.0 n i.1 in let lt = f.0 in let e = f.1 in omega (arith, lt, e))
  ]),
  (λ lt. (so n).1 (inr (get_mem four n n (at_four n lt)))),
)

-- what is made is closed, where it is just these
pub four_closed : (k : Numbering) (new : List Bool) → HaveNeeds k (λ n. n < 4) → ((n : ℕ) → IsMarked new n ↔ (n < 4)) → HaveNeeds k (IsMarked new)
four_closed k new closed so n m im need = (so m).1 (closed n m ((so n).0 im) need)
