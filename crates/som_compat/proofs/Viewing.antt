-- Classes by their places: rows, descent and marks.
use Rattle.std.proofs.Common.{◌≡◌, ◌↔◌, ℕ, zero, suc, ◌+◌, ◌-◌, ◌<◌, ◌≤◌, inl, inr, Bool, true, List, [], ◌∷◌, length, take, map, replicate, Option, Some, None, slice_set, slice_index_or, refl, sym, ap, ◌∙◌, subst, arith}
use Rattle.std.proofs.lemmas.Bool.{cases_lt}
use Rattle.std.proofs.lemmas.List.{get_or_past, get_or-set_same, get_or-set_other, get_or-take}
use Rattle.som_model.specs.declared.key.ClassKey.{ClassKey}
use Rattle.som_model.specs.declared.class.ClassFace.{ClassFace}
use Rattle.som_model.specs.Lists.{Mem}
use Rattle.som_model.specs.Ancestors.{Descends, itself, by_parent}
use Rattle.som_model.specs.Class.{Class, entry_of, introduced_sig}
use Rattle.som_model.specs.Classes.{class_at, hierarchy, is_a}
use Rattle.som_model.specs.Owner.{sig_of}
use Rattle.som_model_laws.proofs.Members.{both_or_none}
use Rattle.som_model_laws.proofs.Laws.{descends_test}
use Rattle.som_verify_classes.specs.Places.{class_of_place, key_at, face_at, Finds}
use Rattle.som_verify_classes.specs.Plainly.{IsAmong}
use Rattle.som_verify_classes.proofs.Finding.{mem_place}
use Rattle.som_verify_classes.proofs.Falling.{mem_there}
use Rattle.som_verify_classes.proofs.PlainLists.{mem_map, map_mem}
use Rattle.som_verify_classes.proofs.DeclaredClasses.{long_map}
use Rattle.som_compat.specs.declared.rows.Row.{Row}
use Rattle.som_compat.specs.Conditions.{IsCounted, Conforms}
use Rattle.som_compat.specs.Views.{shown, interface, classes_of, numbers_of, IsRow, AreRows}
use Rattle.som_compat.specs.Marks.{Marked, lists_of, Above, AreLow, IsReached, AreAbove}
use Rattle.som_compat.proofs.Known.{IsKnown, known}
use Rattle.som_compat.proofs.Placed.{shown_at, long_classes}
use Rattle.som_compat.proofs.Marking.{row_is}
use Rattle.som_compat.proofs.Plain.{found_is}

pub known_of : (fs : List ClassFace) → Conforms (interface fs) → IsKnown (classes_of fs)
unfolding classes_of
known_of fs ok = known (interface fs) ok

pub among_at : (cs : List Class) (p : ℕ) → p < length cs → IsAmong cs (key_at cs p)
among_at cs p lt = record { class = class_of_place cs p; there = mem_place cs p lt; named = refl }

module _ (cs : List Class) (known : IsKnown cs) where
  pub parent_among : (p : ℕ) (k : ClassKey) → p < length cs → Mem k (face_at cs p).parents → IsAmong cs k
  parent_among p k lt m = let r = known.stand p k lt m in subst (IsAmong cs) r.2 (among_at cs r.0 (omega (arith, lt, r.1)))

  pub metaclass_among : (p : ℕ) (k : ClassKey) → p < length cs → (face_at cs p).metaclass ≡ Some k → IsAmong cs k
  metaclass_among p k lt m = let r = known.metaclass p k lt m in subst (IsAmong cs) r.2 (among_at cs r.0 r.1)

  -- what the class of a key introduces
  pub sig_at : (p : ℕ) (k : ClassKey) (name : List ℕ) → p < length cs → key_at cs p ≡ k → sig_of cs (record { class = k; name = name }) ≡ introduced_sig (entry_of (face_at cs p).entries name)
  sig_at p k name lt e = let f : class_at cs k ≡ Some (class_of_place cs p) = ap (class_at cs) (sym e) ∙ known.found p lt in rw f refl

  pub unknown : (k : ClassKey) → Finds (length cs) cs k None → class_at cs k ≡ None
  unknown k f = by (class_at cs k) refl
    where
      by : (o : Option Class) → class_at cs k ≡ o → o ≡ None
      by None e = refl
      by (Some c) e = let r = found_is cs k c e in let p = at c r.0 in absurd (f p.0 p.1 p.1 (p.2 ∙ r.1))
        where
          at : (c : Class) → Mem c cs → (p : ℕ) × (p < length cs) × (key_at cs p ≡ c.key)
          at c m = let r = mem_there cs c m in (r.0, r.1, ap (λ (c : Class). c.key) r.2)

  pub sig_none : (k : ClassKey) (name : List ℕ) → Finds (length cs) cs k None → sig_of cs (record { class = k; name = name }) ≡ None
  sig_none k name f = let e = unknown k f in rw e refl

  module _ (rows : List Row) (are : AreRows cs rows) where
    abbrev numbers : ℕ → List ℕ
    numbers x = slice_index_or (lists_of rows) x []

    row_there : (x : ℕ) (d : Row) → numbers_of (slice_index_or rows x (record { numbers = []; count = 0; metaclass = None })) ≡ numbers x
    row_there x d = row_is rows x

    pub number_key : (x p : ℕ) → x < length cs → Mem p (numbers x) → (p < length cs) × Mem (key_at cs p) (face_at cs x).parents
    number_key x p lt m =
        let r = are.by x (record { numbers = []; count = 0; metaclass = None }) lt in
        let here = subst (λ z. Mem p z) (sym (row_is rows x)) m in
        (r.low p here, subst (λ z. Mem (key_at cs p) z) r.parents (mem_map (key_at cs) p _ here))

    pub low : AreLow rows
    low x p m = elim (cases_lt x (length cs)) [
      | inl lt ↦ (let r = number_key x p lt m in
          let s = known.stand x (key_at cs p) lt r.1 in
          let same : s.0 ≡ p = known.once s.0 p (omega (arith, s.1, lt)) r.0 s.2 in
          omega (arith, same, s.1))
      | inr ge ↦ (let long = long_map numbers_of rows in let w : length (lists_of rows) ≤ x = omega (arith, ge, are.long, long) in absurd (rw (get_or_past (lists_of rows) x [] w) at m))
    ]

    pub above_keys : (x a : ℕ) → x < length cs → Above rows x a → Descends (hierarchy cs) (key_at cs x) (key_at cs a)
    above_keys x a lt itself = itself
    above_keys x a lt (by_parent p m d) = let r = number_key x p lt m in by_parent (key_at cs p) (subst (λ z. Mem (key_at cs p) z) (sym (known.parents x lt)) r.1) (above_keys p a r.0 d)

    pub keys_above : (x y : ClassKey) (p : ℕ) → Descends (hierarchy cs) x y → p < length cs → key_at cs p ≡ x → (q : ℕ) × (q < length cs) × (key_at cs q ≡ y) × Above rows p q
    keys_above x y p itself lt e = (p, lt, e, itself)
    keys_above x y p (by_parent k m d) lt e =
        let r = are.by p (record { numbers = []; count = 0; metaclass = None }) lt in
        let in_row : Mem k (map (key_at cs) (numbers_of (slice_index_or rows p (record { numbers = []; count = 0; metaclass = None })))) = subst (λ z. Mem k z) (ap (hierarchy cs).parents (sym e) ∙ known.parents p lt ∙ sym r.parents) m in
        let s = map_mem (key_at cs) k _ in_row in
        let t = keys_above k y s.0 d (r.low s.0 s.1) (sym s.2) in
        (t.0, t.1, t.2, by_parent s.0 (subst (λ z. Mem s.0 z) (row_is rows p) s.1) t.3)

    -- the places from which one descends, and the keys
    pub above_is : (p q : ℕ) → p < length cs → q < length cs → (is_a cs (key_at cs p) (key_at cs q) ≡ true) ↔ Above rows p q
    above_is p q lp lq = (
      (λ e. (let r = keys_above (key_at cs p) (key_at cs q) p ((descends_test (hierarchy cs) known.tells known.falls (key_at cs p) (key_at cs q)).0 e) lp refl in
          let same = known.once r.0 q r.1 lq r.2 in subst (λ z. Above rows p z) same r.3)),
      (λ a. (descends_test (hierarchy cs) known.tells known.falls (key_at cs p) (key_at cs q)).1 (above_keys p q lp a)),
    )

    -- the marks that are reached from one class
    pub are_above : (p : ℕ) (start marks : List Bool) → p < length cs → Marked start p → ((k : ℕ) → Marked start k → k ≡ p) → ((k : ℕ) → Marked marks k ↔ IsReached rows start k) → AreAbove cs (key_at cs p) marks
    are_above p start marks lt here only reached = record {
      by = λ q lq. both_or_none _ _
          (λ e. (let r = (reached q).0 e in (above_is p q lt lq).1 (subst (λ z. Above rows z q) (only r.start r.marked) r.above)))
          (λ e. (reached q).1 (record { start = p; marked = here; above = (above_is p q lt lq).0 e }));
    }

-- rows that are filled
pub filled_more : (cs : List Class) (rows : List Row) (i : ℕ) (r : Row) → i < length rows → IsRow cs (face_at cs i) r
    → ((p : ℕ) (d : Row) → p < i → IsRow cs (face_at cs p) (slice_index_or rows p d)) → (p : ℕ) (d : Row) → p < i + 1 → IsRow cs (face_at cs p) (slice_index_or (slice_set rows i r) p d)
filled_more cs rows i r lt is before p d less = elim (cases_lt p i) [
  | inl under ↦ (let n : p ≡ i → ⊥ = λ e. omega (arith, e, under) in rw (get_or-set_other rows i p r d n) (before p d under))
  | inr ge ↦ (let e : p ≡ i = omega (arith, ge, less) in subst (λ z. IsRow cs (face_at cs z) (slice_index_or (slice_set rows i r) z d)) (sym e) (rw (get_or-set_same rows i r d lt) is))
]

-- the rows of the kernel's classes
one_number : (r : Row) (p : ℕ) → r.numbers ≡ replicate 16 p → r.count ≡ 1 → numbers_of r ≡ p ∷ []
one_number r p e f = rw (f, e) refl

pub root_row : (fs : List ClassFace) (r : Row) → numbers_of r ≡ [] → r.metaclass ≡ None → IsRow (classes_of fs) (face_at (classes_of fs) 0) r
unfolding classes_of
root_row fs r e f = record { parents = ap (map (key_at (classes_of fs))) e; low = λ q m. absurd (rw e at m); metaclass = rw f refl; within = rw f tt }

pub single_row : (fs : List ClassFace) (r : Row) (place p : ℕ) → place < 4 → (place ≡ 0 → ⊥) → (place ≡ 3 → p ≡ 1) → ((place ≡ 3 → ⊥) → p ≡ 0) → r.numbers ≡ replicate 16 p → r.count ≡ 1 → r.metaclass ≡ None
    → IsRow (classes_of fs) (face_at (classes_of fs) place) r
unfolding classes_of
single_row fs r zero p lt not_zero three other e f g = absurd (not_zero refl)
single_row fs r (suc zero) p lt not_zero three other e f g =
    let at : p ≡ 0 = other (λ h. omega arith) in let n = one_number r p e f in
    record { parents = ap (map (key_at (classes_of fs))) (n ∙ ap (λ z. z ∷ []) at); low = λ q m. low_one q (rw n at m); metaclass = rw g refl; within = rw g tt }
  where
    low_one : (q : ℕ) → Mem q (p ∷ []) → q < length (classes_of fs)
    low_one q (inl h) = let at : p ≡ 0 = other (λ h. omega arith) in omega (arith, h, at)
    low_one q (inr z) = absurd z
single_row fs r (suc (suc zero)) p lt not_zero three other e f g =
    let at : p ≡ 0 = other (λ h. omega arith) in let n = one_number r p e f in
    record { parents = ap (map (key_at (classes_of fs))) (n ∙ ap (λ z. z ∷ []) at); low = λ q m. low_one q (rw n at m); metaclass = rw g refl; within = rw g tt }
  where
    low_one : (q : ℕ) → Mem q (p ∷ []) → q < length (classes_of fs)
    low_one q (inl h) = let at : p ≡ 0 = other (λ h. omega arith) in omega (arith, h, at)
    low_one q (inr z) = absurd z
single_row fs r (suc (suc (suc zero))) p lt not_zero three other e f g =
    let at : p ≡ 1 = three refl in let n = one_number r p e f in
    record { parents = ap (map (key_at (classes_of fs))) (n ∙ ap (λ z. z ∷ []) at); low = λ q m. low_one q (rw n at m); metaclass = rw g refl; within = rw g tt }
  where
    low_one : (q : ℕ) → Mem q (p ∷ []) → q < length (classes_of fs)
    low_one q (inl h) = let at : p ≡ 1 = three refl in omega (arith, h, at)
    low_one q (inr z) = absurd z
single_row fs r (suc (suc (suc (suc place)))) p lt not_zero three other e f g = absurd (omega arith)

pub filled_rows : (fs : List ClassFace) (rows : List Row) → length fs + 4 ≤ length rows → ((p : ℕ) (d : Row) → p < length fs + 4 → IsRow (classes_of fs) (face_at (classes_of fs) p) (slice_index_or rows p d))
    → AreRows (classes_of fs) (take (length fs + 4) rows)
filled_rows fs rows le f =
    let e = long_classes fs in
    record {
      long = long_take (length fs + 4) rows le ∙ sym e;
      by = λ p d lt. (let less : p < length fs + 4 = omega (arith, lt, e) in rw (get_or-take (length fs + 4) rows p d less) (f p d less));
    }
  where
    long_take : (n : ℕ) (rs : List Row) → n ≤ length rs → length (take n rs) ≡ n
    long_take zero rs l = refl
    long_take (suc n) [] l = absurd (omega arith)
    long_take (suc n) (r ∷ rs) l = ap suc (long_take n rs (omega arith))

pub counted_at : (fs : List ClassFace) (place : ℕ) (f : ClassFace) → Conforms (interface fs) → 4 ≤ place → place < length fs + 4 → class_of_place (classes_of fs) place ≡ shown f → IsCounted f
counted_at fs place f ok ge lt is =
    let e : place - 4 + 4 ≡ place = omega (arith, ge) in
    let l : place - 4 < length fs = omega (arith, ge, lt) in
    let same : slice_index_or fs (place - 4) f ≡ f = ap (λ (c : Class). c.decl.face) (sym (shown_at fs (place - 4) f l) ∙ ap (class_of_place (classes_of fs)) e ∙ is) in
    subst IsCounted same (ok.counts (place - 4) f l)
