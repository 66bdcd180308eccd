-- A search, one class further.
use Rattle.std.proofs.Common.{◌≡◌, ◌⊎◌, ℕ, ◌+◌, ◌<◌, ◌≤◌, inl, inr, Bool, List, [], ◌∷◌, ◌++◌, map, length, take, get_or, refl, sym, ap, ◌∙◌, subst, arith}
use Rattle.std.proofs.lemmas.List.{take_all, take_more}
use Rattle.std.proofs.lemmas.List.{take-append-le}
use Rattle.som_model.specs.Lists.{Mem}
use Rattle.som_model.specs.Classes.{hierarchy, parents_of}
use Rattle.som_model.specs.Made.{ComesOf, root, parent, metaclass}
use Rattle.som_model.specs.Metaclass.{meta}
use Rattle.som_model.proofs.NamedLaws.{hierarchy_parents}
use Rattle.som_model_laws.proofs.Members.{mem_left, mem_split}
use Rattle.som_model_laws.proofs.Lists.{map_mem, mem_map}
use Rattle.som_meta.specs.Numbering.{AreApart, IsNumbered, Numbering, key_at}
use Rattle.som_class_ids.proofs.Items.{item_mem}
use Rattle.som_class_table.specs.Making.{IsMarked, IsNeeded, IsNeedOf}
use Rattle.som_class_load_order.specs.Searching.{AreNoted, AreSearched}

-- the items so far and one more
step_is : (xs : List ℕ) (i x : ℕ) → i < length xs → x ≡ get_or xs i x → take (i + 1) xs ≡ take i xs ++ x ∷ []
step_is xs i x lt is = take_more xs i x lt ∙ ap (λ y. take i xs ++ y ∷ []) (sym is)

pub one_more : (xs : List ℕ) (i x : ℕ) → i < length xs → x ≡ get_or xs i x → (n : ℕ) → Mem n (take i xs) ⊎ (n ≡ x) → Mem n (take (i + 1) xs)
one_more xs i x lt is n (inl m) = subst (λ z. Mem n z) (sym (step_is xs i x lt is)) (mem_left n (take i xs) (x ∷ []) m)
one_more xs i x lt is n (inr e) = subst (λ z. Mem n z) (sym (step_is xs i x lt is)) (right (take i xs))
  where
    right : (ys : List ℕ) → Mem n (ys ++ x ∷ [])
    right [] = inl e
    right (y ∷ ys) = inr (right ys)

pub of_more : (xs : List ℕ) (i x : ℕ) → i < length xs → x ≡ get_or xs i x → (n : ℕ) → Mem n (take (i + 1) xs) → Mem n (take i xs) ⊎ (n ≡ x)
of_more xs i x lt is n m = elim (mem_split n (take i xs) (x ∷ []) (subst (λ z. Mem n z) (step_is xs i x lt is) m)) [
  | inl o ↦ inl o
  | inr o ↦ elim o [ inl e ↦ inr e | inr z ↦ absurd z ]
]

-- the needs of a class by number
module _ (k : Numbering) (apart : AreApart k) (n : ℕ) (im : IsNumbered k n) (ps : List ℕ) (low : (p : ℕ) → Mem p ps → p < n) (keyed : map (key_at k) ps ≡ (hierarchy k.classes).parents (key_at k n))
    (mm : ℕ) (mm_is : IsNumbered k mm) (mm_key : key_at k mm ≡ meta k.classes (key_at k n)) where
  keys_of_parents : map (key_at k) ps ≡ parents_of k.classes (key_at k n)
  keys_of_parents = keyed ∙ hierarchy_parents k.classes (key_at k n)

  parent_is : (p : ℕ) → IsNumbered k p → Mem (key_at k p) (parents_of k.classes (key_at k n)) → Mem p ps
  parent_is p ip m =
      let r = map_mem (key_at k) (key_at k p) ps (subst (λ z. Mem (key_at k p) z) (sym keys_of_parents) m) in
      let lt = low r.0 r.1 in
      let iq : IsNumbered k r.0 = omega (arith, lt, im) in
      subst (λ z. Mem z ps) (sym (apart p r.0 ip iq r.2)) r.1

  pub parents_low : (p : ℕ) → IsNumbered k p → Mem (key_at k p) (parents_of k.classes (key_at k n)) → p < n
  parents_low p ip m = low p (parent_is p ip m)

  pub needs_in : (m : ℕ) → Mem m ps ⊎ (m ≡ mm) → IsNeedOf k n m
  needs_in m (inl i) = (
    (let lt = low m i in omega (arith, lt, im)),
    inl (subst (λ z. Mem (key_at k m) z) keys_of_parents (mem_map (key_at k) m ps i)),
  )
  needs_in m (inr e) = (subst (IsNumbered k) (sym e) mm_is, inr (ap (key_at k) e ∙ mm_key))

  pub needs_out : (m : ℕ) → IsNeedOf k n m → Mem m ps ⊎ (m ≡ mm)
  needs_out m h = elim h.1 [ inl i ↦ inl (parent_is m h.0 i) | inr e ↦ inr (apart m mm h.0 mm_is (e ∙ sym mm_key)) ]

module _ (k : Numbering) (made : List Bool) (x : ℕ) where
  need_needed : (n m : ℕ) → IsNeeded k x n → IsNeedOf k n m → IsNeeded k x m
  need_needed n m d (im, inl i) = parent (key_at k n) (key_at k m) d i
  need_needed n m d (im, inr e) = subst (ComesOf k.classes (key_at k x ∷ [])) (sym e) (metaclass (key_at k n) d)

  pub searched_start : (classes : List ℕ) → IsNumbered k x → AreNoted made (λ n. n ≡ x) [] classes → AreSearched k made x classes 0
  searched_start classes ix noted = record {
    start = noted.there x refl;
    needed = λ n m. elim (noted.only n m) [ inl z ↦ absurd z | inr p ↦ (subst (IsNumbered k) (sym p.0) ix, root (key_at k n) (inl (ap (key_at k) p.0)), p.1) ];
    needs = λ n m z. absurd z;
    low = λ n p z. absurd z;
  }

  module _ (old new : List ℕ) (done n : ℕ) (s : AreSearched k made x old done) (lt : done < length old) (is : n ≡ get_or old done n) (noted : AreNoted made (IsNeedOf k n) old new)
      (low : (p : ℕ) → IsNumbered k p → Mem (key_at k p) (parents_of k.classes (key_at k n)) → p < n) where
    stays : (m : ℕ) → Mem m old → Mem m new
    stays m i = subst (λ z. Mem m z) (sym noted.is) (mem_left m old noted.added i)

    there : (m : ℕ) → IsMarked made m ⊎ Mem m old → IsMarked made m ⊎ Mem m new
    there m (inl z) = inl z
    there m (inr i) = inr (stays m i)

    front : take (done + 1) new ≡ take (done + 1) old
    front = ap (take (done + 1)) noted.is ∙ take-append-le (done + 1) old noted.added (omega (arith, lt))

    before : (m : ℕ) → Mem m (take (done + 1) new) → Mem m (take done old) ⊎ (m ≡ n)
    before m i = of_more old done n lt is m (subst (λ z. Mem m z) front i)

    pub searched_more : AreSearched k made x new (done + 1)
    searched_more = record {
      start = there x s.start;
      needed = λ m i. elim (noted.only m i) [ inl o ↦ s.needed m o | inr p ↦ (p.0.0, need_needed n m (s.needed n (item_mem old done n lt is)).1 p.0, p.1) ];
      needs = λ a b i h. elim (before a i) [ inl o ↦ there b (s.needs a b o h) | inr e ↦ noted.there b (subst (λ z. IsNeedOf k z b) e h) ];
      low = λ a p i ip m. elim (before a i) [
        | inl o ↦ s.low a p o ip m
        | inr e ↦ subst (λ z. p < z) (sym e) (low p ip (subst (λ z. Mem (key_at k p) (parents_of k.classes (key_at k z))) e m))
      ];
    }

  pub searched_all : (classes : List ℕ) (done : ℕ) → length classes ≤ done → AreSearched k made x classes done → AreSearched k made x classes (length classes)
  searched_all classes done le s = record {
    start = s.start;
    needed = s.needed;
    needs = λ n m i. s.needs n m (moved n i);
    low = λ n p i. s.low n p (moved n i);
  }
    where
      moved : (n : ℕ) → Mem n (take (length classes) classes) → Mem n (take done classes)
      moved n i = subst (λ z. Mem n z) (take_all (length classes) classes (omega arith) ∙ sym (take_all done classes le)) i
