-- Further parents whose own parents are on a list add themselves alone to it.
use Rattle.std.proofs.Common.{◌≡◌, ℕ, zero, suc, ◌+◌, ◌<◌, ◌≤◌, ◌==◌, ◌⊎◌, inl, inr, Bool, true, false, if◌then◌else◌, List, [], ◌∷◌, ◌++◌, length, map, take, slice_index_or, Some, refl, sym, ap, ◌∙◌, subst, arith, append_assoc}
use Rattle.std.proofs.Math.Seq.{take-suc}
use Rattle.som_model.specs.Lists.{Mem, first, joined, some}
use Rattle.som_model.specs.Ancestors.{Descends, itself, by_parent, anc}
use Rattle.som_model.proofs.KeyLaws.{exact_numbers}
use Rattle.som_model_laws.specs.Once.{add_new, adds}
use Rattle.som_model_laws.specs.Rows.{rows_of, AreLow, AreAncestors}
use Rattle.som_model_laws.proofs.Laws.{ancestors, ancestors_first, descends_through}
use Rattle.som_model_laws.proofs.Listed.{falls, tells}
use Rattle.som_model_laws.proofs.Members.{mem_left, mem_right, mem_some, mem_split, some_mem}
use Rattle.som_model_laws.proofs.WalkLaw.{adds_both}

-- one member more
pub taken_more : (xs : List ℕ) (i d q : ℕ) → i < length xs → Mem q (take (i + 1) xs) → Mem q (take i xs) ⊎ (q ≡ slice_index_or xs i d)
taken_more xs i d q lt m =
    let e : i + 1 ≡ suc i = omega arith in
    elim (mem_split q (take i xs) (slice_index_or xs i d ∷ []) (subst (λ z. Mem q z) (ap (λ k. take k xs) e ∙ take-suc xs i d lt) m)) [
      | inl h ↦ inl h
      | inr (inl h) ↦ inr h
      | inr (inr h) ↦ absurd h
    ]

some_there : (list : List ℕ) (x : ℕ) → Mem x list → some (λ y. x == y) list ≡ true
some_there list x m = mem_some (λ y. x == y) x list m (exact_numbers.one x)

-- all are taken
pub taken_all : (xs : List ℕ) (i q : ℕ) → length xs ≤ i → Mem q xs → Mem q (take i xs)
taken_all [] i q le m = absurd m
taken_all (x ∷ xs) zero q le m = absurd (omega (arith, le))
taken_all (x ∷ xs) (suc i) q le (inl e) = inl e
taken_all (x ∷ xs) (suc i) q le (inr m) = inr (taken_all xs i q (omega (arith, le)) m)

pub has_it : (list : List ℕ) (x : ℕ) → some (λ y. x == y) list ≡ true → Mem x list
has_it list x e = (let r = some_mem (λ y. x == y) list e in subst (λ z. Mem z list) (sym (exact_numbers.two x r.0 r.2)) r.1)

new_there : (list : List ℕ) (x : ℕ) → Mem x list → add_new ◌==◌ list x ≡ list
new_there list x m = ap (λ (b : Bool). if b then list else list ++ x ∷ []) (some_there list x m)

-- what is there adds nothing
all_there : (list xs : List ℕ) → ((a : ℕ) → Mem a xs → Mem a list) → adds ◌==◌ list xs ≡ list
all_there list [] within = refl
all_there list (x ∷ xs) within =
    ap (λ z. adds ◌==◌ z xs) (new_there list x (within x (inl refl)))
    ∙ all_there list xs (λ a m. within a (inr m))

stays_by : (b : Bool) (list : List ℕ) (x a : ℕ) → Mem a list → Mem a (if b then list else list ++ x ∷ [])
stays_by true list x a m = m
stays_by false list x a m = mem_left a list (x ∷ []) m

stays : (list : List ℕ) (x a : ℕ) → Mem a list → Mem a (add_new ◌==◌ list x)
stays list x a m = stays_by (some (λ y. x == y) list) list x a m

comes_by : (b : Bool) (list : List ℕ) (x : ℕ) → some (λ y. x == y) list ≡ b → Mem x (if b then list else list ++ x ∷ [])
comes_by true list x e = has_it list x e
comes_by false list x e = mem_right x list (x ∷ []) (inl refl)

comes : (list : List ℕ) (x : ℕ) → Mem x (add_new ◌==◌ list x)
comes list x = comes_by (some (λ y. x == y) list) list x refl

-- a list that begins with a number, and whose others are there, adds the number alone
one_alone : (list xs : List ℕ) (x : ℕ) → first xs ≡ Some x → ((a : ℕ) → Mem a xs → (a ≡ x) ⊎ Mem a list) → adds ◌==◌ list xs ≡ add_new ◌==◌ list x
one_alone list [] x e within = absurd (cc)
one_alone list (y ∷ ys) x e within =
    let same : y ≡ x = cc in
    ap (λ z. adds ◌==◌ (add_new ◌==◌ list z) ys) same
    ∙ all_there (add_new ◌==◌ list x) ys (λ a m. elim (within a (inr m)) [
      | inl h ↦ subst (λ z. Mem z (add_new ◌==◌ list x)) (sym h) (comes list x)
      | inr h ↦ stays list x a h
    ])

-- so do several such lists
several_alone : (base list : List ℕ) (L : ℕ → List ℕ) (others : List ℕ) → ((a : ℕ) → Mem a base → Mem a list) → ((p : ℕ) → Mem p others → first (L p) ≡ Some p)
    → ((p a : ℕ) → Mem p others → Mem a (L p) → (a ≡ p) ⊎ Mem a base) → adds ◌==◌ list (joined (map L others)) ≡ adds ◌==◌ list others
several_alone base list L [] wider firsts within = refl
several_alone base list L (p ∷ ps) wider firsts within =
    adds_both ◌==◌ (L p) (joined (map L ps)) list
    ∙ ap (λ z. adds ◌==◌ z (joined (map L ps))) (one_alone list (L p) p (firsts p (inl refl)) (λ a m. elim (within p a (inl refl) m) [ inl h ↦ inl h | inr h ↦ inr (wider a h) ]))
    ∙ several_alone base (add_new ◌==◌ list p) L ps (λ a m. stays list p a (wider a m)) (λ q m. firsts q (inr m)) (λ q a m n. within q a (inr m) n)

module _ (rows : List (List ℕ)) (n : ℕ) (known : List (List ℕ)) (low : AreLow rows) (are : AreAncestors rows n known) where
  abbrev L : ℕ → List ℕ
  L p = slice_index_or known p []

  descends_of : (p a : ℕ) → p < n → Mem a (L p) → Descends (rows_of rows) p a
  descends_of p a lt m = (ancestors (rows_of rows) (tells rows) (falls rows low) p a).0 (subst (λ z. Mem a z) (are.by p lt) m)

  of_descends : (p a : ℕ) → p < n → Descends (rows_of rows) p a → Mem a (L p)
  of_descends p a lt d = subst (λ z. Mem a z) (sym (are.by p lt)) ((ancestors (rows_of rows) (tells rows) (falls rows low) p a).1 d)

  -- what stands above an ancestor is an ancestor
  pub above_through : (p q a : ℕ) → p < n → q < n → Mem q (L p) → Mem a (L q) → Mem a (L p)
  above_through p q a lt lt2 m k = of_descends p a lt (descends_through (rows_of rows) p q a (descends_of p q lt m) (descends_of q a lt2 k))

  above_parent : (list : List ℕ) (p a : ℕ) → p < n → ((q : ℕ) → Mem q (slice_index_or rows p []) → Mem q list)
      → ((q b : ℕ) → q < n → Mem q list → Mem b (L q) → Mem b list) → Descends (rows_of rows) p a → (a ≡ p) ⊎ Mem a list
  above_parent list p a lt there closed itself = inl refl
  above_parent list p a lt there closed (by_parent q m d) =
      let less = low p q m in
      let within : q < n = omega (arith, less, lt) in
      inr (closed q a within (there q m) (of_descends q a within d))

  -- further parents whose own parents are on a list that has all that stands above its members
  pub noted_alone : (list others : List ℕ) → ((p : ℕ) → Mem p others → p < n) → ((p q : ℕ) → Mem p others → Mem q (slice_index_or rows p []) → Mem q list)
      → ((q b : ℕ) → q < n → Mem q list → Mem b (L q) → Mem b list) → adds ◌==◌ list (joined (map L others)) ≡ adds ◌==◌ list others
  noted_alone list others within there closed =
      several_alone list list L others (λ a m. m)
      (λ p m. ap first (are.by p (within p m)) ∙ ancestors_first (rows_of rows) p)
      (λ p a m k. above_parent list p a (within p m) (λ q h. there p q m h) closed (descends_of p a (within p m) k))
