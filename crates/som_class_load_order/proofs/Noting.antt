-- One class more that is noted.
use Rattle.std.proofs.Common.{◌≡◌, ◌⊎◌, ℕ, inl, inr, Bool, List, [], ◌∷◌, ◌++◌, refl, sym, ap, ◌∙◌, subst, append_assoc, append-nil, Ordering, Less, Equal, Greater}
use Rattle.std.specs.Ordering.{match_ordering, nat_cmp}
use Rattle.std.specs.BTreeSet.{insert_key}
use Rattle.std.proofs.lemmas.Map.Lookups.{exact_pairs, exact_unsigned}
use Rattle.som_model.specs.Lists.{Mem}
use Rattle.som_model.specs.Metaclass.{rank}
use Rattle.som_model_laws.proofs.Members.{mem_left, mem_right, mem_split}
use Rattle.som_meta.specs.Numbering.{Numbering, key_at}
use Rattle.som_class_table.specs.Making.{IsMarked}
use Rattle.som_class_load_order.specs.Searching.{AreNoted, AreSame, in_turn}

exact : (x y : ℕ × ℕ) → in_turn x y ≡ Equal → x ≡ y
exact = exact_pairs nat_cmp nat_cmp exact_unsigned exact_unsigned

-- what is in a set after one key more

insert_here : (keys : List (ℕ × ℕ)) (q : ℕ × ℕ) → Mem q (insert_key in_turn keys q)
insert_here [] q = inl refl
insert_here (x ∷ xs) q = by (in_turn q x) refl (insert_here xs q)
  where
    by : (o : Ordering) → in_turn q x ≡ o → Mem q (insert_key in_turn xs q) → Mem q (match_ordering o (q ∷ x ∷ xs) (x ∷ xs) (x ∷ insert_key in_turn xs q))
    by Less e m = inl refl
    by Equal e m = inl (exact q x e)
    by Greater e m = inr m

insert_old : (keys : List (ℕ × ℕ)) (q p : ℕ × ℕ) → Mem p keys → Mem p (insert_key in_turn keys q)
insert_old [] q p m = absurd m
insert_old (x ∷ xs) q p m = by (in_turn q x) m (insert_old xs q p)
  where
    by : (o : Ordering) → Mem p (x ∷ xs) → (Mem p xs → Mem p (insert_key in_turn xs q)) → Mem p (match_ordering o (q ∷ x ∷ xs) (x ∷ xs) (x ∷ insert_key in_turn xs q))
    by Less n f = inr n
    by Equal n f = n
    by Greater n f = elim n [ inl e ↦ inl e | inr r ↦ inr (f r) ]

insert_only : (keys : List (ℕ × ℕ)) (q p : ℕ × ℕ) → Mem p (insert_key in_turn keys q) → (p ≡ q) ⊎ Mem p keys
insert_only [] q p m = elim m [ inl e ↦ inl e | inr z ↦ absurd z ]
insert_only (x ∷ xs) q p m = by (in_turn q x) m (insert_only xs q p)
  where
    by : (o : Ordering) → Mem p (match_ordering o (q ∷ x ∷ xs) (x ∷ xs) (x ∷ insert_key in_turn xs q)) → (Mem p (insert_key in_turn xs q) → (p ≡ q) ⊎ Mem p xs) → (p ≡ q) ⊎ Mem p (x ∷ xs)
    by Less n f = n
    by Equal n f = inr n
    by Greater n f = elim n [ inl e ↦ inr (inl e) | inr r ↦ elim (f r) [ inl e ↦ inl e | inr o ↦ inr (inr o) ] ]

module _ (k : Numbering) (classes : List ℕ) (keys later : List (ℕ × ℕ)) (same : AreSame k classes keys) (r n : ℕ) (is : r ≡ rank k.classes (key_at k n)) (inserted : later ≡ insert_key in_turn keys (r, n)) where
  more_there : (m : ℕ) → Mem m (classes ++ n ∷ []) → Mem (rank k.classes (key_at k m), m) (insert_key in_turn keys (r, n))
  more_there m i = elim (mem_split m classes (n ∷ []) i) [
    | inl o ↦ insert_old keys (r, n) (rank k.classes (key_at k m), m) (same.there m o)
    | inr o ↦ elim o [
      | inl e ↦ subst (λ z. Mem (rank k.classes (key_at k z), z) (insert_key in_turn keys (r, n))) (sym e) (subst (λ z. Mem (z, n) (insert_key in_turn keys (r, n))) is (insert_here keys (r, n)))
      | inr z ↦ absurd z
    ]
  ]

  more_only : (s m : ℕ) → Mem (s, m) (insert_key in_turn keys (r, n)) → Mem m (classes ++ n ∷ []) × (s ≡ rank k.classes (key_at k m))
  more_only s m i = elim (insert_only keys (r, n) (s, m) i) [
    | inl e ↦ (
        let number : m ≡ n = ap (λ (q : ℕ × ℕ). q.1) e in
        let ranks : s ≡ r = ap (λ (q : ℕ × ℕ). q.0) e in
        (mem_right m classes (n ∷ []) (inl number), ranks ∙ is ∙ ap (λ z. rank k.classes (key_at k z)) (sym number)))
    | inr o ↦ (let h = same.only s m o in (mem_left m classes (n ∷ []) h.0, h.1))
  ]

  -- a class that is new in the set goes to the end of the list
  pub same_more : AreSame k (classes ++ n ∷ []) later
  same_more = subst (AreSame k (classes ++ n ∷ [])) (sym inserted) (record { there = more_there; only = more_only })

  -- one that isn't new is in the list
  pub was_there : later ≡ keys → Mem n classes
  was_there e = (same.only r n (subst (λ z. Mem (r, n) z) (sym inserted ∙ e) (insert_here keys (r, n)))).0

module _ (made : List Bool) where
  pub noted_made : (n : ℕ) (old : List ℕ) → IsMarked made n → AreNoted made (λ m. m ≡ n) old old
  noted_made n old is = record { added = []; is = sym (append-nil old); only = λ m i. inl i; there = λ m e. inl (subst (IsMarked made) (sym e) is) }

  pub noted_there : (n : ℕ) (old : List ℕ) → Mem n old → AreNoted made (λ m. m ≡ n) old old
  noted_there n old is = record { added = []; is = sym (append-nil old); only = λ m i. inl i; there = λ m e. inr (subst (λ z. Mem z old) (sym e) is) }

  pub noted_new : (n : ℕ) (old : List ℕ) → (IsMarked made n → ⊥) → AreNoted made (λ m. m ≡ n) old (old ++ n ∷ [])
  noted_new n old not_made = record {
    added = n ∷ [];
    is = refl;
    only = λ m i. elim (mem_split m old (n ∷ []) i) [ inl o ↦ inl o | inr o ↦ elim o [ inl e ↦ inr (e, λ h. not_made (subst (IsMarked made) e h)) | inr z ↦ absurd z ] ];
    there = λ m e. inr (subst (λ z. Mem z (old ++ n ∷ [])) (sym e) (mem_right n old (n ∷ []) (inl refl)));
  }

  pub noted_none : (old : List ℕ) → AreNoted made (λ m. Mem m []) old old
  noted_none old = record { added = []; is = sym (append-nil old); only = λ m i. inl i; there = λ m e. absurd e }

  -- these and then those
  pub noted_both : (These Those All : ℕ → Type 0) (a b c : List ℕ) → AreNoted made These a b → AreNoted made Those b c
      → ((n : ℕ) → These n ⊎ Those n → All n) → ((n : ℕ) → All n → These n ⊎ Those n) → AreNoted made All a c
  noted_both These Those All a b c x y into out = record {
    added = x.added ++ y.added;
    is = y.is ∙ ap (λ z. z ++ y.added) x.is ∙ append_assoc a x.added y.added;
    only = λ n m. elim (y.only n m) [
      | inl o ↦ elim (x.only n o) [ inl p ↦ inl p | inr p ↦ inr (into n (inl p.0), p.1) ]
      | inr p ↦ inr (into n (inr p.0), p.1)
    ];
    there = λ n h. elim (out n h) [
      | inl t ↦ elim (x.there n t) [ inl z ↦ inl z | inr m ↦ inr (subst (λ z. Mem n z) (sym y.is) (mem_left n b y.added m)) ]
      | inr t ↦ y.there n t
    ];
  }
