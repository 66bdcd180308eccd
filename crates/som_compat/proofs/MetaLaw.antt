-- Where a metaclass descends from a declared class.
use Rattle.std.proofs.Common.{◌≡◌, ◌↔◌, ℕ, zero, suc, ◌<◌, ◌≤◌, ◌+◌, ◌⊎◌, inl, inr, Bool, true, false, not, ◌&&◌, if◌then◌else◌, nat_lt, List, [], ◌∷◌, ◌++◌, map, length, Option, Some, None, refl, sym, ap, ◌∙◌, subst, arith, true≢false}
use Rattle.std.specs.Prelude.{unwrap_or}
use Rattle.std.proofs.lemmas.Bool.{cases_lt}
use Rattle.som_model.specs.declared.key.Module.{Module}
use Rattle.som_model.specs.declared.key.ClassKey.{ClassKey, out-ClassKey, roll-ClassKey, roll-out-ClassKey, out-roll-ClassKey, fold-roll-ClassKey}
use Rattle.som_model.specs.declared.key.ClassKey.TheOpen.{ClassKey-F}
use Rattle.som_model.specs.declared.key.ClassKey.TheVariants as keys
use Rattle.som_model.specs.declared.key.ClassKey.TheVariants.{rolls-Named, rolls-Derived, rolls-Proxy}
use Rattle.som_model.specs.Lists.{Mem, find, firsts, option_list, place_from}
use Rattle.som_model.specs.Keys.{same_key}
use Rattle.som_model.specs.Hierarchy.{Hierarchy}
use Rattle.som_model.specs.Ancestors.{Descends, itself, by_parent}
use Rattle.som_model.specs.Class.{Class}
use Rattle.som_model.specs.Classes.{class_at, parents_of, parents_in, parents_by, place_of, greatest, hierarchy, height_step, is_a}
use Rattle.som_model.specs.Kernel.{kernel, som_class}
use Rattle.som_model.specs.Metaclass.{rank, rank_step, is_low, is_above, lowest, meta_within, meta}
use Rattle.som_model.proofs.KeyLaws.{exact_keys}
use Rattle.som_model.proofs.NamedLaws.{out_named, height_named, rank_named, hierarchy_parents, parents_named}
use Rattle.som_model_laws.proofs.Members.{mem_left, mem_right, mem_split, some_mem, mem_without, without_mem, firsts_mem, find_first}
use Rattle.som_model_laws.proofs.Laws.{mem_firsts, descends_test, descends_through}
use Rattle.som_verify_classes.specs.Places.{class_of_place, key_at, face_at}
use Rattle.som_verify_classes.proofs.Falling.{mem_there}
use Rattle.som_verify_classes.proofs.Owners.{mem_middle}
use Rattle.som_verify_classes.proofs.PlainLists.{mem_map, map_mem}
use Rattle.som_verify_classes.proofs.PlainNames.{option_mem}
use Rattle.som_compat.specs.Metaclasses.{IsDeclared, Declares}
use Rattle.som_compat.proofs.Known.{IsKnown}

-- the declared metaclass, as a list
abbrev pub declared_in : Option Class → List ClassKey
declared_in None = []
declared_in (Some c) = option_list c.decl.face.metaclass

-- one class, or what is made of several
abbrev pub made : List ClassKey → ClassKey
made (k ∷ []) = k
made ks = keys.Derived ks

pub find_mem : {A : Type 0} (test : A → Bool) (xs : List A) (a : A) → find test xs ≡ Some a → Mem a xs × (test a ≡ true)
find_mem test xs a e = let r = find_first test xs a e in (mem_middle xs r.before r.after a r.parts, r.passes)

pub none_place : {A : Type 0} (n : ℕ) (test : A → Bool) (xs : List A) → find test xs ≡ None → place_from n test xs ≡ None
none_place n test [] e = refl
none_place n test (x ∷ xs) e = by (test x) e (none_place (suc n) test xs)
  where
    by : (b : Bool) → (if b then Some x else find test xs) ≡ None → (find test xs ≡ None → place_from (suc n) test xs ≡ None) → (if b then Some n else place_from (suc n) test xs) ≡ None
    by true e f = absurd (cc)
    by false e f = f e

-- counted from one less
less_one : {A : Type 0} (n m : ℕ) (test : A → Bool) (xs : List A) → unwrap_or (place_from (suc n) test xs) 0 ≡ suc m → unwrap_or (place_from n test xs) 0 ≡ m
less_one n m test [] e = absurd (omega (arith, e))
less_one n m test (x ∷ xs) e = by (test x) e (less_one (suc n) m test xs)
  where
    by : (b : Bool) → unwrap_or (if b then Some (suc n) else place_from (suc (suc n)) test xs) 0 ≡ suc m
        → (unwrap_or (place_from (suc (suc n)) test xs) 0 ≡ suc m → unwrap_or (place_from (suc n) test xs) 0 ≡ m) → unwrap_or (if b then Some n else place_from (suc n) test xs) 0 ≡ m
    by true e f = omega (arith, e)
    by false e f = f e

greatest_low : (ns : List ℕ) (n : ℕ) → Mem n ns → n ≤ greatest ns
greatest_low [] n m = absurd m
greatest_low (x ∷ ns) n (inl e) = omega (arith, e)
greatest_low (x ∷ ns) n (inr m) = let h = greatest_low ns n m in omega (arith, h)

below : (n m : ℕ) → nat_lt n m ≡ true → n < m
below n m e = grind (arith, e)

is_below : (n m : ℕ) → n < m → nat_lt n m ≡ true
is_below n m lt = grind (arith, lt)

abbrev is_named : ClassKey-F ClassKey → Bool
is_named (ClassKey-F.Named m x) = true
is_named (ClassKey-F.Derived ks) = false
is_named (ClassKey-F.Proxy k) = false

module _ (cs : List Class) (known : IsKnown cs) where
  abbrev h : Hierarchy ClassKey
  h = hierarchy cs

  -- the class of a known key stands at a place
  at_place : (k : ClassKey) (c : Class) → class_at cs k ≡ Some c → (p : ℕ) × (p < length cs) × (class_of_place cs p ≡ c) × (c.key ≡ k)
  at_place k c e =
      let r = find_mem (λ (c : Class). same_key c.key k) cs c e in
      let s = mem_there cs c r.0 in
      (s.0, s.1, s.2, exact_keys.two c.key k r.1)

  class_known : (p : ℕ) (c : Class) (k : ClassKey) → p < length cs → class_of_place cs p ≡ c → c.key ≡ k → class_at cs k ≡ Some c
  class_known p c k lt is key = ap (class_at cs) (sym key ∙ sym (ap (λ (c : Class). c.key) is)) ∙ known.found p lt ∙ ap (λ z. Some z) is

  made_unknown : (k : ClassKey) (o : Option Class) → is_named (out-ClassKey k) ≡ false → class_at cs k ≡ o → o ≡ None
  made_unknown k None e f = refl
  made_unknown k (Some c) e f =
      let r = at_place k c f in
      let n = known.named r.0 r.1 in
      let key : k ≡ keys.Named _ n.0 = sym (ap (λ (c : Class). c.key) r.2 ∙ r.3) ∙ n.1 in
      absurd (true≢false (sym (ap (λ z. is_named (out-ClassKey z)) key ∙ ap is_named (out_named _ n.0)) ∙ e))

  rank_at : (p : ℕ) → p < length cs → rank cs (key_at cs p) ≡ p
  rank_at p lt =
      let n = known.named p lt in
      let high : place_of 1 cs (keys.Named _ n.0) ≡ suc p = sym (height_named cs _ n.0) ∙ ap h.height (sym n.1) ∙ known.height p lt in
      ap (rank cs) n.1 ∙ rank_named cs _ n.0 ∙ less_one 0 p (λ (c : Class). same_key c.key (keys.Named _ n.0)) cs high

  -- what is low: a class of the kernel, or one that isn't known
  low_at : (p : ℕ) → p < length cs → is_low cs (key_at cs p) ≡ true → p < 4
  low_at p lt low = let r = below (rank cs (key_at cs p)) 4 low in let e = rank_at p lt in omega (arith, r, e)

  at_low : (p : ℕ) → p < length cs → p < 4 → is_low cs (key_at cs p) ≡ true
  at_low p lt less = let e = rank_at p lt in is_below (rank cs (key_at cs p)) 4 (omega (arith, e))

  rank_derived : (ks : List ClassKey) → rank cs (roll-ClassKey (ClassKey-F.Derived ks)) ≡ greatest (map (rank cs) ks)
  rank_derived ks = fold-roll-ClassKey ℕ (rank_step cs) (ClassKey-F.Derived ks)

  rank_proxy : (k : ClassKey) → rank cs (roll-ClassKey (ClassKey-F.Proxy k)) ≡ rank cs k
  rank_proxy k = fold-roll-ClassKey ℕ (rank_step cs) (ClassKey-F.Proxy k)

  height_derived : (ks : List ClassKey) → h.height (roll-ClassKey (ClassKey-F.Derived ks)) ≡ greatest (map h.height ks) + 1
  unfolding hierarchy
  height_derived ks = fold-roll-ClassKey ℕ (height_step cs) (ClassKey-F.Derived ks)

  height_proxy : (k : ClassKey) → h.height (roll-ClassKey (ClassKey-F.Proxy k)) ≡ h.height k + 1
  unfolding hierarchy
  height_proxy k = fold-roll-ClassKey ℕ (height_step cs) (ClassKey-F.Proxy k)

  rolled : (x : ClassKey) (l : ClassKey-F ClassKey) → out-ClassKey x ≡ l → roll-ClassKey l ≡ x
  rolled x l e = ap roll-ClassKey (sym e) ∙ roll-out-ClassKey x

  unknown_low : (x : ClassKey) (m : Module) (n : List ℕ) → x ≡ keys.Named m n → class_at cs x ≡ None → is_low cs x ≡ true
  unknown_low x m n is e =
      let none : place_of 0 cs (keys.Named m n) ≡ 0 = ap (λ (o : Option ℕ). unwrap_or o 0) (none_place 0 (λ (c : Class). same_key c.key (keys.Named m n)) cs (ap (class_at cs) (sym is) ∙ e)) in
      let zero_rank : rank cs x ≡ 0 = ap (rank cs) is ∙ rank_named cs m n ∙ none in
      is_below (rank cs x) 4 (omega (arith, zero_rank))

  named_layer : (x : ClassKey) (m : Module) (n : List ℕ) → out-ClassKey x ≡ ClassKey-F.Named m n → x ≡ keys.Named m n
  named_layer x m n e = sym (rolled x (ClassKey-F.Named m n) e) ∙ rolls-Named m n

  -- a class is low with what it is made of, and where it is one of the kernel's its parents are
  parents_at : (p : ℕ) (x k : ClassKey) → p < length cs → key_at cs p ≡ x → Mem k (h.parents x) → Mem k (face_at cs p).parents
  parents_at p x k lt is m = subst (λ z. Mem k z) (ap h.parents (sym is) ∙ known.parents p lt) m

  low_named : (x k : ClassKey) (m : Module) (n : List ℕ) (o : Option Class) → x ≡ keys.Named m n → class_at cs x ≡ o → is_low cs x ≡ true → Mem k (h.parents x) → is_low cs k ≡ true
  low_named x k m n None is e low mem =
      absurd (subst (λ z. Mem k z) (hierarchy_parents cs x ∙ ap (parents_of cs) is ∙ parents_named cs m n ∙ ap (λ z. parents_in (class_at cs z)) (sym is) ∙ ap parents_in e) mem)
  low_named x k m n (Some c) is e low mem =
      let r = at_place x c e in
      let here : key_at cs r.0 ≡ x = ap (λ (c : Class). c.key) r.2 ∙ r.3 in
      let less = low_at r.0 r.1 (ap (is_low cs) here ∙ low) in
      let q = known.stand r.0 k r.1 (parents_at r.0 x k r.1 here mem) in
      ap (is_low cs) (sym q.2) ∙ at_low q.0 (omega (arith, q.1, r.1)) (omega (arith, q.1, less))

  low_parents_by : (x k : ClassKey) (l : ClassKey-F ClassKey) → out-ClassKey x ≡ l → is_low cs x ≡ true → Mem k (h.parents x) → is_low cs k ≡ true
  low_parents_by x k (ClassKey-F.Named m n) e low mem = low_named x k m n (class_at cs x) (named_layer x m n e) refl low mem
  low_parents_by x k (ClassKey-F.Derived ks) e low mem =
      let in_list : Mem k ks = subst (λ z. Mem k z) (hierarchy_parents cs x ∙ ap (λ l. parents_by cs l x) e) mem in
      let top = ap (rank cs) (sym (rolled x (ClassKey-F.Derived ks) e)) ∙ rank_derived ks in
      let r = below (rank cs x) 4 low in
      let g = greatest_low (map (rank cs) ks) (rank cs k) (mem_map (rank cs) k ks in_list) in
      is_below (rank cs k) 4 (omega (arith, top, r, g))
  low_parents_by x k (ClassKey-F.Proxy of) e low mem =
      elim (subst (λ z. Mem k z) (hierarchy_parents cs x ∙ ap (λ l. parents_by cs l x) e) mem) [
        | inl is ↦ ap (is_low cs) is ∙ ap (λ r. nat_lt r 4) (sym (ap (rank cs) (sym (rolled x (ClassKey-F.Proxy of) e)) ∙ rank_proxy of)) ∙ low
        | inr z ↦ absurd z
      ]

  low_parents : (x k : ClassKey) → is_low cs x ≡ true → Mem k (h.parents x) → is_low cs k ≡ true
  low_parents x k low m = low_parents_by x k (out-ClassKey x) refl low m

  -- a class that isn't low declares its metaclass, if any does
  declares_high : (x c : ClassKey) (o : Option Class) → class_at cs x ≡ o → is_low cs x ≡ true → Mem c (declared_in o) → ⊥
  declares_high x c None e low m = m
  declares_high x c (Some d) e low m =
      let r = at_place x d e in
      let here : key_at cs r.0 ≡ x = ap (λ (c : Class). c.key) r.2 ∙ r.3 in
      let less = low_at r.0 r.1 (ap (is_low cs) here ∙ low) in
      kernel_none r.0 less (ap (λ (c : Class). c.decl.face.metaclass) (sym (known.kernel r.0 less).1 ∙ r.2) ∙ option_mem d.decl.face.metaclass c m)
    where
      kernel_none : (p : ℕ) → p < 4 → (class_of_place kernel p).decl.face.metaclass ≡ Some c → ⊥
      kernel_none zero lt e = cc
      kernel_none (suc zero) lt e = cc
      kernel_none (suc (suc zero)) lt e = cc
      kernel_none (suc (suc (suc zero))) lt e = cc
      kernel_none (suc (suc (suc (suc p)))) lt e = omega arith

  first_of : {A : Type 0} (xs : List A) → 1 ≤ length xs → (a : A) × Mem a xs
  first_of [] le = absurd (omega arith)
  first_of (x ∷ xs) le = (x, inl refl)

  high_named : (x : ClassKey) (m : Module) (n : List ℕ) (o : Option Class) → x ≡ keys.Named m n → class_at cs x ≡ o → is_low cs x ≡ false → (p : ClassKey) × Mem p (h.parents x)
  high_named x m n None is e high = absurd (true≢false (sym (unknown_low x m n is e) ∙ high))
  high_named x m n (Some c) is e high =
      let r = at_place x c e in
      let here : key_at cs r.0 ≡ x = ap (λ (c : Class). c.key) r.2 ∙ r.3 in
      elim (cases_lt r.0 4) [
        | inl less ↦ absurd (true≢false (sym (at_low r.0 r.1 less) ∙ ap (is_low cs) here ∙ high))
        | inr ge ↦ (let f = first_of (face_at cs r.0).parents (known.some r.0 r.1 ge) in (f.0, subst (λ z. Mem f.0 z) (sym (known.parents r.0 r.1) ∙ ap h.parents here) f.1))
      ]

  has_parent_by : (x : ClassKey) (l : ClassKey-F ClassKey) → out-ClassKey x ≡ l → is_low cs x ≡ false → (p : ClassKey) × Mem p (h.parents x)
  has_parent_by x (ClassKey-F.Named m n) e high = high_named x m n (class_at cs x) (named_layer x m n e) refl high
  has_parent_by x (ClassKey-F.Derived []) e high =
      let top : rank cs x ≡ 0 = ap (rank cs) (sym (rolled x (ClassKey-F.Derived []) e)) ∙ rank_derived [] in
      absurd (true≢false (sym (is_below (rank cs x) 4 (omega (arith, top))) ∙ high))
  has_parent_by x (ClassKey-F.Derived (k ∷ ks)) e high = (k, subst (λ z. Mem k z) (sym (hierarchy_parents cs x ∙ ap (λ l. parents_by cs l x) e)) (inl refl))
  has_parent_by x (ClassKey-F.Proxy of) e high = (of, subst (λ z. Mem of z) (sym (hierarchy_parents cs x ∙ ap (λ l. parents_by cs l x) e)) (inl refl))

  has_parent : (x : ClassKey) → is_low cs x ≡ false → (p : ClassKey) × Mem p (h.parents x)
  has_parent x high = has_parent_by x (out-ClassKey x) refl high

  -- no class but one that isn't known is at the bottom
  bottom_by : (x : ClassKey) (l : ClassKey-F ClassKey) → out-ClassKey x ≡ l → h.height x ≡ 0 → is_low cs x ≡ true
  bottom_by x (ClassKey-F.Named m n) e low = by (class_at cs x) refl
    where
      by : (o : Option Class) → class_at cs x ≡ o → is_low cs x ≡ true
      by None f = unknown_low x m n (named_layer x m n e) f
      by (Some c) f = let r = at_place x c f in let g = known.height r.0 r.1 in let k = ap h.height (ap (λ (c : Class). c.key) r.2 ∙ r.3) in absurd (omega (arith, g, k, low))
  bottom_by x (ClassKey-F.Derived ks) e low = let top = ap h.height (sym (rolled x (ClassKey-F.Derived ks) e)) ∙ height_derived ks in absurd (omega (arith, top, low))
  bottom_by x (ClassKey-F.Proxy of) e low = let top = ap h.height (sym (rolled x (ClassKey-F.Proxy of) e)) ∙ height_proxy of in absurd (omega (arith, top, low))

  -- a made class descends from a declared one where one of those that it is made of does
  made_descends : (ks : List ClassKey) (k n : ClassKey) → Mem k ks → IsDeclared n → Descends h (made ks) n ↔ ((c : ClassKey) × Mem c ks × Descends h c n)
  made_descends [] k n m d = absurd m
  made_descends (x ∷ []) k n m d = ((λ e. (x, inl refl, e)), (λ r. elim r.1 [ inl is ↦ subst (λ z. Descends h z n) is r.2 | inr z ↦ absurd z ]))
  made_descends (x ∷ y ∷ ks) k n m d =
      ((λ e. down (keys.Derived (x ∷ y ∷ ks)) n refl d e), (λ r. by_parent r.0 (subst (λ z. Mem r.0 z) (sym (parents_derived (x ∷ y ∷ ks))) r.1) r.2))
    where
      parents_derived : (zs : List ClassKey) → h.parents (keys.Derived zs) ≡ zs
      parents_derived zs = hierarchy_parents cs (keys.Derived zs) ∙ ap (λ l. parents_by cs l (keys.Derived zs)) (ap out-ClassKey (sym (rolls-Derived zs)) ∙ out-roll-ClassKey (ClassKey-F.Derived zs))

      not_declared : (zs : List ClassKey) (a : ClassKey) → IsDeclared a → a ≡ keys.Derived zs → ⊥
      not_declared zs a d e = true≢false (
          sym (ap is_named (out_named d.module_ d.name)) ∙ ap (λ z. is_named (out-ClassKey z)) (sym d.is ∙ e)
          ∙ ap is_named (ap out-ClassKey (sym (rolls-Derived zs)) ∙ out-roll-ClassKey (ClassKey-F.Derived zs)))

      down : (a b : ClassKey) → a ≡ keys.Derived (x ∷ y ∷ ks) → IsDeclared b → Descends h a b → (c : ClassKey) × Mem c (x ∷ y ∷ ks) × Descends h c b
      down a b is dec itself = absurd (not_declared (x ∷ y ∷ ks) a dec is)
      down a b is dec (by_parent p mp e) = (p, subst (λ z. Mem p z) (ap h.parents is ∙ parents_derived (x ∷ y ∷ ks)) mp, e)

  -- above each there is one that isn't struck out
  at_most : (x a : ClassKey) → Descends h x a → h.height a ≤ h.height x
  at_most x a itself = omega arith
  at_most x a (by_parent p m d) = let f = known.falls x p m in let g = at_most p a d in omega (arith, f, g)

  lower_by : (x a : ClassKey) → Descends h x a → same_key x a ≡ false → h.height a < h.height x
  lower_by x a itself neg = absurd (true≢false (sym (exact_keys.one x) ∙ neg))
  lower_by x a (by_parent p m d) neg = let f = known.falls x p m in let g = at_most p a d in omega (arith, f, g)

  not_same : (b c : Bool) → (not b && c) ≡ true → (b ≡ false) × (c ≡ true)
  not_same true c e = absurd (true≢false (sym e))
  not_same false c e = (refl, e)

  above_some : (k : ClassKey) (xs : List ClassKey) → is_above cs xs k ≡ true → (x : ClassKey) × Mem x xs × (same_key x k ≡ false) × Descends h x k
  above_some k xs e =
      let r = some_mem (λ x. not (same_key x k) && is_a cs x k) xs e in
      let s = not_same (same_key r.0 k) (is_a cs r.0 k) r.2 in
      (r.0, r.1, s.0, (descends_test h known.tells known.falls r.0 k).0 s.1)

  bound : (xs : List ClassKey) → (most : ℕ) × ((x : ClassKey) → Mem x xs → h.height x ≤ most)
  bound [] = (0, λ x m. absurd m)
  bound (y ∷ ys) = let r = bound ys in (h.height y + r.0, λ x m. elim m [ inl e ↦ (let f = ap h.height e in omega (arith, f)) | inr n ↦ (let g = r.1 x n in omega (arith, g)) ])

  star : (xs : List ClassKey) (most : ℕ) → ((x : ClassKey) → Mem x xs → h.height x ≤ most) → (n : ℕ) (k : ClassKey) (b : Bool) → is_above cs xs k ≡ b → Mem k xs → most ≤ n + h.height k
      → (s : ClassKey) × Mem s (lowest cs xs) × Descends h s k
  star xs most few n k false e m le = (k, mem_without (is_above cs xs) k xs (λ t. true≢false (sym t ∙ e)) m, itself)
  star xs most few zero k true e m le = let r = above_some k xs e in let f = few r.0 r.1 in let g = lower_by r.0 k r.3 r.2 in absurd (omega (arith, f, g, le))
  star xs most few (suc n) k true e m le =
      let r = above_some k xs e in
      let g = lower_by r.0 k r.3 r.2 in
      let le2 : most ≤ n + h.height r.0 = omega (arith, g, le) in
      let s = star xs most few n r.0 (is_above cs xs r.0) refl r.1 le2 in
      (s.0, s.1, descends_through h s.0 r.0 k s.2 r.3)

  stays_above : (xs : List ClassKey) (k : ClassKey) → Mem k xs → (s : ClassKey) × Mem s (lowest cs xs) × Descends h s k
  stays_above xs k m = let b = bound xs in star xs b.0 b.1 b.0 k (is_above cs xs k) refl m (omega arith)

  -- the metaclasses from which that of x is made
  abbrev candidates : ℕ → ClassKey → List ClassKey
  candidates lv x = declared_in (class_at cs x) ++ map (meta_within cs lv) (parents_of cs x)

  -- the declared metaclass of an ancestor descends from n
  abbrev ByAncestor : ClassKey → ClassKey → Type 0
  ByAncestor x n = (d : ClassKey) × (c : ClassKey) × Descends h x d × Mem c (declared_in (class_at cs d)) × Descends h c n

  abbrev Reaches : ClassKey → ClassKey → Type 0
  Reaches x n = Descends h som_class n ⊎ ByAncestor x n

  module _ (n : ClassKey) (dec : IsDeclared n) where
    no_declared : (x d c : ClassKey) → is_low cs x ≡ true → Descends h x d → Mem c (declared_in (class_at cs d)) → ⊥
    no_declared x d c low itself m = declares_high x c (class_at cs x) refl low m
    no_declared x d c low (by_parent p mp e) m = no_declared p d c (low_parents x p low mp) e m

    in_parents : (x p : ClassKey) → Mem p (h.parents x) → Mem p (parents_of cs x)
    in_parents x p m = subst (λ z. Mem p z) (hierarchy_parents cs x) m

    of_parents : (x p : ClassKey) → Mem p (parents_of cs x) → Mem p (h.parents x)
    of_parents x p m = subst (λ z. Mem p z) (sym (hierarchy_parents cs x)) m

    from_parent : (lv : ℕ) (x p : ClassKey) → Mem p (h.parents x) → Mem (meta_within cs lv p) (candidates lv x)
    from_parent lv x p m = mem_right _ (declared_in (class_at cs x)) _ (mem_map (meta_within cs lv) p (parents_of cs x) (in_parents x p m))

    candidate : (lv : ℕ) (x : ClassKey) → is_low cs x ≡ false → ((p : ClassKey) → Mem p (h.parents x) → Descends h (meta_within cs lv p) n ↔ Reaches p n)
        → Reaches x n → (c : ClassKey) × Mem c (candidates lv x) × Descends h c n
    candidate lv x high f (inl d) = let p = has_parent x high in (meta_within cs lv p.0, from_parent lv x p.0 p.1, (f p.0 p.1).1 (inl d))
    candidate lv x high f (inr (d, c, itself, md, dc)) = (c, mem_left c (declared_in (class_at cs x)) _ md, dc)
    candidate lv x high f (inr (d, c, by_parent p mp e, md, dc)) = (meta_within cs lv p, from_parent lv x p mp, (f p mp).1 (inr (d, c, e, md, dc)))

    up : (x p : ClassKey) → Mem p (h.parents x) → Reaches p n → Reaches x n
    up x p mp (inl d) = inl d
    up x p mp (inr (d, c, e, md, dc)) = inr (d, c, by_parent p mp e, md, dc)

    firsts_same : (xs : List ClassKey) → firsts h.same xs ≡ firsts same_key xs
    unfolding hierarchy
    firsts_same xs = refl

    step : (lv : ℕ) (x : ClassKey) (b : Bool) → is_low cs x ≡ b → ((p : ClassKey) → Mem p (h.parents x) → Descends h (meta_within cs lv p) n ↔ Reaches p n)
        → Descends h (if b then som_class else made (lowest cs (firsts same_key (candidates lv x)))) n ↔ Reaches x n
    step lv x true low f = (λ d. inl d, λ r. elim r [ inl d ↦ d | inr (d, c, e, md, dc) ↦ absurd (no_declared x d c low e md) ])
    step lv x false high f =
        let all = firsts h.same (candidates lv x) in
        let p = has_parent x high in
        let in_all = mem_firsts h known.tells (meta_within cs lv p.0) (candidates lv x) (from_parent lv x p.0 p.1) in
        let same : firsts h.same (candidates lv x) ≡ firsts same_key (candidates lv x) = firsts_same (candidates lv x) in
        let s = stays_above (firsts same_key (candidates lv x)) (meta_within cs lv p.0) (subst (λ z. Mem (meta_within cs lv p.0) z) same in_all) in
        let one = made_descends (lowest cs (firsts same_key (candidates lv x))) s.0 n s.1 dec in (
          λ d. let c = one.0 d in
              elim (mem_split c.0 (declared_in (class_at cs x)) (map (meta_within cs lv) (parents_of cs x)) (firsts_mem same_key c.0 (candidates lv x) (without_mem (is_above cs (firsts same_key (candidates lv x))) c.0 (firsts same_key (candidates lv x)) c.1))) [
                | inl md ↦ inr (x, c.0, itself, md, c.2)
                | inr mp ↦ (let q = map_mem (meta_within cs lv) c.0 (parents_of cs x) mp in up x q.0 (of_parents x q.0 q.1) ((f q.0 (of_parents x q.0 q.1)).0 (subst (λ z. Descends h z n) q.2 c.2)))
              ],
          λ r. let c = candidate lv x high f r in
              let t = stays_above (firsts same_key (candidates lv x)) c.0 (subst (λ z. Mem c.0 z) same (mem_firsts h known.tells c.0 (candidates lv x) c.1)) in
              one.1 (t.0, t.1, descends_through h t.0 c.0 n t.2 c.2),
        )

    within : (lv : ℕ) (x : ClassKey) → h.height x ≤ lv → Descends h (meta_within cs lv x) n ↔ Reaches x n
    within zero x le =
        let low : is_low cs x ≡ true = bottom_by x (out-ClassKey x) refl (omega (arith, le)) in
        (λ d. inl d, λ r. elim r [ inl d ↦ d | inr (d, c, e, md, dc) ↦ absurd (no_declared x d c low e md) ])
    within (suc lv) x le = step lv x (is_low cs x) refl (λ p mp. let lower = known.falls x p mp in let le2 : h.height p ≤ lv = omega (arith, lower, le) in within lv p le2)

    -- a metaclass descends from a declared class where SOMClass does, or the declared metaclass of some ancestor does
    pub meta_reaches : (x : ClassKey) → Descends h (meta cs x) n ↔ Reaches x n
    meta_reaches x = within (h.height x) x (omega arith)

  to_declares : (x n d c : ClassKey) (o : Option Class) → class_at cs d ≡ o → Descends h x d → Mem c (declared_in o) → Descends h c n → Declares cs x n
  to_declares x n d c None e xd md dc = absurd md
  to_declares x n d c (Some k) e xd md dc =
      let r = find_mem (λ (c : Class). same_key c.key d) cs k e in
      record { class = k; there = r.0; above = subst (λ z. Descends h x z) (sym (exact_keys.two k.key d r.1)) xd; metaclass = c; declared = option_mem k.decl.face.metaclass c md; below = dc }

  of_declares : (x n : ClassKey) → Declares cs x n → ByAncestor x n
  of_declares x n d =
      let r = mem_there cs d.class d.there in
      let at = class_known r.0 d.class d.class.key r.1 r.2 refl in
      (d.class.key, d.metaclass, d.above, subst (λ (o : Option Class). Mem d.metaclass (declared_in o)) (sym at) (subst (λ (o : Option ClassKey). Mem d.metaclass (option_list o)) (sym d.declared) (inl refl)), d.below)

  pub meta_law : (x n : ClassKey) → IsDeclared n → Descends h (meta cs x) n ↔ (Descends h som_class n ⊎ Declares cs x n)
  meta_law x n dec = (
    λ d. elim ((meta_reaches n dec x).0 d) [ inl r ↦ inl r | inr (d, c, e, md, dc) ↦ inr (to_declares x n d c (class_at cs d) refl e md dc) ],
    λ r. (meta_reaches n dec x).1 (elim r [ inl e ↦ inl e | inr d ↦ inr (of_declares x n d) ]),
  )
