-- Classes by rank and then by number are what is to be made, in order.
use Rattle.std.proofs.Common.{◌≡◌, ◌↔◌, ◌⊎◌, ℕ, zero, suc, ◌<◌, ◌≤◌, inl, inr, Bool, List, [], ◌∷◌, ◌++◌, map, length, take, get_or, Some, slice_get, refl, sym, ap, ◌∙◌, subst, arith, Ordering, Less, Equal, Greater, Result, Ok, Err, IfOk}
use Rattle.std.specs.List.Sorted.{IsStrictlySortedBy}
use Rattle.std.specs.Ordering.{nat_cmp, ordering_then}
use Rattle.std.proofs.lemmas.Bool.{cases_lt}
use Rattle.std.proofs.lemmas.Cmp.{ranked}
use Rattle.std.proofs.lemmas.List.{take_all}
use Rattle.std.proofs.lemmas.Map.Keys.{Less-from_sorted}
use Rattle.som_model.specs.declared.key.ClassKey.{ClassKey}
use Rattle.som_model.specs.Lists.{Mem}
use Rattle.som_model.specs.Class.{Class}
use Rattle.som_model.specs.Classes.{hierarchy, parents_of}
use Rattle.som_model.specs.Kernel.{kernel}
use Rattle.som_model.specs.Loads.{FacesLoad}
use Rattle.som_model.specs.Made.{ComesOf, root, parent, metaclass}
use Rattle.som_model.specs.Metaclass.{meta, rank}
use Rattle.som_model.proofs.NamedLaws.{hierarchy_parents}
use Rattle.som_model_laws.proofs.Lists.{get_mem, map_mem, mem_get, mem_map, take_get}
use Rattle.som_model_laws.proofs.Standing.{rank_falls}
use Rattle.som_model_laws.proofs.Metas.{meta_rank}
use Rattle.som_model_laws.proofs.Owners.{metaclass_known}
use Rattle.som_meta.specs.Numbering.{IsNumbered, Numbering, key_at}
use Rattle.som_class_ids.proofs.Declaring.{at_mem, mem_at}
use Rattle.som_class_table.specs.Loaded.{AreLoaded}
use Rattle.som_class_load_order.specs.Metas.{AreClosed}
use Rattle.som_class_load_order.proofs.Choosing.{low_is, second_key, second_numbered}
use Rattle.som_class_table.specs.Making.{AreToMake, HaveNeeds, IsMarked, IsNeeded, IsNeedOf, StandsBefore}
use Rattle.som_class_load_order.specs.Searching.{AreSame, AreSearched, in_turn}

-- what follows from two clauses on a value
pub both : {T E : Type 0} (r : Result T E) (P Q R : T → Type 0) → ((x : T) → P x → Q x → R x) → IfOk r P → IfOk r Q → IfOk r R
both (Ok x) P Q R f p q = f x p q
both (Err e) P Q R f p q = p

-- what comes first in turn

less_first : (a b c d : ℕ) (o : Ordering) → o ≡ nat_cmp a b → ordering_then o (nat_cmp c d) ≡ Less → (a < b) ⊎ ((a ≡ b) × (c < d))
less_first a b c d Less e h = inl (ranked a b Less e)
less_first a b c d Equal e h = inr (ranked a b Equal e, ranked c d Less (sym h))
less_first a b c d Greater e h = absurd (cc)

pub turn_first : (p q : ℕ × ℕ) → in_turn p q ≡ Less → (p.0 < q.0) ⊎ ((p.0 ≡ q.0) × (p.1 < q.1))
turn_first p q h = less_first p.0 q.0 p.1 q.1 (nat_cmp p.0 q.0) refl h

get_within : {A : Type 0} (xs : List A) (i : ℕ) (x : A) → slice_get xs i ≡ Some x → i < length xs
get_within [] i x e = absurd (cc)
get_within (y ∷ xs) zero x e = omega arith
get_within (y ∷ xs) (suc i) x e = let l = get_within xs i x e in omega (arith, l)

get_read : {A : Type 0} (xs : List A) (i : ℕ) (x d : A) → slice_get xs i ≡ Some x → get_or xs i d ≡ x
get_read [] i x d e = absurd (cc)
get_read (y ∷ xs) zero x d e = cc
get_read (y ∷ xs) (suc i) x d e = get_read xs i x d e

get_map : {A B : Type 0} (f : A → B) (xs : List A) (i : ℕ) (y : B) → slice_get (map f xs) i ≡ Some y → (x : A) × (slice_get xs i ≡ Some x) × (f x ≡ y)
get_map f [] i y e = absurd (cc)
get_map f (x ∷ xs) zero y e = (x, refl, (let h : f x ≡ y = cc in h))
get_map f (x ∷ xs) (suc i) y e = get_map f xs i y e

get_take : {A : Type 0} (n : ℕ) (xs : List A) (i : ℕ) (x : A) → i < n → slice_get xs i ≡ Some x → Mem x (take n xs)
get_take zero xs i x lt e = absurd (omega (arith, lt))
get_take (suc n) [] i x lt e = absurd (cc)
get_take (suc n) (y ∷ xs) zero x lt e = inl (let h : y ≡ x = cc in sym h)
get_take (suc n) (y ∷ xs) (suc i) x lt e = inr (get_take n xs i x (omega (arith, lt)) e)

-- the laws of ranks, of all classes

module _ (all cs : List Class) (is : all ≡ kernel ++ cs) (f : FacesLoad cs) where
  parent_rank : (x p : ClassKey) → Mem p ((hierarchy all).parents x) → rank all p ≤ rank all x
  parent_rank = subst (λ (z : List Class). (x p : ClassKey) → Mem p ((hierarchy z).parents x) → rank z p ≤ rank z x) (sym is) (rank_falls cs f.ordered)

  rank_here : (x : ClassKey) → 4 ≤ rank (kernel ++ cs) x → rank (kernel ++ cs) (meta (kernel ++ cs) x) < rank (kernel ++ cs) x
  rank_here x high = meta_rank cs f.ordered (λ k d m e i. (metaclass_known cs f.ordered k d m e i).2) x high

  metaclass_rank : (x : ClassKey) → 4 ≤ rank all x → rank all (meta all x) < rank all x
  metaclass_rank = subst (λ (z : List Class). (x : ClassKey) → 4 ≤ rank z x → rank z (meta z x) < rank z x) (sym is) rank_here

module _ (k : Numbering) (l : AreLoaded k) (closed : AreClosed k) (made : List Bool) (x : ℕ) (ix : IsNumbered k x) (first : IsMarked made 1) (have : HaveNeeds k (IsMarked made))
    (classes : List ℕ) (keys : List (ℕ × ℕ)) (same : AreSame k classes keys) (s : AreSearched k made x classes (length classes)) (sorted : IsStrictlySortedBy in_turn keys) where
  abbrev There : ℕ → Type 0
  There n = IsMarked made n ⊎ Mem n classes

  abbrev order : List ℕ
  order = map (λ (q : ℕ × ℕ). q.1) keys

  to_order : (n : ℕ) → Mem n classes → Mem n order
  to_order n m = mem_map (λ (q : ℕ × ℕ). q.1) (rank k.classes (key_at k n), n) keys (same.there n m)

  of_order : (n : ℕ) → Mem n order → Mem n classes
  of_order n m = let r = map_mem (λ (q : ℕ × ℕ). q.1) n keys m in subst (λ z. Mem z classes) (sym r.2) (same.only r.0.0 r.0.1 r.1).0

  among : (n : ℕ) → Mem n classes → Mem n (take (length classes) classes)
  among n m = subst (λ z. Mem n z) (sym (take_all (length classes) classes (omega arith))) m

  -- with each there are its needs
  needs_there : (n m : ℕ) → There n → IsNeedOf k n m → There m
  needs_there n m (inl z) h = inl (have n m z h)
  needs_there n m (inr i) h = s.needs n m (among n i) h

  -- what comes of the class has a number
  has_number : (y : ClassKey) → ComesOf k.classes (key_at k x ∷ []) y → Mem y k.keys
  has_number y (root z m) = elim m [ inl e ↦ subst (λ a. Mem a k.keys) (sym e) (at_mem k.keys x ix) | inr n ↦ absurd n ]
  has_number y (parent z p d m) = closed.parents z (has_number z d) p m
  has_number y (metaclass z d) = closed.metaclass z (has_number z d)

  -- and is there
  comes_there : (y : ClassKey) → ComesOf k.classes (key_at k x ∷ []) y → (n : ℕ) → IsNumbered k n → key_at k n ≡ y → There n
  comes_there y (root z m) n im e = elim m [ inl i ↦ subst There (sym (l.apart n x im ix (e ∙ i))) s.start | inr a ↦ absurd a ]
  comes_there y (parent z p d m) n im e =
      let r = mem_at k.keys z (has_number z d) in
      needs_there r.0 n (comes_there z d r.0 r.1 r.2) (im, inl (subst (λ a. Mem a (parents_of k.classes (key_at k r.0))) (sym e) (subst (λ a. Mem p (parents_of k.classes a)) (sym r.2) m)))
  comes_there y (metaclass z d) n im e =
      let r = mem_at k.keys z (has_number z d) in
      needs_there r.0 n (comes_there z d r.0 r.1 r.2) (im, inr (e ∙ ap (meta k.classes) (sym r.2)))

  which : (n : ℕ) → Mem n order ↔ (IsNumbered k n × IsNeeded k x n × (IsMarked made n → ⊥))
  which n = (
    (λ m. s.needed n (of_order n m)),
    (λ h. elim (comes_there (key_at k n) h.1 n h.0 refl) [ inl z ↦ absurd (h.2 z) | inr m ↦ to_order n m ]),
  )

  ordered : (i j m n : ℕ) → i < j → slice_get order i ≡ Some m → slice_get order j ≡ Some n → StandsBefore k m n
  ordered i j m n lt at to =
      let p = get_map (λ (q : ℕ × ℕ). q.1) keys i m at in
      let q = get_map (λ (q : ℕ × ℕ). q.1) keys j n to in
      let less : in_turn p.0 q.0 ≡ Less =
      subst (λ z. in_turn z q.0 ≡ Less) (get_read keys i p.0 (0, 0) p.1) (subst (λ z. in_turn (get_or keys i (0, 0)) z ≡ Less) (get_read keys j q.0 (0, 0) q.1)
      (Less-from_sorted in_turn keys i j (0, 0) sorted lt (get_within keys j q.0 q.1))) in
      let a : p.0.0 ≡ rank k.classes (key_at k m) = (same.only p.0.0 p.0.1 (get_mem keys i p.0 p.1)).1 ∙ ap (λ z. rank k.classes (key_at k z)) p.2 in
      let b : q.0.0 ≡ rank k.classes (key_at k n) = (same.only q.0.0 q.0.1 (get_mem keys j q.0 q.1)).1 ∙ ap (λ z. rank k.classes (key_at k z)) q.2 in
      by a b p.2 q.2 (turn_first p.0 q.0 less)
    where
      by : {u v c d : ℕ} → u ≡ rank k.classes (key_at k m) → v ≡ rank k.classes (key_at k n) → c ≡ m → d ≡ n → (u < v) ⊎ ((u ≡ v) × (c < d)) → StandsBefore k m n
      by a b e f (inl z) = inl (omega (arith, z, a, b))
      by a b e f (inr z) = inr (sym a ∙ z.0 ∙ b, (let w = z.1 in omega (arith, w, e, f)))

  -- what isn't made and is needed by a class stands before it
  precedes : (n m : ℕ) → Mem n classes → IsNeedOf k n m → (IsMarked made m → ⊥) → StandsBefore k m n
  precedes n m i (im, inl p) not_made =
      let le = parent_rank k.classes l.others l.is l.loads.faces (key_at k n) (key_at k m) (subst (λ z. Mem (key_at k m) z) (sym (hierarchy_parents k.classes (key_at k n))) p) in
      let lt = s.low n m (among n i) im p in
      elim (cases_lt (rank k.classes (key_at k m)) (rank k.classes (key_at k n))) [ inl z ↦ inl z | inr ge ↦ inr (omega (arith, le, ge), lt) ]
  precedes n m i (im, inr e) not_made = elim (cases_lt (rank k.classes (key_at k n)) 4) [
    | inl low ↦ absurd (not_made (subst (IsMarked made) (sym (l.apart m 1 im (second_numbered k l) (e ∙ sym (low_is k l (key_at k n) low) ∙ sym (second_key k l)))) first))
    | inr high ↦ (
        let lt = metaclass_rank k.classes l.others l.is l.loads.faces (key_at k n) high in
        let same_rank = ap (rank k.classes) e in
        inl (omega (arith, lt, same_rank)))
  ]

  not_both : (m n : ℕ) → StandsBefore k m n → StandsBefore k n m → ⊥
  not_both m n (inl a) (inl b) = omega (arith, a, b)
  not_both m n (inl a) (inr b) = let e = b.0 in omega (arith, a, e)
  not_both m n (inr a) (inl b) = let e = a.0 in omega (arith, b, e)
  not_both m n (inr a) (inr b) = let u = a.1 in let v = b.1 in omega (arith, u, v)

  -- so it stands at a lower place
  lower : (a b n m : ℕ) → slice_get order a ≡ Some n → slice_get order b ≡ Some m → StandsBefore k m n → b < a
  lower a b n m at to h = elim (cases_lt b a) [
    | inl lt ↦ lt
    | inr ge ↦ elim (cases_lt a b) [
      | inl lt ↦ absurd (not_both m n h (ordered a b n m lt at to))
      | inr le ↦ absurd (
          let place : a ≡ b = omega (arith, ge, le) in
          let one : n ≡ m = read (sym at ∙ ap (slice_get order) place ∙ to) in
          not_both m n h (subst (λ z. StandsBefore k z m) (sym one) (subst (λ z. StandsBefore k m z) one h)))
    ]
  ]
    where
      read : Some n ≡ Some m → n ≡ m
      read e = cc

  fronts : (i : ℕ) → HaveNeeds k (λ n. IsMarked made n ⊎ Mem n (take i order))
  fronts i n m (inl z) h = inl (have n m z h)
  fronts i n m (inr t) h =
      let a = mem_get (take i order) n t in
      let at = take_get i order a.0 n a.1 in
      let is_class = of_order n (get_mem order a.0 n at.1) in
      elim (needs_there n m (inr is_class) h) [
        | inl z ↦ inl z
        | inr c ↦ (
            let b = mem_get order m (to_order m c) in
            let lt = lower a.0 b.0 n m at.1 b.1 (precedes n m is_class h (s.needed m c).2) in
            let le = at.0 in
            inr (get_take i order b.0 m (omega (arith, lt, le)) b.1))
      ]

  pub in_order_is : AreToMake k made x order
  in_order_is = record { which = which; ordered = ordered; fronts = fronts }
