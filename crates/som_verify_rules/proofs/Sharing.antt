-- Only names that stand twice among all classes can stand twice among the ancestors of one.
use Rattle.std.proofs.Common.{◌≡◌, ℕ, ◌⊎◌, inl, inr, Bool, true, false, not, if◌then◌else◌, List, [], ◌∷◌, ◌++◌, flat_map, refl, sym, ap, ◌∙◌, subst, true≢false}
use Rattle.std.specs.Prelude.{filter}
use Rattle.std.proofs.lemmas.List.Elements.{filter-append}
use Rattle.std.proofs.lemmas.List.{append-nil}
use Rattle.std.specs.Str.{bytes_eq}
use Rattle.som_model.specs.Lists.{Mem, among, doubles, some}
use Rattle.som_model.proofs.KeyLaws.{exact_bytes}
use Rattle.som_model.proofs.ListLaws.{is_false}
use Rattle.som_model_laws.proofs.Laws.{among_mem}
use Rattle.som_model_laws.proofs.Members.{mem_left, mem_right, mem_split, some_mem, Apart}
use Rattle.som_verify_rules.specs.Shared.{Twice, Covers}

-- ---- what is noted

twice_last : (name x : List ℕ) (xs : List (List ℕ)) → Twice name (xs ++ x ∷ []) → Twice name xs ⊎ ((name ≡ x) × Mem name xs)
twice_last name x [] (inl p) = absurd p.1
twice_last name x [] (inr t) = absurd t
twice_last name x (y ∷ xs) (inl p) = elim (mem_split name xs (x ∷ []) p.1) [
  | inl m ↦ inl (inl (p.0, m))
  | inr m ↦ elim m [ inl e ↦ inr (e, inl p.0) | inr k ↦ absurd k ]
]
twice_last name x (y ∷ xs) (inr t) = elim (twice_last name x xs t) [ inl s ↦ inl (inr s) | inr p ↦ inr (p.0, inr p.1) ]

last_mem : (name x : List ℕ) (xs ys : List (List ℕ)) → ((n : List ℕ) → Mem n xs → Mem n ys) → Mem x ys → Mem name (xs ++ x ∷ []) → Mem name ys
last_mem name x xs ys f m k = elim (mem_split name xs (x ∷ []) k) [
  | inl n ↦ f name n
  | inr n ↦ elim n [ inl e ↦ subst (λ z. Mem z ys) (sym e) m | inr z ↦ absurd z ]
]

-- a name that wasn't seen before
pub first_time : (name : List ℕ) (done seen shared more : List (List ℕ)) → among name seen ≡ false → more ≡ seen ++ name ∷ [] → Covers done seen shared → Covers (done ++ name ∷ []) more shared
first_time name done seen shared more new is c = record {
  all = λ n m. subst (λ z. Mem n z) (sym is) (last_mem n name done (seen ++ name ∷ []) (λ k q. mem_left k seen (name ∷ []) (c.all k q)) (mem_right name seen (name ∷ []) (inl refl)) m);
  twice = λ n t. elim (twice_last n name done t) [
    | inl s ↦ c.twice n s
    | inr p ↦ absurd (true≢false (sym ((among_mem name seen).1 (c.all name (subst (λ z. Mem z done) p.0 p.1))) ∙ new))
  ];
}

-- one that was
pub second_time : (name : List ℕ) (done seen shared more again : List (List ℕ)) → among name seen ≡ true → more ≡ seen → again ≡ (if not (among name shared) then shared ++ name ∷ [] else shared) → Covers done seen shared → Covers (done ++ name ∷ []) more again
second_time name done seen shared more again old is grown c =
    let r = with_it (among name shared) refl in
    record {
      all = λ n m. subst (λ z. Mem n z) (sym is) (last_mem n name done seen c.all ((among_mem name seen).0 old) m);
      twice = λ n t. subst (λ z. Mem n z) (sym grown) (elim (twice_last n name done t) [
        | inl s ↦ r.1 n (c.twice n s)
        | inr p ↦ subst (λ z. Mem z (if not (among name shared) then shared ++ name ∷ [] else shared)) (sym p.0) r.0
      ]);
    }
  where
    with_it : (b : Bool) → among name shared ≡ b → Mem name (if not (among name shared) then shared ++ name ∷ [] else shared) × ((n : List ℕ) → Mem n shared → Mem n (if not (among name shared) then shared ++ name ∷ [] else shared))
    with_it true e = rw e ((among_mem name shared).0 e, λ n m. m)
    with_it false e = rw e (mem_right name shared (name ∷ []) (inl refl), λ n m. mem_left n shared (name ∷ []) m)

not_false : (b : Bool) → not b ≡ false → b ≡ true
not_false true e = refl
not_false false e = absurd (true≢false e)

-- a name that was seen before or wasn't, as noting it tells
pub seen_first : (name : List ℕ) (done seen shared more : List (List ℕ)) (new : Bool) → new ≡ not (among name seen) → more ≡ (if new then seen ++ name ∷ [] else seen) → new ≡ true
    → Covers done seen shared → Covers (done ++ name ∷ []) more shared
seen_first name done seen shared more new is grown yes_ c =
    first_time name done seen shared more (is_false (among name seen) (sym is ∙ yes_)) (grown ∙ ap (λ (b : Bool). if b then seen ++ name ∷ [] else seen) yes_) c

pub seen_again : (name : List ℕ) (done seen shared more again : List (List ℕ)) (new other : Bool) → new ≡ not (among name seen) → more ≡ (if new then seen ++ name ∷ [] else seen) → new ≡ false
    → other ≡ not (among name shared) → again ≡ (if other then shared ++ name ∷ [] else shared) → Covers done seen shared → Covers (done ++ name ∷ []) more again
seen_again name done seen shared more again new other is grown no_ known wider c =
    second_time name done seen shared more again (not_false (among name seen) (sym is ∙ no_)) (grown ∙ ap (λ (b : Bool). if b then seen ++ name ∷ [] else seen) no_)
    (wider ∙ ap (λ (b : Bool). if b then shared ++ name ∷ [] else shared) known) c

-- ---- what is left out

module _ (p : List ℕ → Bool) where
  some_by : (x y : List ℕ) (before : List (List ℕ)) (b c : Bool) → p x ≡ true → p y ≡ b → bytes_eq x y ≡ c → some (bytes_eq x) (filter p before) ≡ some (bytes_eq x) before
      → some (bytes_eq x) (filter p (y ∷ before)) ≡ some (bytes_eq x) (y ∷ before)
  some_by x y before true c e f g rest = rw f (ap (λ z. if bytes_eq x y then true else z) rest)
  some_by x y before false true e f g rest = absurd (true≢false (sym e ∙ ap p (exact_bytes.two x y g) ∙ f))
  some_by x y before false false e f g rest = rw (f, g) rest

  some_kept : (x : List ℕ) (before : List (List ℕ)) → p x ≡ true → some (bytes_eq x) (filter p before) ≡ some (bytes_eq x) before
  some_kept x [] e = refl
  some_kept x (y ∷ before) e = some_by x y before (p y) (bytes_eq x y) e refl refl (some_kept x before e)

  one_kept : (x : List ℕ) → p x ≡ true → filter p (x ∷ []) ≡ x ∷ []
  one_kept x e = rw e refl

  one_gone : (x : List ℕ) → p x ≡ false → filter p (x ∷ []) ≡ []
  one_gone x e = rw e refl

  -- one name more, by whether it stood before and whether it passes
  double_by : (x : List ℕ) (before xs : List (List ℕ)) (b c : Bool) → some (bytes_eq x) before ≡ b → p x ≡ c → (Mem x before → p x ≡ true)
      → doubles bytes_eq (filter p before) (filter p xs) ≡ doubles bytes_eq before xs
      → doubles bytes_eq (filter p (before ++ x ∷ [])) (filter p xs) ≡ doubles bytes_eq (before ++ x ∷ []) xs
      → doubles bytes_eq (filter p before) (filter p (x ∷ xs)) ≡ doubles bytes_eq before (x ∷ xs)
  double_by x before xs true true e h passes same more = let s = some_kept x before h in rw (h, s, e) (ap (λ z. x ∷ z) same)
  double_by x before xs true false e h passes same more =
      let r = some_mem (bytes_eq x) before e in
      absurd (true≢false (sym (passes (subst (λ z. Mem z before) (sym (exact_bytes.two x r.0 r.2)) r.1)) ∙ h))
  double_by x before xs false true e h passes same more =
      let s = some_kept x before h in
      let one : filter p (before ++ x ∷ []) ≡ filter p before ++ x ∷ [] = filter-append p before (x ∷ []) ∙ ap (λ z. filter p before ++ z) (one_kept x h) in
      rw (h, s, e) (ap (λ z. doubles bytes_eq z (filter p xs)) (sym one) ∙ more)
  double_by x before xs false false e h passes same more =
      let one : filter p (before ++ x ∷ []) ≡ filter p before = filter-append p before (x ∷ []) ∙ ap (λ z. filter p before ++ z) (one_gone x h) ∙ append-nil (filter p before) in
      rw (h, e) (ap (λ z. doubles bytes_eq z (filter p xs)) (sym one) ∙ more)

  onward : (x : List ℕ) (before xs : List (List ℕ)) → ((n : List ℕ) → Mem n before → Mem n (x ∷ xs) → p n ≡ true) → ((n : List ℕ) → Twice n (x ∷ xs) → p n ≡ true)
      → (n : List ℕ) → Mem n (before ++ x ∷ []) → Mem n xs → p n ≡ true
  onward x before xs f g n m k = elim (mem_split n before (x ∷ []) m) [
    | inl q ↦ f n q (inr k)
    | inr q ↦ elim q [ inl e ↦ g n (inl (e, k)) | inr z ↦ absurd z ]
  ]

  -- the doubles of a list are those of what is left of it, where each name passes that stands twice
  pub doubles_kept : (before xs : List (List ℕ)) → ((n : List ℕ) → Mem n before → Mem n xs → p n ≡ true) → ((n : List ℕ) → Twice n xs → p n ≡ true)
      → doubles bytes_eq (filter p before) (filter p xs) ≡ doubles bytes_eq before xs
  doubles_kept before [] f g = refl
  doubles_kept before (x ∷ xs) f g =
      double_by x before xs (some (bytes_eq x) before) (p x) refl refl (λ m. f x m (inl refl))
      (doubles_kept before xs (λ n m k. f n m (inr k)) (λ n t. g n (inr t)))
      (doubles_kept (before ++ x ∷ []) xs (onward x before xs f g) (λ n t. g n (inr t)))

-- ---- names twice among some of the classes

twice_left : (n : List ℕ) (xs ys : List (List ℕ)) → Twice n xs → Twice n (xs ++ ys)
twice_left n [] ys t = absurd t
twice_left n (x ∷ xs) ys (inl p) = inl (p.0, mem_left n xs ys p.1)
twice_left n (x ∷ xs) ys (inr t) = inr (twice_left n xs ys t)

twice_right : (n : List ℕ) (xs ys : List (List ℕ)) → Twice n ys → Twice n (xs ++ ys)
twice_right n [] ys t = t
twice_right n (x ∷ xs) ys t = inr (twice_right n xs ys t)

twice_across : (n : List ℕ) (xs ys : List (List ℕ)) → Mem n xs → Mem n ys → Twice n (xs ++ ys)
twice_across n [] ys m k = absurd m
twice_across n (x ∷ xs) ys (inl e) k = inl (e, mem_right n xs ys k)
twice_across n (x ∷ xs) ys (inr m) k = inr (twice_across n xs ys m k)

-- where a name stands twice in lists that are joined: in one of them, or in two
twice_split : (n : List ℕ) (xs ys : List (List ℕ)) → Twice n (xs ++ ys) → Twice n xs ⊎ (Twice n ys ⊎ (Mem n xs × Mem n ys))
twice_split n [] ys t = inr (inl t)
twice_split n (x ∷ xs) ys (inl p) = elim (mem_split n xs ys p.1) [ inl m ↦ inl (inl (p.0, m)) | inr m ↦ inr (inr (inl p.0, m)) ]
twice_split n (x ∷ xs) ys (inr t) = elim (twice_split n xs ys t) [
  | inl s ↦ inl (inr s)
  | inr s ↦ elim s [ inl u ↦ inr (inl u) | inr q ↦ inr (inr (inr q.0, q.1)) ]
]

module _ {A : Type 0} (f : A → List (List ℕ)) where
  flat_from : (n : List ℕ) (xs : List A) → Mem n (flat_map f xs) → (x : A) × Mem x xs × Mem n (f x)
  flat_from n [] m = absurd m
  flat_from n (x ∷ xs) m = elim (mem_split n (f x) (flat_map f xs) m) [ inl k ↦ (x, inl refl, k) | inr k ↦ (let r = flat_from n xs k in (r.0, inr r.1, r.2)) ]

  flat_to : (n : List ℕ) (x : A) (xs : List A) → Mem x xs → Mem n (f x) → Mem n (flat_map f xs)
  flat_to n x [] m k = absurd m
  flat_to n x (y ∷ xs) (inl e) k = mem_left n (f y) (flat_map f xs) (subst (λ z. Mem n (f z)) e k)
  flat_to n x (y ∷ xs) (inr m) k = mem_right n (f y) (flat_map f xs) (flat_to n x xs m k)

  twice_one : (n : List ℕ) (x : A) (xs : List A) → Mem x xs → Twice n (f x) → Twice n (flat_map f xs)
  twice_one n x [] m t = absurd m
  twice_one n x (y ∷ xs) (inl e) t = twice_left n (f y) (flat_map f xs) (subst (λ z. Twice n (f z)) e t)
  twice_one n x (y ∷ xs) (inr m) t = twice_right n (f y) (flat_map f xs) (twice_one n x xs m t)

  twice_two : (n : List ℕ) (x y : A) (xs : List A) → Mem x xs → Mem y xs → (x ≡ y → ⊥) → Mem n (f x) → Mem n (f y) → Twice n (flat_map f xs)
  twice_two n x y [] m k d p q = absurd m
  twice_two n x y (z ∷ xs) (inl e) (inl g) d p q = absurd (d (e ∙ sym g))
  twice_two n x y (z ∷ xs) (inl e) (inr k) d p q = twice_across n (f z) (flat_map f xs) (subst (λ w. Mem n (f w)) e p) (flat_to n y xs k q)
  twice_two n x y (z ∷ xs) (inr m) (inl g) d p q = twice_across n (f z) (flat_map f xs) (subst (λ w. Mem n (f w)) g q) (flat_to n x xs m p)
  twice_two n x y (z ∷ xs) (inr m) (inr k) d p q = twice_right n (f z) (flat_map f xs) (twice_two n x y xs m k d p q)

  -- what stands twice among some stands twice among all
  pub twice_among : (n : List ℕ) (xs all : List A) → Apart xs → ((x : A) → Mem x xs → Mem x all) → Twice n (flat_map f xs) → Twice n (flat_map f all)
  twice_among n [] all o within t = absurd t
  twice_among n (x ∷ xs) all o within t = elim (twice_split n (f x) (flat_map f xs) t) [
    | inl s ↦ twice_one n x all (within x (inl refl)) s
    | inr s ↦ elim s [
      | inl u ↦ twice_among n xs all o.1 (λ y m. within y (inr m)) u
      | inr q ↦ (let r = flat_from n xs q.1 in twice_two n x r.0 all (within x (inl refl)) (within r.0 (inr r.1)) (λ e. o.0 (subst (λ z. Mem z xs) (sym e) r.1)) q.0 r.2)
    ]
  ]
