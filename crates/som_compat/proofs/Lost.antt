-- K3 by the parents: where it holds for each parent, the first lost ancestor is the first lost parent.
use Rattle.std.proofs.Common.{◌≡◌, ◌↔◌, ℕ, zero, suc, ◌+◌, ◌-◌, ◌<◌, ◌≤◌, ◌⊎◌, inl, inr, Bool, true, false, if◌then◌else◌, List, [], ◌∷◌, ◌++◌, length, take, map, Some, None, slice_set, slice_index_or, refl, sym, ap, ◌∙◌, subst, arith, true≢false, append_assoc}
use Rattle.std.proofs.lemmas.List.{append-nil, map-append}
use Rattle.som_model.specs.declared.key.ClassKey.{ClassKey}
use Rattle.som_model.specs.Lists.{Mem, first, some, joined}
use Rattle.som_model.specs.Hierarchy.{Hierarchy, Falls, Tells}
use Rattle.som_model.specs.Ancestors.{anc}
use Rattle.som_model.specs.Class.{Class}
use Rattle.som_model.specs.Classes.{is_a}
use Rattle.som_model.specs.Compatible.{failing}
use Rattle.som_model_laws.proofs.Members.{mem_left, mem_right, mem_split, some_mem, mem_some, Apart}
use Rattle.som_model_laws.proofs.Laws.{ancestors_step}
use Rattle.som_model_laws.specs.Once.{add_new, adds}
use Rattle.som_model_laws.proofs.WalkLaw.{adds_both, firsts_adds}
use Rattle.som_compat.specs.Marks.{Marked, count, lost_from}

choose_prefix : {A : Type 0} (b : Bool) (x : A) (seen : List A) → (more : List A) × ((if b then seen else seen ++ x ∷ []) ≡ seen ++ more)
choose_prefix true x seen = ([], sym (append-nil seen))
choose_prefix false x seen = (x ∷ [], refl)

joined_append : {A : Type 0} (xs ys : List (List A)) → joined (xs ++ ys) ≡ joined xs ++ joined ys
joined_append [] ys = refl
joined_append (x ∷ xs) ys = ap (λ z. x ++ z) (joined_append xs ys) ∙ sym (append_assoc x (joined xs) (joined ys))

-- the first that fails, past those that pass
past : {A : Type 0} (test : A → Bool) (n : ℕ) (xs ys : List A) → ((a : A) → Mem a xs → test a ≡ true) → failing test n (xs ++ ys) ≡ failing test (n + length xs) ys
past test n [] ys f = let e : n + 0 ≡ n = omega arith in rw e refl
past test n (x ∷ xs) ys f =
    let here : test x ≡ true = f x (inl refl) in
    let e : n + suc (length xs) ≡ (n + 1) + length xs = omega arith in
    rw here (past test (n + 1) xs ys (λ a m. f a (inr m)) ∙ ap (λ k. failing test k ys) (sym e))

fails_here : {A : Type 0} (test : A → Bool) (n : ℕ) (x : A) (xs : List A) → test x ≡ false → first (failing test n (x ∷ xs)) ≡ Some (x, n)
fails_here test n x xs e = rw e refl

module _ {A : Type 0} (same : A → A → Bool) (one : (x : A) → same x x ≡ true) (two : (x y : A) → same x y ≡ true → x ≡ y) where
  adds_prefix : (xs seen : List A) → (more : List A) × (adds same seen xs ≡ seen ++ more)
  adds_prefix [] seen = ([], sym (append-nil seen))
  adds_prefix (x ∷ xs) seen =
      let a = choose_prefix (some (same x) seen) x seen in
      let b = adds_prefix xs (add_new same seen x) in
      (a.0 ++ b.0, b.1 ∙ ap (λ z. z ++ b.0) a.1 ∙ append_assoc seen a.0 b.0)

  in_seen : (x : A) (seen : List A) → some (same x) seen ≡ true → Mem x seen
  in_seen x seen e = let r = some_mem (same x) seen e in subst (λ z. Mem z seen) (sym (two x r.0 r.2)) r.1

  choose_from : (b : Bool) (a x : A) (seen : List A) → Mem a (if b then seen else seen ++ x ∷ []) → Mem a seen ⊎ (a ≡ x)
  choose_from true a x seen m = inl m
  choose_from false a x seen m = elim (mem_split a seen (x ∷ []) m) [ inl n ↦ inl n | inr n ↦ elim n [ inl e ↦ inr e | inr z ↦ absurd z ] ]

  pub adds_from : (a : A) (xs seen : List A) → Mem a (adds same seen xs) → Mem a seen ⊎ Mem a xs
  adds_from a [] seen m = inl m
  adds_from a (x ∷ xs) seen m = elim (adds_from a xs (add_new same seen x) m) [
    | inl n ↦ elim (choose_from (some (same x) seen) a x seen n) [ inl o ↦ inl o | inr e ↦ inr (inl e) ]
    | inr n ↦ inr (inr n)
  ]

  choose_in : (b : Bool) (a x : A) (seen : List A) → Mem a seen → Mem a (if b then seen else seen ++ x ∷ [])
  choose_in true a x seen m = m
  choose_in false a x seen m = mem_left a seen _ m

  new_in : (b : Bool) (x : A) (seen : List A) → some (same x) seen ≡ b → Mem x (if b then seen else seen ++ x ∷ [])
  new_in true x seen e = in_seen x seen e
  new_in false x seen e = mem_right x seen _ (inl refl)

  pub adds_left : (a : A) (xs seen : List A) → Mem a seen → Mem a (adds same seen xs)
  adds_left a [] seen m = m
  adds_left a (x ∷ xs) seen m = adds_left a xs (add_new same seen x) (choose_in (some (same x) seen) a x seen m)

  pub adds_right : (a : A) (xs seen : List A) → Mem a xs → Mem a (adds same seen xs)
  adds_right a [] seen m = absurd m
  adds_right a (x ∷ xs) seen (inl e) = adds_left a xs (add_new same seen x) (subst (λ z. Mem z (add_new same seen x)) (sym e) (new_in (some (same x) seen) x seen refl))
  adds_right a (x ∷ xs) seen (inr m) = adds_right a xs (add_new same seen x) m

  apart_last : (xs : List A) (x : A) → Apart xs → (Mem x xs → ⊥) → Apart (xs ++ x ∷ [])
  apart_last [] x d f = ((λ m. m), tt)
  apart_last (y ∷ ys) x d f = (
    (λ m. elim (mem_split y ys (x ∷ []) m) [ inl n ↦ d.0 n | inr n ↦ elim n [ inl e ↦ f (inl (sym e)) | inr z ↦ z ] ]),
    apart_last ys x d.1 (λ m. f (inr m)),
  )

  choose_apart : (b : Bool) (x : A) (seen : List A) → some (same x) seen ≡ b → Apart seen → Apart (if b then seen else seen ++ x ∷ [])
  choose_apart true x seen e d = d
  choose_apart false x seen e d = apart_last seen x d (λ m. true≢false (sym (mem_some (same x) x seen m (one x)) ∙ e))

  pub adds_apart : (xs seen : List A) → Apart seen → Apart (adds same seen xs)
  adds_apart [] seen d = d
  adds_apart (x ∷ xs) seen d = adds_apart xs (add_new same seen x) (choose_apart (some (same x) seen) x seen refl d)

  new_end : (b : Bool) (p : A) (seen : List A) → some (same p) seen ≡ b → (Mem p seen → ⊥) → (if b then seen else seen ++ p ∷ []) ≡ seen ++ p ∷ []
  new_end true p seen e f = absurd (f (in_seen p seen e))
  new_end false p seen e f = refl

  -- what is new after what was seen begins right after it
  found_at : (test : A → Bool) (p : A) (seen xs : List A) → test p ≡ false → ((a : A) → Mem a seen → test a ≡ true) → first (failing test 0 (adds same seen (p ∷ xs))) ≡ Some (p, length seen)
  found_at test p seen xs is f =
      let more = adds_prefix xs (seen ++ p ∷ []) in
      let n : 0 + length seen ≡ length seen = omega arith in
      ap (λ z. first (failing test 0 z)) (
      ap (λ z. adds same z xs) (new_end (some (same p) seen) p seen refl (λ m. true≢false (sym (f p m) ∙ is)))
      ∙ more.1 ∙ append_assoc seen (p ∷ []) more.0)
      ∙ ap first (past test 0 seen (p ∷ more.0) f)
      ∙ fails_here test (0 + length seen) p more.0 is
      ∙ ap (λ k. Some (p, k)) n

module _ {K : Type 0} (h : Hierarchy K) (tells : Tells h) (falls : Falls h) where
  begins : (p : K) → (more : List K) × (anc h p ≡ p ∷ more)
  begins p = let e = ancestors_step h falls p in (_, e)

  pub lost_at : (test : K → Bool) (x p : K) (front back : List K) → h.parents x ≡ front ++ p ∷ back → test x ≡ true → test p ≡ false
      → ((a : K) → Mem a (joined (map (anc h) front)) → test a ≡ true)
      → first (failing test 0 (anc h x)) ≡ Some (p, length (adds h.same (x ∷ []) (joined (map (anc h) front))))
  lost_at test x p front back is_parents keeps is f =
      let b = begins p in
      let seen = adds h.same (x ∷ []) (joined (map (anc h) front)) in
      ap (λ z. first (failing test 0 z)) (
      ancestors_step h falls x ∙ firsts_adds h.same tells.one tells.two (x ∷ joined (map (anc h) (h.parents x)))
      ∙ ap (λ (z : List K). adds h.same (x ∷ []) (joined (map (anc h) z))) is_parents
      ∙ ap (λ (z : List (List K)). adds h.same (x ∷ []) (joined z)) (map-append (anc h) front (p ∷ back))
      ∙ ap (adds h.same (x ∷ [])) (joined_append (map (anc h) front) (anc h p ∷ map (anc h) back))
      ∙ adds_both h.same (joined (map (anc h) front)) (anc h p ++ joined (map (anc h) back)) (x ∷ [])
      ∙ ap (λ (z : List K). adds h.same seen (z ++ joined (map (anc h) back))) b.1)
      ∙ found_at h.same tells.one tells.two test p seen (b.0 ++ joined (map (anc h) back)) is (λ a m. elim (adds_from h.same tells.one tells.two a (joined (map (anc h) front)) (x ∷ []) m) [
        | inl n ↦ elim n [ inl e ↦ ap test e ∙ keeps | inr z ↦ absurd z ]
        | inr n ↦ f a n
      ])

-- a list of which no member stands twice is as long as there are marks, where its members are the marked places
none : (marks : List Bool) → ((k : ℕ) → Marked marks k → ⊥) → count marks ≡ 0
none [] f = refl
none (true ∷ bs) f = absurd (f 0 refl)
none (false ∷ bs) f = none bs (λ k e. f (suc k) e)

cleared : (marks : List Bool) (x : ℕ) → Marked marks x → suc (count (slice_set marks x false)) ≡ count marks
cleared [] x e = absurd (true≢false (sym e))
cleared (true ∷ bs) zero e = refl
cleared (false ∷ bs) zero e = absurd (true≢false (sym e))
cleared (true ∷ bs) (suc x) e = ap suc (cleared bs x e)
cleared (false ∷ bs) (suc x) e = cleared bs x e

still : (marks : List Bool) (x k : ℕ) → Marked (slice_set marks x false) k → Marked marks k × (k ≡ x → ⊥)
still [] x k e = absurd (true≢false (sym e))
still (b ∷ bs) zero zero e = absurd (true≢false (sym e))
still (b ∷ bs) zero (suc k) e = (e, λ f. omega arith)
still (b ∷ bs) (suc x) zero e = (e, λ f. omega arith)
still (b ∷ bs) (suc x) (suc k) e = let r = still bs x k e in (r.0, λ f. r.1 (omega arith))

stays : (marks : List Bool) (x k : ℕ) → Marked marks k → (k ≡ x → ⊥) → Marked (slice_set marks x false) k
stays [] x k e f = e
stays (b ∷ bs) zero zero e f = absurd (f refl)
stays (b ∷ bs) zero (suc k) e f = e
stays (b ∷ bs) (suc x) zero e f = e
stays (b ∷ bs) (suc x) (suc k) e f = stays bs x k e (λ g. f (ap suc g))

pub counted : (xs : List ℕ) → Apart xs → (marks : List Bool) → ((k : ℕ) → Marked marks k ↔ Mem k xs) → length xs ≡ count marks
counted [] d marks f = sym (none marks (λ k e. (f k).0 e))
counted (x ∷ ys) d marks f =
    ap suc (counted ys d.1 (slice_set marks x false) (λ k. (
      (λ e. let s = still marks x k e in elim ((f k).0 s.0) [ inl g ↦ absurd (s.1 g) | inr m ↦ m ]),
      (λ m. stays marks x k ((f k).1 (inr m)) (λ g. d.0 (subst (λ (z : ℕ). Mem z ys) g m))),
    )))
    ∙ cleared marks x ((f x).1 (inl refl))

-- the number of the first lost parent splits the parents
pub record SplitsAt (cs : List Class) (x : ClassKey) (ks : List ClassKey) (n : ℕ) (d : ClassKey) : Type 0 where
  pub back : List ClassKey
  pub within : n < length ks
  pub parts : ks ≡ take n ks ++ slice_index_or ks n d ∷ back
  pub front : (k : ClassKey) → Mem k (take n ks) → is_a cs x k ≡ true
  pub lost : is_a cs x (slice_index_or ks n d) ≡ false

split_by : (cs : List Class) (x k d : ClassKey) (ks : List ClassKey) (m n : ℕ) (b : Bool) → is_a cs x k ≡ b → (if b then lost_from cs x (m + 1) ks else Some m) ≡ Some n
    → (lost_from cs x (m + 1) ks ≡ Some n → (m + 1 ≤ n) × SplitsAt cs x ks (n - (m + 1)) d) → (m ≤ n) × SplitsAt cs x (k ∷ ks) (n - m) d
split_by cs x k d ks m n true t e f =
    let r = f e in
    let at : n - m ≡ suc (n - (m + 1)) = omega (arith, r.0) in (
      omega (arith, r.0),
      rw at (record {
        back = r.1.back;
        within = omega (arith, r.1.within);
        parts = ap (λ z. k ∷ z) r.1.parts;
        front = λ a y. elim y [ inl g ↦ ap (is_a cs x) g ∙ t | inr g ↦ r.1.front a g ];
        lost = r.1.lost;
      }),
    )
split_by cs x k d ks m n false t e f =
    let same : m ≡ n = cc in
    let at : n - m ≡ 0 = omega arith in
    (omega arith, rw at (record { back = ks; within = omega arith; parts = refl; front = λ a y. absurd y; lost = t }))

splits : (cs : List Class) (x d : ClassKey) (ks : List ClassKey) (m n : ℕ) → lost_from cs x m ks ≡ Some n → (m ≤ n) × SplitsAt cs x ks (n - m) d
splits cs x d [] m n e = absurd (cc)
splits cs x d (k ∷ ks) m n e = split_by cs x k d ks m n (is_a cs x k) refl e (splits cs x d ks (m + 1) n)

pub splits_at : (cs : List Class) (x d : ClassKey) (ks : List ClassKey) (n : ℕ) → lost_from cs x 0 ks ≡ Some n → SplitsAt cs x ks n d
splits_at cs x d ks n e = let r = (splits cs x d ks 0 n e).1 in let at : n - 0 ≡ n = omega arith in subst (λ (z : ℕ). SplitsAt cs x ks z d) at r

none_by : (cs : List Class) (x k a : ClassKey) (ks : List ClassKey) (m : ℕ) (b : Bool) → is_a cs x k ≡ b → (if b then lost_from cs x (m + 1) ks else Some m) ≡ None
    → (lost_from cs x (m + 1) ks ≡ None → Mem a ks → is_a cs x a ≡ true) → Mem a (k ∷ ks) → is_a cs x a ≡ true
none_by cs x k a ks m true t e f (inl g) = ap (is_a cs x) g ∙ t
none_by cs x k a ks m true t e f (inr g) = f e g
none_by cs x k a ks m false t e f g = absurd (cc)

pub none_lost : (cs : List Class) (x a : ClassKey) (ks : List ClassKey) (m : ℕ) → lost_from cs x m ks ≡ None → Mem a ks → is_a cs x a ≡ true
none_lost cs x a [] m e g = absurd g
none_lost cs x a (k ∷ ks) m e g = none_by cs x k a ks m (is_a cs x k) refl e (λ f h. none_lost cs x a ks (m + 1) f h) g
