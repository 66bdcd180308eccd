-- From which declared classes a metaclass descends, and where it stands.
use Rattle.std.proofs.Common.{◌≡◌, ◌↔◌, ℕ, zero, suc, ◌<◌, ◌≤◌, ◌+◌, ◌⊎◌, inl, inr, Bool, true, false, not, ◌&&◌, if◌then◌else◌, nat_lt, List, [], ◌∷◌, ◌++◌, map, Option, Some, None, slice_get, refl, sym, ap, ◌∙◌, subst, arith, true≢false}
use Rattle.std.specs.Prelude.{unwrap_or}
use Rattle.std.proofs.lemmas.Bool.{cases_lt}
use Rattle.som_model.specs.declared.key.Module.{Module}
use Rattle.som_model.specs.declared.key.ClassKey.{ClassKey, out-ClassKey, out-roll-ClassKey}
use Rattle.som_model.specs.declared.key.ClassKey.TheOpen.{ClassKey-F}
use Rattle.som_model.specs.declared.key.ClassKey.TheVariants as keys
use Rattle.som_model.specs.declared.key.ClassKey.TheVariants.{rolls-Derived}
use Rattle.som_model.specs.Lists.{Mem, firsts, option_list}
use Rattle.som_model.specs.Keys.{same_key}
use Rattle.som_model.specs.Hierarchy.{Hierarchy}
use Rattle.som_model.specs.Ancestors.{Descends, itself, by_parent}
use Rattle.som_model.specs.Class.{Class}
use Rattle.som_model.specs.Classes.{class_at, parents_of, place_of, greatest, hierarchy, is_a}
use Rattle.som_model.specs.Kernel.{kernel, som_class}
use Rattle.som_model.specs.Metaclass.{rank, is_low, is_above, lowest, meta_within, meta}
use Rattle.som_model.proofs.KeyLaws.{exact_keys}
use Rattle.som_model.proofs.NamedLaws.{out_named, rank_named, hierarchy_parents}
use Rattle.som_model_laws.proofs.Members.{mem_left, mem_right, mem_split, map_on, some_mem, mem_without, without_mem, firsts_mem}
use Rattle.som_model_laws.proofs.Laws.{mem_firsts, descends_test, descends_through}
use Rattle.som_model.specs.Loads.{IsOrdered}
use Rattle.som_model_laws.specs.Metaclasses.{IsDeclared, StandsLow, Declares}
use Rattle.som_model_laws.proofs.Lists.{get_mem, map_mem, mem_get, mem_map, none_place, option_mem}
use Rattle.som_model_laws.proofs.Standing.{found, found_is, falls, height_at, height_derived, height_proxy, named_layer, parents_derived, place, rank_at, rank_derived, rank_falls, rolled, tells}

-- the declared metaclass, as a list
abbrev pub declared_in : Option Class → List ClassKey
declared_in None = []
declared_in (Some c) = option_list c.decl.face.metaclass

-- one class, or what is made of several
abbrev pub made : List ClassKey → ClassKey
made (k ∷ []) = k
made ks = keys.Derived ks

below : (n m : ℕ) → nat_lt n m ≡ true → n < m
below n m e = grind (arith, e)

is_below : (n m : ℕ) → n < m → nat_lt n m ≡ true
is_below n m lt = grind (arith, lt)

not_below : (n m : ℕ) → nat_lt n m ≡ false → m ≤ n
not_below n m e = grind (arith, e)

abbrev is_named : ClassKey-F ClassKey → Bool
is_named (ClassKey-F.Named m x) = true
is_named (ClassKey-F.Derived ks) = false
is_named (ClassKey-F.Proxy k) = false

made_is : (x y : ClassKey) (ks : List ClassKey) → made (x ∷ y ∷ ks) ≡ keys.Derived (x ∷ y ∷ ks)
made_is x y ks = refl

out_derived : (ks : List ClassKey) → out-ClassKey (keys.Derived ks) ≡ ClassKey-F.Derived ks
out_derived ks = ap out-ClassKey (sym (rolls-Derived ks)) ∙ out-roll-ClassKey (ClassKey-F.Derived ks)

-- no class of the kernel declares a metaclass
pub kernel_none : (c : Class) (m : ClassKey) → Mem c kernel → c.decl.face.metaclass ≡ Some m → ⊥
kernel_none c m (inl is) f = let g = ap (λ (z : Class). z.decl.face.metaclass) (sym is) ∙ f in cc
kernel_none c m (inr (inl is)) f = let g = ap (λ (z : Class). z.decl.face.metaclass) (sym is) ∙ f in cc
kernel_none c m (inr (inr (inl is))) f = let g = ap (λ (z : Class). z.decl.face.metaclass) (sym is) ∙ f in cc
kernel_none c m (inr (inr (inr (inl is)))) f = let g = ap (λ (z : Class). z.decl.face.metaclass) (sym is) ∙ f in cc
kernel_none c m (inr (inr (inr (inr z)))) f = z

pub first_four : (cs : List Class) (i : ℕ) (c : Class) → i < 4 → slice_get (kernel ++ cs) i ≡ Some c → Mem c kernel
first_four cs zero c lt e = get_mem kernel 0 c e
first_four cs (suc zero) c lt e = get_mem kernel 1 c e
first_four cs (suc (suc zero)) c lt e = get_mem kernel 2 c e
first_four cs (suc (suc (suc zero))) c lt e = get_mem kernel 3 c e
first_four cs (suc (suc (suc (suc i)))) c lt e = absurd (omega (arith, lt))

pub in_four : (cs : List Class) (i : ℕ) (c : Class) → slice_get kernel i ≡ Some c → (i < 4) × (slice_get (kernel ++ cs) i ≡ Some c)
in_four cs zero c e = (omega arith, e)
in_four cs (suc zero) c e = (omega arith, e)
in_four cs (suc (suc zero)) c e = (omega arith, e)
in_four cs (suc (suc (suc zero))) c e = (omega arith, e)
in_four cs (suc (suc (suc (suc i)))) c e = absurd (cc)

module _ (cs : List Class) (o : IsOrdered cs) where
  abbrev all : List Class
  all = kernel ++ cs

  abbrev h : Hierarchy ClassKey
  h = hierarchy all

  -- the classes of the kernel are low, and what is low and known is one of them
  pub kernel_low : (c : Class) (k : ClassKey) → Mem c kernel → c.key ≡ k → is_low all k ≡ true
  kernel_low c k m e =
      let r = mem_get kernel c m in
      let i = in_four cs r.0 c r.1 in
      let n = rank_at cs o r.0 c k i.1 e in
      let less = i.0 in
      is_below (rank all k) 4 (omega (arith, n, less))

  pub low_kernel : (k : ClassKey) (c : Class) → class_at all k ≡ Some c → is_low all k ≡ true → Mem c kernel
  low_kernel k c e low =
      let i = place cs o k c e in
      let n = rank_at cs o i.0 c k i.1 (found_is cs o k c e).1 in
      let less = below (rank all k) 4 low in
      first_four cs i.0 c (omega (arith, n, less)) i.1

  pub unknown_low : (x : ClassKey) (m : Module) (n : List ℕ) → x ≡ keys.Named m n → class_at all x ≡ None → is_low all x ≡ true
  unknown_low x m n is e =
      let none : place_of 0 all (keys.Named m n) ≡ 0 = ap (λ (z : Option ℕ). unwrap_or z 0) (none_place 0 (λ (c : Class). same_key c.key (keys.Named m n)) all (ap (class_at all) (sym is) ∙ e)) in
      let zero_rank : rank all x ≡ 0 = ap (rank all) is ∙ rank_named all m n ∙ none in
      is_below (rank all x) 4 (omega (arith, zero_rank))

  pub low_parents : (x k : ClassKey) → is_low all x ≡ true → Mem k (h.parents x) → is_low all k ≡ true
  low_parents x k low m =
      let r = rank_falls cs o x k m in
      let less = below (rank all x) 4 low in
      is_below (rank all k) 4 (omega (arith, r, less))

  -- a class that is low declares no metaclass
  declares_high : (x c : ClassKey) (q : Option Class) → class_at all x ≡ q → is_low all x ≡ true → Mem c (declared_in q) → ⊥
  declares_high x c None e low m = m
  declares_high x c (Some d) e low m = kernel_none d c (low_kernel x d e low) (option_mem d.decl.face.metaclass c m)

  -- no class but one that isn't known is at the bottom
  bottom_by : (x : ClassKey) (l : ClassKey-F ClassKey) → out-ClassKey x ≡ l → h.height x ≡ 0 → is_low all x ≡ true
  bottom_by x (ClassKey-F.Named m n) e low = by (class_at all x) refl
    where
      by : (q : Option Class) → class_at all x ≡ q → is_low all x ≡ true
      by None f = unknown_low x m n (named_layer x m n e) f
      by (Some c) f = let i = place cs o x c f in let g = height_at cs o i.0 c x i.1 (found_is cs o x c f).1 in absurd (omega (arith, g, low))
  bottom_by x (ClassKey-F.Derived ks) e low = let top = ap h.height (sym (rolled x (ClassKey-F.Derived ks) e)) ∙ height_derived cs o ks in absurd (omega (arith, top, low))
  bottom_by x (ClassKey-F.Proxy of) e low = let top = ap h.height (sym (rolled x (ClassKey-F.Proxy of) e)) ∙ height_proxy cs o of in absurd (omega (arith, top, low))

  bottom : (x : ClassKey) → h.height x ≤ 0 → is_low all x ≡ true
  bottom x le = bottom_by x (out-ClassKey x) refl (omega (arith, le))

  -- a made class descends from a declared one where one of those that it is made of does
  not_declared : (zs : List ClassKey) (a : ClassKey) → IsDeclared a → a ≡ keys.Derived zs → ⊥
  not_declared zs a d e = true≢false (
      sym (ap is_named (out_named d.module_ d.name)) ∙ ap (λ z. is_named (out-ClassKey z)) (sym d.is ∙ e) ∙ ap is_named (out_derived zs))

  derived_down : (zs : List ClassKey) (a b : ClassKey) → a ≡ keys.Derived zs → IsDeclared b → Descends h a b → (c : ClassKey) × Mem c zs × Descends h c b
  derived_down zs a b is dec itself = absurd (not_declared zs a dec is)
  derived_down zs a b is dec (by_parent p mp e) = (p, subst (λ z. Mem p z) (ap h.parents is ∙ parents_derived cs o (keys.Derived zs) zs (out_derived zs)) mp, e)

  -- what is made of some descends from each of them
  made_above : (ks : List ClassKey) (s : ClassKey) → Mem s ks → Descends h (made ks) s
  made_above [] s m = absurd m
  made_above (x ∷ []) s (inl e) = subst (λ z. Descends h x z) (sym e) itself
  made_above (x ∷ []) s (inr m) = absurd m
  made_above (x ∷ y ∷ ks) s m = by_parent s (subst (λ z. Mem s z) (sym (parents_derived cs o (keys.Derived (x ∷ y ∷ ks)) (x ∷ y ∷ ks) (out_derived (x ∷ y ∷ ks)))) m) itself

  made_descends : (ks : List ClassKey) (n : ClassKey) → IsDeclared n → Descends h (made ks) n ↔ ((c : ClassKey) × Mem c ks × Descends h c n)
  made_descends [] n d = ((λ e. derived_down [] (keys.Derived []) n refl d e), (λ r. absurd r.1))
  made_descends (x ∷ []) n d = ((λ e. (x, inl refl, e)), (λ r. elim r.1 [ inl is ↦ subst (λ z. Descends h z n) is r.2 | inr z ↦ absurd z ]))
  made_descends (x ∷ y ∷ ks) n d = (
    (λ e. derived_down (x ∷ y ∷ ks) (keys.Derived (x ∷ y ∷ ks)) n refl d e),
    (λ r. descends_through h (keys.Derived (x ∷ y ∷ ks)) r.0 n (made_above (x ∷ y ∷ ks) r.0 r.1) r.2),
  )

  -- above each there is one that isn't struck out
  pub at_most : (x a : ClassKey) → Descends h x a → h.height a ≤ h.height x
  at_most x a itself = omega arith
  at_most x a (by_parent p m d) = let f = falls cs o x p m in let g = at_most p a d in omega (arith, f, g)

  pub lower_by : (x a : ClassKey) → Descends h x a → same_key x a ≡ false → h.height a < h.height x
  lower_by x a itself neg = absurd (true≢false (sym (exact_keys.one x) ∙ neg))
  lower_by x a (by_parent p m d) neg = let f = falls cs o x p m in let g = at_most p a d in omega (arith, f, g)

  not_same : (b c : Bool) → (not b && c) ≡ true → (b ≡ false) × (c ≡ true)
  not_same true c e = absurd (true≢false (sym e))
  not_same false c e = (refl, e)

  above_some : (k : ClassKey) (xs : List ClassKey) → is_above all xs k ≡ true → (x : ClassKey) × Mem x xs × (same_key x k ≡ false) × Descends h x k
  above_some k xs e =
      let r = some_mem (λ x. not (same_key x k) && is_a all x k) xs e in
      let s = not_same (same_key r.0 k) (is_a all r.0 k) r.2 in
      (r.0, r.1, s.0, (descends_test h (tells cs o) (falls cs o) r.0 k).0 s.1)

  bound : (xs : List ClassKey) → (most : ℕ) × ((x : ClassKey) → Mem x xs → h.height x ≤ most)
  bound [] = (0, λ x m. absurd m)
  bound (y ∷ ys) = let r = bound ys in (h.height y + r.0, λ x m. elim m [ inl e ↦ (let f = ap h.height e in omega (arith, f)) | inr n ↦ (let g = r.1 x n in omega (arith, g)) ])

  star : (xs : List ClassKey) (most : ℕ) → ((x : ClassKey) → Mem x xs → h.height x ≤ most) → (n : ℕ) (k : ClassKey) (b : Bool) → is_above all xs k ≡ b → Mem k xs → most ≤ n + h.height k
      → (s : ClassKey) × Mem s (lowest all xs) × Descends h s k
  star xs most few n k false e m le = (k, mem_without (is_above all xs) k xs (λ t. true≢false (sym t ∙ e)) m, itself)
  star xs most few zero k true e m le = let r = above_some k xs e in let f = few r.0 r.1 in let g = lower_by r.0 k r.3 r.2 in absurd (omega (arith, f, g, le))
  star xs most few (suc n) k true e m le =
      let r = above_some k xs e in
      let g = lower_by r.0 k r.3 r.2 in
      let le2 : most ≤ n + h.height r.0 = omega (arith, g, le) in
      let s = star xs most few n r.0 (is_above all xs r.0) refl r.1 le2 in
      (s.0, s.1, descends_through h s.0 r.0 k s.2 r.3)

  stays_above : (xs : List ClassKey) (k : ClassKey) → Mem k xs → (s : ClassKey) × Mem s (lowest all xs) × Descends h s k
  stays_above xs k m = let b = bound xs in star xs b.0 b.1 b.0 k (is_above all xs k) refl m (omega arith)

  firsts_same : (xs : List ClassKey) → firsts h.same xs ≡ firsts same_key xs
  unfolding hierarchy
  firsts_same xs = refl

  in_firsts : (k : ClassKey) (xs : List ClassKey) → Mem k xs → Mem k (firsts same_key xs)
  in_firsts k xs m = subst (λ z. Mem k z) (firsts_same xs) (mem_firsts h (tells cs o) k xs m)

  -- the metaclasses from which that of x is made
  abbrev candidates : ℕ → ClassKey → List ClassKey
  candidates lv x = declared_in (class_at all x) ++ map (meta_within all lv) (parents_of all x)

  -- of which it is made
  abbrev left : List ClassKey → List ClassKey
  left ks = lowest all (firsts same_key ks)

  left_mem : (ks : List ClassKey) (k : ClassKey) → Mem k (left ks) → Mem k ks
  left_mem ks k m = firsts_mem same_key k ks (without_mem (is_above all (firsts same_key ks)) k (firsts same_key ks) m)

  -- above each candidate there is one of which it is made
  above_left : (ks : List ClassKey) (k : ClassKey) → Mem k ks → (s : ClassKey) × Mem s (left ks) × Descends h s k
  above_left ks k m = stays_above (firsts same_key ks) k (in_firsts k ks m)

  in_parents : (x p : ClassKey) → Mem p (h.parents x) → Mem p (parents_of all x)
  in_parents x p m = subst (λ z. Mem p z) (hierarchy_parents all x) m

  of_parents : (x p : ClassKey) → Mem p (parents_of all x) → Mem p (h.parents x)
  of_parents x p m = subst (λ z. Mem p z) (sym (hierarchy_parents all x)) m

  from_parent : (lv : ℕ) (x p : ClassKey) → Mem p (h.parents x) → Mem (meta_within all lv p) (candidates lv x)
  from_parent lv x p m = mem_right _ (declared_in (class_at all x)) _ (mem_map (meta_within all lv) p (parents_of all x) (in_parents x p m))

  -- the declared metaclass of an ancestor descends from n
  abbrev ByAncestor : ClassKey → ClassKey → Type 0
  ByAncestor x n = (d : ClassKey) × (c : ClassKey) × Descends h x d × Mem c (declared_in (class_at all d)) × Descends h c n

  -- or SOMClass does, and x stands on a class that is low
  abbrev Reaches : ClassKey → ClassKey → Type 0
  Reaches x n = (Descends h som_class n × StandsLow all x) ⊎ ByAncestor x n

  low_itself : (x : ClassKey) → is_low all x ≡ true → StandsLow all x
  low_itself x low = record { class = x; low = low; above = itself }

  module _ (n : ClassKey) (dec : IsDeclared n) where
    no_declared : (x d c : ClassKey) → is_low all x ≡ true → Descends h x d → Mem c (declared_in (class_at all d)) → ⊥
    no_declared x d c low itself m = declares_high x c (class_at all x) refl low m
    no_declared x d c low (by_parent p mp e) m = no_declared p d c (low_parents x p low mp) e m

    of_low : (lv : ℕ) (x l : ClassKey) → is_low all x ≡ false → ((p : ClassKey) → Mem p (h.parents x) → Descends h (meta_within all lv p) n ↔ Reaches p n)
        → Descends h som_class n → is_low all l ≡ true → Descends h x l → (c : ClassKey) × Mem c (candidates lv x) × Descends h c n
    of_low lv x l high f d low itself = absurd (true≢false (sym low ∙ high))
    of_low lv x l high f d low (by_parent p mp e) = (meta_within all lv p, from_parent lv x p mp, (f p mp).1 (inl (d, record { class = l; low = low; above = e })))

    candidate : (lv : ℕ) (x : ClassKey) → is_low all x ≡ false → ((p : ClassKey) → Mem p (h.parents x) → Descends h (meta_within all lv p) n ↔ Reaches p n)
        → Reaches x n → (c : ClassKey) × Mem c (candidates lv x) × Descends h c n
    candidate lv x high f (inl (d, s)) = of_low lv x s.class high f d s.low s.above
    candidate lv x high f (inr (d, c, itself, md, dc)) = (c, mem_left c (declared_in (class_at all x)) _ md, dc)
    candidate lv x high f (inr (d, c, by_parent p mp e, md, dc)) = (meta_within all lv p, from_parent lv x p mp, (f p mp).1 (inr (d, c, e, md, dc)))

    up : (x p : ClassKey) → Mem p (h.parents x) → Reaches p n → Reaches x n
    up x p mp (inl (d, s)) = inl (d, record { class = s.class; low = s.low; above = by_parent p mp s.above })
    up x p mp (inr (d, c, e, md, dc)) = inr (d, c, by_parent p mp e, md, dc)

    from_low : (x : ClassKey) → is_low all x ≡ true → Reaches x n → Descends h som_class n
    from_low x low (inl (d, s)) = d
    from_low x low (inr (d, c, e, md, dc)) = absurd (no_declared x d c low e md)

    step : (lv : ℕ) (x : ClassKey) (b : Bool) → is_low all x ≡ b → ((p : ClassKey) → Mem p (h.parents x) → Descends h (meta_within all lv p) n ↔ Reaches p n)
        → Descends h (if b then som_class else made (left (candidates lv x))) n ↔ Reaches x n
    step lv x true low f = (λ d. inl (d, low_itself x low), from_low x low)
    step lv x false high f =
        let one = made_descends (left (candidates lv x)) n dec in (
          λ d. let c = one.0 d in
              elim (mem_split c.0 (declared_in (class_at all x)) (map (meta_within all lv) (parents_of all x)) (left_mem (candidates lv x) c.0 c.1)) [
                | inl md ↦ inr (x, c.0, itself, md, c.2)
                | inr mp ↦ (let q = map_mem (meta_within all lv) c.0 (parents_of all x) mp in up x q.0 (of_parents x q.0 q.1) ((f q.0 (of_parents x q.0 q.1)).0 (subst (λ z. Descends h z n) q.2 c.2)))
              ],
          λ r. let c = candidate lv x high f r in
              let t = above_left (candidates lv x) c.0 c.1 in
              one.1 (t.0, t.1, descends_through h t.0 c.0 n t.2 c.2),
        )

    within : (lv : ℕ) (x : ClassKey) → h.height x ≤ lv → Descends h (meta_within all lv x) n ↔ Reaches x n
    within zero x le = let low = bottom x le in (λ d. inl (d, low_itself x low), from_low x low)
    within (suc lv) x le = step lv x (is_low all x) refl (λ p mp. let lower = falls cs o x p mp in let le2 : h.height p ≤ lv = omega (arith, lower, le) in within lv p le2)

    meta_reaches : (x : ClassKey) → Descends h (meta all x) n ↔ Reaches x n
    meta_reaches x = within (h.height x) x (omega arith)

  to_declares : (x n d c : ClassKey) (q : Option Class) → class_at all d ≡ q → Descends h x d → Mem c (declared_in q) → Descends h c n → Declares all x n
  to_declares x n d c None e xd md dc = absurd md
  to_declares x n d c (Some k) e xd md dc =
      let r = found_is cs o d k e in
      record { class = k; there = r.0; above = subst (λ z. Descends h x z) (sym r.1) xd; metaclass = c; declared = option_mem k.decl.face.metaclass c md; below = dc }

  of_declares : (x n : ClassKey) → Declares all x n → ByAncestor x n
  of_declares x n d =
      let at = found cs o d.class d.class.key d.there refl in
      (d.class.key, d.metaclass, d.above, subst (λ (q : Option Class). Mem d.metaclass (declared_in q)) (sym at) (subst (λ (q : Option ClassKey). Mem d.metaclass (option_list q)) (sym d.declared) (inl refl)), d.below)

  -- a metaclass descends from a declared class exactly where SOMClass does, and x stands on a class of the kernel, or where the declared metaclass of x or of an ancestor does
  pub meta_law : (x n : ClassKey) → IsDeclared n → Descends h (meta all x) n ↔ ((Descends h som_class n × StandsLow all x) ⊎ Declares all x n)
  meta_law x n dec = (
    λ d. elim ((meta_reaches n dec x).0 d) [ inl r ↦ inl r | inr (d, c, e, md, dc) ↦ inr (to_declares x n d c (class_at all d) refl e md dc) ],
    λ r. (meta_reaches n dec x).1 (elim r [ inl e ↦ inl e | inr d ↦ inr (of_declares x n d) ]),
  )

  -- more levels than the height change nothing
  low_meta : (lv : ℕ) (x : ClassKey) → is_low all x ≡ true → meta_within all lv x ≡ som_class
  low_meta zero x low = refl
  low_meta (suc lv) x low = rw low refl

  pub meta_stable : (n m : ℕ) (x : ClassKey) → h.height x ≤ n → h.height x ≤ m → meta_within all n x ≡ meta_within all m x
  meta_stable zero m x le lm = sym (low_meta m x (bottom x le))
  meta_stable (suc n) zero x le lm = low_meta (suc n) x (bottom x lm)
  meta_stable (suc n) (suc m) x le lm =
      ap (λ ms. if is_low all x then som_class else made (left (declared_in (class_at all x) ++ ms)))
      (map_on (meta_within all n) (meta_within all m) (parents_of all x) (λ p k.
      let lower = falls cs o x p (of_parents x p k) in
      let a : h.height p ≤ n = omega (arith, lower, le) in let b : h.height p ≤ m = omega (arith, lower, lm) in meta_stable n m p a b))

  parent_step : (n : ℕ) (x p : ClassKey) (b : Bool) → is_low all x ≡ b → Mem p (h.parents x) → h.height p ≤ n
      → Descends h (if b then som_class else made (left (candidates n x))) (meta all p)
  parent_step n x p true low m le = subst (λ z. Descends h som_class z) (sym (low_meta (h.height p) p (low_parents x p low m))) itself
  parent_step n x p false high m le =
      let s = above_left (candidates n x) (meta_within all n p) (from_parent n x p m) in
      let same : meta_within all n p ≡ meta all p = meta_stable n (h.height p) p le (omega arith) in
      subst (λ z. Descends h (made (left (candidates n x))) z) same
      (descends_through h (made (left (candidates n x))) s.0 (meta_within all n p) (made_above (left (candidates n x)) s.0 s.1) s.2)

  -- the metaclass of a class descends from that of each parent, also where it is made
  pub meta_of_parent : (x p : ClassKey) → Mem p (h.parents x) → Descends h (meta all x) (meta all p)
  meta_of_parent x p m =
      let lower = falls cs o x p m in
      let up : h.height x ≤ suc (h.height x) = omega arith in
      let le : h.height p ≤ h.height x = omega (arith, lower) in
      subst (λ z. Descends h z (meta all p)) (meta_stable (suc (h.height x)) (h.height x) x up (omega arith)) (parent_step (h.height x) x p (is_low all x) refl m le)

  -- and it is of lower rank, unless the class is low
  module _ (declared_lower : (k : ClassKey) (c : Class) (m : ClassKey) → class_at all k ≡ Some c → c.decl.face.metaclass ≡ Some m → rank all m < rank all k) where
    greatest_below : (r : ℕ) (ns : List ℕ) → 0 < r → ((n : ℕ) → Mem n ns → n < r) → greatest ns < r
    greatest_below r [] p f = p
    greatest_below r (n ∷ ns) p f = let a = f n (inl refl) in let b = greatest_below r ns p (λ m k. f m (inr k)) in omega (arith, a, b)

    derived_rank : (r : ℕ) (ks : List ClassKey) → 0 < r → ((k : ClassKey) → Mem k ks → rank all k < r) → rank all (keys.Derived ks) < r
    derived_rank r ks p f =
        let e = ap (rank all) (sym (rolls-Derived ks)) ∙ rank_derived cs o ks in
        let g = greatest_below r (map (rank all) ks) p (λ n m. let q = map_mem (rank all) n ks m in let lt = f q.0 q.1 in let is = q.2 in omega (arith, lt, is)) in
        omega (arith, e, g)

    made_rank : (r : ℕ) (ks : List ClassKey) → 0 < r → ((k : ClassKey) → Mem k ks → rank all k < r) → rank all (made ks) < r
    made_rank r [] p f = derived_rank r [] p f
    made_rank r (k ∷ []) p f = f k (inl refl)
    made_rank r (x ∷ y ∷ ks) p f = derived_rank r (x ∷ y ∷ ks) p f

    som_class_low : rank all som_class < 4
    som_class_low = below (rank all som_class) 4 (kernel_low _ som_class (inr (inl refl)) refl)

    declared_rank : (x c : ClassKey) (q : Option Class) → class_at all x ≡ q → Mem c (declared_in q) → rank all c < rank all x
    declared_rank x c None e m = absurd m
    declared_rank x c (Some d) e m = declared_lower x d c e (option_mem d.decl.face.metaclass c m)

    abbrev Lowers : ℕ → ClassKey → Type 0
    Lowers n p = h.height p ≤ n → 4 ≤ rank all p → rank all (meta_within all n p) < rank all p

    parent_rank : (n : ℕ) (x : ClassKey) → h.height x ≤ suc n → 4 ≤ rank all x → ((p : ClassKey) → Lowers n p) → (p : ClassKey) → Mem p (h.parents x) → rank all (meta_within all n p) < rank all x
    parent_rank n x le high again p m = elim (cases_lt (rank all p) 4) [
      | inl less ↦ (let e = ap (rank all) (low_meta n p (is_below (rank all p) 4 less)) in let s = som_class_low in omega (arith, e, s, high))
      | inr ge ↦ (let lower = falls cs o x p m in let a = again p (omega (arith, lower, le)) ge in let b = rank_falls cs o x p m in omega (arith, a, b))
    ]

    rank_by : (n : ℕ) (x : ClassKey) (b : Bool) → is_low all x ≡ b → h.height x ≤ suc n → 4 ≤ rank all x → ((p : ClassKey) → Lowers n p) → rank all (if b then som_class else made (left (candidates n x))) < rank all x
    rank_by n x true low le high again = absurd (let less = below (rank all x) 4 low in omega (arith, less, high))
    rank_by n x false neg le high again = made_rank (rank all x) (left (candidates n x)) (omega (arith, high)) (λ k m.
        elim (mem_split k (declared_in (class_at all x)) (map (meta_within all n) (parents_of all x)) (left_mem (candidates n x) k m)) [
          | inl d ↦ declared_rank x k (class_at all x) refl d
          | inr q ↦ (let r = map_mem (meta_within all n) k (parents_of all x) q in
              let lt = parent_rank n x le high again r.0 (of_parents x r.0 r.1) in
              let is = ap (rank all) r.2 in omega (arith, lt, is))
        ])

    rank_within : (n : ℕ) (x : ClassKey) → Lowers n x
    rank_within zero x le high = absurd (let low = below (rank all x) 4 (bottom x le) in omega (arith, low, high))
    rank_within (suc n) x le high = rank_by n x (is_low all x) refl le high (λ p. rank_within n p)

    pub meta_rank : (x : ClassKey) → 4 ≤ rank all x → rank all (meta all x) < rank all x
    meta_rank x high = rank_within (h.height x) x (omega arith) high
