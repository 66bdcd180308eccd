-- Each class that is made is that of the proxies of a declared one, or stands in the chain of metaclasses of one.
use Rattle.std.proofs.Common.{◌≡◌, ℕ, zero, suc, ◌<◌, ◌≤◌, ◌+◌, inl, inr, Bool, true, false, not, ◌&&◌, if◌then◌else◌, nat_lt, List, [], ◌∷◌, ◌++◌, map, flat_map, length, Option, Some, None, slice_get, refl, sym, ap, ◌∙◌, subst, arith}
use Rattle.std.proofs.lemmas.Bool.{cases_lt}
use Rattle.som_model.specs.declared.key.ClassKey.{ClassKey, out-ClassKey, out-roll-ClassKey}
use Rattle.som_model.specs.declared.key.ClassKey.TheOpen.{ClassKey-F}
use Rattle.som_model.specs.declared.key.ClassKey.TheVariants as keys
use Rattle.som_model.specs.declared.key.ClassKey.TheVariants.{rolls-Derived, rolls-Proxy}
use Rattle.som_model.specs.declared.syntax.Block.{Block}
use Rattle.som_model.specs.Lists.{Mem, firsts}
use Rattle.som_model.specs.Keys.{same_key}
use Rattle.som_model.specs.Hierarchy.{Hierarchy}
use Rattle.som_model.specs.Class.{Class}
use Rattle.som_model.specs.Classes.{class_at, hierarchy, is_a, parents_of}
use Rattle.som_model.specs.Kernel.{kernel, som_class}
use Rattle.som_model.specs.Loads.{IsOrdered, Loads}
use Rattle.som_model.specs.Made.{ComesOf, all_roots, blocks_of, metaclass, parent, proxies_in, root}
use Rattle.som_model.specs.Metaclass.{is_above, is_low, lowest, meta, meta_within, rank}
use Rattle.som_model.proofs.KeyLaws.{exact_keys}
use Rattle.som_model.proofs.NamedLaws.{hierarchy_parents, out_named}
use Rattle.som_model_laws.proofs.Lists.{flat_mem, map_mem, option_mem}
use Rattle.som_model_laws.proofs.Members.{firsts_mem, mem_split, without_mem}
use Rattle.som_model_laws.proofs.Metas.{declared_in, made, meta_rank, meta_stable}
use Rattle.som_model_laws.proofs.Owners.{metaclass_known}
use Rattle.som_model_laws.proofs.Standing.{among, falls, found, found_is, height_proxy, keyed, parents_derived, parents_known, parents_proxy, place, rank_at, rank_falls, stands}
use Rattle.som_proxy_uses.proofs.Known.{block_law}
use Rattle.som_proxy_uses.proofs.Naming.{block_covered}

out_derived : (ks : List ClassKey) → out-ClassKey (keys.Derived ks) ≡ ClassKey-F.Derived ks
out_derived ks = ap out-ClassKey (sym (rolls-Derived ks)) ∙ out-roll-ClassKey (ClassKey-F.Derived ks)

out_proxy : (of : ClassKey) → out-ClassKey (keys.Proxy of) ≡ ClassKey-F.Proxy of
out_proxy of = ap out-ClassKey (sym (rolls-Proxy of)) ∙ out-roll-ClassKey (ClassKey-F.Proxy of)

place_short : {A : Type 0} (xs : List A) (i : ℕ) (x : A) → slice_get xs i ≡ Some x → i < length xs
place_short [] i x e = absurd (cc)
place_short (y ∷ xs) zero x e = omega arith
place_short (y ∷ xs) (suc i) x e = let r = place_short xs i x e in omega (arith, r)

below : (n m : ℕ) → n < m → nat_lt n m ≡ true
below n m lt = grind (arith, lt)

module _ (cs : List Class) (o : IsOrdered cs) where
  abbrev all : List Class
  all = kernel ++ cs

  abbrev h : Hierarchy ClassKey
  h = hierarchy all

  -- the metaclass of the metaclass and so on, so many times
  abbrev pub times : ℕ → ClassKey → ClassKey
  times zero k = k
  times (suc j) k = meta all (times j k)

  -- it is a declared class, or stands in the chain of one at most so many metaclasses away
  abbrev pub Within : ℕ → ClassKey → Type 0
  Within j x = (i : ℕ) × (i ≤ j) × (c : Class) × (class_at all c.key ≡ Some c) × (x ≡ times i c.key)

  declared_within : (j : ℕ) (k : ClassKey) (c : Class) → class_at all k ≡ Some c → Within j k
  declared_within j k c e =
      let f = found_is cs o k c e in
      (0, omega arith, c, found cs o c c.key f.0 refl, sym f.1)

  more_within : (j : ℕ) (x : ClassKey) → Within j x → Within (suc j) x
  more_within j x w = let le = w.1 in (w.0, omega (arith, le), w.2, w.3, w.4)

  meta_within_chain : (j : ℕ) (x : ClassKey) → Within j x → Within (suc j) (meta all x)
  meta_within_chain j x w = let le = w.1 in (suc w.0, omega (arith, le), w.2, w.3, ap (meta all) w.4)

  -- parents that stand in a chain
  abbrev ParentsWithin : ℕ → ClassKey → Type 0
  ParentsWithin j x = (p : ClassKey) → Mem p (h.parents x) → Within j p

  declared_parents : (j : ℕ) (k : ClassKey) (c : Class) → class_at all k ≡ Some c → ParentsWithin j k
  declared_parents j k c e p m = let d = stands cs o k c p e (subst (λ z. Mem p z) (parents_known cs o k c e) m) in declared_within j p d.0 d.1

  class_parents : (j : ℕ) → ParentsWithin j som_class
  class_parents j = declared_parents j som_class _ (found cs o _ som_class (inr (inl refl)) refl)

  made_parents : (j : ℕ) (ks : List ClassKey) → ((k : ClassKey) → Mem k ks → Within j k × ParentsWithin j k) → ParentsWithin j (made ks)
  made_parents j [] f p m = absurd (subst (λ z. Mem p z) (parents_derived cs o (keys.Derived []) [] (out_derived [])) m)
  made_parents j (k ∷ []) f p m = (f k (inl refl)).1 p m
  made_parents j (k ∷ l ∷ ks) f p m = (f p (subst (λ z. Mem p z) (parents_derived cs o (keys.Derived (k ∷ l ∷ ks)) (k ∷ l ∷ ks) (out_derived (k ∷ l ∷ ks))) m)).0

  declared_candidate : (j : ℕ) (x k : ClassKey) (q : Option Class) → class_at all x ≡ q → Mem k (declared_in q) → Within j k × ParentsWithin j k
  declared_candidate j x k None e m = absurd m
  declared_candidate j x k (Some c) e m =
      let d = metaclass_known cs o x c k e (option_mem c.decl.face.metaclass k m) in
      (declared_within j k d.0 d.1, declared_parents j k d.0 d.1)

  module _ (j : ℕ) (closed : (y : ClassKey) → Within j y → ParentsWithin j y) where
    -- one more level of metaclasses
    meta_step : (n : ℕ) (z : ClassKey) (b : Bool) → h.height z ≤ suc n → Within j z
        → ((p : ClassKey) → h.height p ≤ n → Within j p → ParentsWithin (suc j) (meta_within all n p))
        → ParentsWithin (suc j) (if b then som_class else made (lowest all (firsts same_key (declared_in (class_at all z) ++ map (meta_within all n) (parents_of all z)))))
    meta_step n z true le w again = class_parents (suc j)
    meta_step n z false le w again =
        let ms = declared_in (class_at all z) ++ map (meta_within all n) (parents_of all z) in
        made_parents (suc j) (lowest all (firsts same_key ms)) (λ k m.
        elim (mem_split k (declared_in (class_at all z)) (map (meta_within all n) (parents_of all z)) (firsts_mem same_key k ms (without_mem (is_above all (firsts same_key ms)) k (firsts same_key ms) m))) [
          | inl d ↦ declared_candidate (suc j) z k (class_at all z) refl d
          | inr q ↦ (
              let r = map_mem (meta_within all n) k (parents_of all z) q in
              let up : Mem r.0 (h.parents z) = subst (λ l. Mem r.0 l) (sym (hierarchy_parents all z)) r.1 in
              let lower = falls cs o z r.0 up in
              let low : h.height r.0 ≤ n = omega (arith, lower, le) in
              let v = closed z w r.0 up in
              let same : meta all r.0 ≡ k = meta_stable cs o (h.height r.0) n r.0 (omega arith) low ∙ sym r.2 in
              (subst (λ z. Within (suc j) z) same (meta_within_chain j r.0 v), subst (λ z. ParentsWithin (suc j) z) (sym r.2) (again r.0 low v)))
        ])

    meta_parents : (n : ℕ) (z : ClassKey) → h.height z ≤ n → Within j z → ParentsWithin (suc j) (meta_within all n z)
    meta_parents zero z le w = class_parents (suc j)
    meta_parents (suc n) z le w = meta_step n z (is_low all z) le w (λ p low v. meta_parents n p low v)

    higher : (y : ClassKey) (i : ℕ) (c : Class) → i ≤ suc j → class_at all c.key ≡ Some c → y ≡ times i c.key → ParentsWithin (suc j) y
    higher y zero c le e is = subst (λ z. ParentsWithin (suc j) z) (sym is) (declared_parents (suc j) c.key c e)
    higher y (suc i) c le e is =
        let x = times i c.key in
        let w : Within j x = (i, omega (arith, le), c, e, refl) in
        subst (λ z. ParentsWithin (suc j) z) (sym is) (meta_parents (h.height x) x (omega arith) w)

  parents_within : (j : ℕ) (y : ClassKey) → Within j y → ParentsWithin j y
  parents_within zero y w = by w.0 w.1 w.4
    where
      by : (i : ℕ) → i ≤ 0 → y ≡ times i w.2.key → ParentsWithin zero y
      by zero le is = subst (λ z. ParentsWithin zero z) (sym is) (declared_parents zero w.2.key w.2 w.3)
      by (suc i) le is = absurd (omega (arith, le))
  parents_within (suc j) y w = higher j (parents_within j) y w.0 w.2 w.1 w.3 w.4

  -- ---- the classes that are made

  -- in the chain of a declared class, less than the number of all away, or the class of its proxies
  pub data IsCounted : ClassKey → Type 0 where
    chained : {x : ClassKey} (i : ℕ) (c : Class) → class_at all c.key ≡ Some c → x ≡ times i c.key → rank all x + i < length all → IsCounted x
    proxied : {x : ClassKey} (c : Class) → class_at all c.key ≡ Some c → x ≡ keys.Proxy c.key → IsCounted x

  declared_counted : (k : ClassKey) (c : Class) → class_at all k ≡ Some c → IsCounted k
  declared_counted k c e =
      let f = found_is cs o k c e in
      let i = place cs o k c e in
      let r = rank_at cs o i.0 c k i.1 f.1 in
      let lt = place_short all i.0 c i.1 in
      chained 0 c (found cs o c c.key f.0 refl) (sym f.1) (omega (arith, r, lt))

  class_counted : IsCounted som_class
  class_counted = declared_counted som_class _ (found cs o _ som_class (inr (inl refl)) refl)

  in_parents : (k p : ClassKey) → Mem p (parents_of all k) → Mem p (h.parents k)
  in_parents k p m = subst (λ l. Mem p l) (sym (hierarchy_parents all k)) m

  parent_counted : (k p : ClassKey) → IsCounted k → Mem p (parents_of all k) → IsCounted p
  parent_counted k p (chained i c e is few) m =
      let up = in_parents k p m in
      let w = parents_within i k (i, omega arith, c, e, is) p up in
      let less = rank_falls cs o k p up in
      let le = w.1 in
      chained w.0 w.2 w.3 w.4 (omega (arith, less, le, few))
  parent_counted k p (proxied c e is) m =
      elim (subst (λ l. Mem p l) (parents_proxy cs o k c.key (ap out-ClassKey is ∙ out_proxy c.key)) (in_parents k p m)) [
        | inl same ↦ subst IsCounted (sym same) (declared_counted c.key c e)
        | inr n ↦ absurd n
      ]

  -- the metaclass of what is low is SOMClass
  low_meta : (n : ℕ) (x : ClassKey) → is_low all x ≡ true → meta_within all n x ≡ som_class
  low_meta zero x low = refl
  low_meta (suc n) x low = rw low refl

  chained_meta : (k : ClassKey) (i : ℕ) (c : Class) → class_at all c.key ≡ Some c → k ≡ times i c.key → rank all k + i < length all → IsCounted (meta all k)
  chained_meta k i c e is few = elim (cases_lt (rank all k) 4) [
    | inl less ↦ subst IsCounted (sym (low_meta (h.height k) k (below (rank all k) 4 less))) class_counted
    | inr ge ↦ (
        let lower = meta_rank cs o (λ k c m e f. (metaclass_known cs o k c m e f).2) k ge in
        chained (suc i) c e (ap (meta all) is) (omega (arith, lower, few)))
  ]

  -- the class of the proxies of a class has the metaclass of that, or SOMClass
  no_class : (of : ClassKey) → class_at all (keys.Proxy of) ≡ None
  no_class of = by (class_at all (keys.Proxy of)) refl
    where
      by : (q : Option Class) → class_at all (keys.Proxy of) ≡ q → q ≡ None
      by None e = refl
      by (Some c) e =
          let f = found_is cs o (keys.Proxy of) c e in
          let n = keyed cs o c f.0 in
          let out : ClassKey-F.Proxy of ≡ ClassKey-F.Named n.0 n.1 = sym (out_proxy of) ∙ ap out-ClassKey (sym f.1 ∙ n.2) ∙ out_named n.0 n.1 in
          absurd (cc)

  lowest_one : (x : ClassKey) → lowest all (firsts same_key (x ∷ [])) ≡ x ∷ []
  lowest_one x = ap (λ (b : Bool). if (if not b && is_a all x x then true else false) then [] else x ∷ []) (exact_keys.one x)

  proxy_step : (n : ℕ) (of : ClassKey) (b : Bool) → IsCounted (meta_within all n of) → IsCounted (if b then som_class else made (lowest all (firsts same_key (declared_in (class_at all (keys.Proxy of)) ++ map (meta_within all n) (parents_of all (keys.Proxy of))))))
  proxy_step n of true counted = class_counted
  proxy_step n of false counted =
      let parents : parents_of all (keys.Proxy of) ≡ of ∷ [] = sym (hierarchy_parents all (keys.Proxy of)) ∙ parents_proxy cs o (keys.Proxy of) of (out_proxy of) in
      let one : made (lowest all (firsts same_key (declared_in (class_at all (keys.Proxy of)) ++ map (meta_within all n) (parents_of all (keys.Proxy of))))) ≡ meta_within all n of =
      ap (λ (q : Option Class). made (lowest all (firsts same_key (declared_in q ++ map (meta_within all n) (parents_of all (keys.Proxy of)))))) (no_class of)
      ∙ ap (λ (ps : List ClassKey). made (lowest all (firsts same_key (map (meta_within all n) ps)))) parents
      ∙ ap made (lowest_one (meta_within all n of)) in
      subst IsCounted (sym one) counted

  proxied_meta : (c : Class) → class_at all c.key ≡ Some c → (n : ℕ) → h.height (keys.Proxy c.key) ≡ suc n → h.height c.key ≤ n → IsCounted (meta all (keys.Proxy c.key))
  proxied_meta c e n high low =
      let few = declared_counted c.key c e in
      let same : meta_within all n c.key ≡ meta all c.key = meta_stable cs o n (h.height c.key) c.key low (omega arith) in
      let own : IsCounted (meta all c.key) = of_class few in
      subst IsCounted (ap (λ m. meta_within all m (keys.Proxy c.key)) (sym high)) (proxy_step n c.key (is_low all (keys.Proxy c.key)) (subst IsCounted (sym same) own))
    where
      of_class : IsCounted c.key → IsCounted (meta all c.key)
      of_class few =
          let i = place cs o c.key c e in
          let r = rank_at cs o i.0 c c.key i.1 refl in
          let lt = place_short all i.0 c i.1 in
          chained_meta c.key 0 c e refl (omega (arith, r, lt))

  meta_counted : (k : ClassKey) → IsCounted k → IsCounted (meta all k)
  meta_counted k (chained i c e is few) = chained_meta k i c e is few
  meta_counted k (proxied c e is) =
      let high : h.height (keys.Proxy c.key) ≡ h.height c.key + 1 = ap h.height (sym (rolls-Proxy c.key)) ∙ height_proxy cs o c.key in
      subst (λ (z : ClassKey). IsCounted (meta all z)) (sym is) (proxied_meta c e (h.height c.key) (omega (arith, high)) (omega arith))

module _ (cs : List Class) (main : Block) (loads : Loads cs main) where
  abbrev these : List Class
  these = kernel ++ cs

  abbrev ordered : IsOrdered cs
  ordered = loads.faces.ordered

  root_counted : (k : ClassKey) → Mem k (all_roots these main) → IsCounted cs ordered k
  root_counted k m = elim (mem_split k (map (λ (c : Class). c.key) these) (flat_map proxies_in (blocks_of these main)) m) [
    | inl d ↦ (let r = map_mem (λ (c : Class). c.key) k these d in declared_counted cs ordered k r.0 (found cs ordered r.0 k r.1 (sym r.2)))
    | inr p ↦ (
        let b = flat_mem proxies_in k (blocks_of these main) p in
        let w = (block_covered b.0).by k b.2 in
        let known = block_law cs main loads b.0 b.1 w.0 (subst (λ z. Mem z (proxies_in b.0)) w.1 b.2) in
        let c = among cs ordered w.0 known in
        let f = found_is cs ordered w.0 c.0 c.1 in
        proxied c.0 (found cs ordered c.0 c.0.key f.0 refl) (w.1 ∙ ap keys.Proxy (sym f.1)))
  ]

  pub made_counted : (k : ClassKey) → ComesOf these (all_roots these main) k → IsCounted cs ordered k
  made_counted k (root j m) = root_counted j m
  made_counted k (parent j p from m) = parent_counted cs ordered j p (made_counted j from) m
  made_counted k (metaclass j from) = meta_counted cs ordered j (made_counted j from)
