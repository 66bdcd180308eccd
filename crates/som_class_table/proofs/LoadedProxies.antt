-- Which made classes are proxies: those that blocks name.
use Rattle.std.proofs.Common.{◌≡◌, ℕ, zero, suc, inl, inr, Bool, true, false, if◌then◌else◌, List, [], ◌∷◌, ◌++◌, map, Option, Some, None, refl, sym, ap, ◌∙◌, subst}
use Rattle.std.specs.Prelude.{flat_map}
use Rattle.som_model.specs.declared.key.Module.{Module}
use Rattle.som_model.specs.declared.key.ClassKey.{ClassKey, out-ClassKey, out-roll-ClassKey}
use Rattle.som_model.specs.declared.key.ClassKey.TheOpen.{ClassKey-F}
use Rattle.som_model.specs.declared.key.ClassKey.TheVariants as keys
use Rattle.som_model.specs.declared.key.ClassKey.TheVariants.{rolls-Derived, rolls-Proxy}
use Rattle.som_model.specs.declared.syntax.Block.{Block}
use Rattle.som_model.specs.Lists.{Mem, firsts}
use Rattle.som_model.specs.Keys.{same_key}
use Rattle.som_model.specs.Class.{Class}
use Rattle.som_model.specs.Classes.{class_at, hierarchy, parents_of}
use Rattle.som_model.specs.Kernel.{kernel, som_class}
use Rattle.som_model.specs.Loads.{IsOrdered, Loads, keys_of}
use Rattle.som_model.specs.Made.{ComesOf, all_roots, blocks_of, metaclass, parent, proxies_in, root, IsMade}
use Rattle.som_model.specs.Metaclass.{is_above, is_low, lowest, made_of, meta_within}
use Rattle.som_model.proofs.NamedLaws.{hierarchy_parents, out_named}
use Rattle.som_model_laws.proofs.Members.{firsts_mem, mem_split, without_mem}
use Rattle.som_model_laws.proofs.Lists.{map_mem, mem_map, option_mem, flat_mem}
use Rattle.som_model_laws.proofs.Metas.{declared_in}
use Rattle.som_model_laws.proofs.Owners.{metaclass_known}
use Rattle.som_model_laws.proofs.Standing.{among, found, found_is, keyed, parents_derived, parents_known, parents_proxy, stands}
use Rattle.som_proxy_uses.proofs.Known.{block_law}
use Rattle.som_proxy_uses.proofs.Naming.{block_covered}

pub out_derived : (ks : List ClassKey) → out-ClassKey (keys.Derived ks) ≡ ClassKey-F.Derived ks
out_derived ks = ap out-ClassKey (sym (rolls-Derived ks)) ∙ out-roll-ClassKey (ClassKey-F.Derived ks)

pub out_proxy : (of : ClassKey) → out-ClassKey (keys.Proxy of) ≡ ClassKey-F.Proxy of
out_proxy of = ap out-ClassKey (sym (rolls-Proxy of)) ∙ out-roll-ClassKey (ClassKey-F.Proxy of)

-- what is a proxy isn't named, and isn't derived of others
pub not_named : (of : ClassKey) (m : Module) (n : List ℕ) → keys.Proxy of ≡ keys.Named m n → ⊥
not_named of m n e = let out : ClassKey-F.Proxy of ≡ ClassKey-F.Named m n = sym (out_proxy of) ∙ ap out-ClassKey e ∙ out_named m n in cc

pub not_derived : (of : ClassKey) (ks : List ClassKey) → keys.Derived ks ≡ keys.Proxy of → ⊥
not_derived of ks e = let out : ClassKey-F.Derived ks ≡ ClassKey-F.Proxy of = sym (out_derived ks) ∙ ap out-ClassKey e ∙ out_proxy of in cc

pub one_proxy : (a b : ClassKey) → keys.Proxy a ≡ keys.Proxy b → a ≡ b
one_proxy a b e = let out : ClassKey-F.Proxy a ≡ ClassKey-F.Proxy b = sym (out_proxy a) ∙ ap out-ClassKey e ∙ out_proxy b in cc

-- what metaclasses are: declared classes, and what is derived of such
data IsMeta (all : List Class) : ClassKey → Type 0 where
  declared : {k : ClassKey} (c : Class) → class_at all k ≡ Some c → IsMeta all k
  derived : {k : ClassKey} (ks : List ClassKey) → k ≡ keys.Derived ks → ((x : ClassKey) → Mem x ks → IsMeta all x) → IsMeta all k

-- what made classes are: these, and proxies of declared classes
data IsKept (all : List Class) : ClassKey → Type 0 where
  plain : {k : ClassKey} → IsMeta all k → IsKept all k
  proxy : {k : ClassKey} (of : ClassKey) (c : Class) → k ≡ keys.Proxy of → class_at all of ≡ Some c → IsKept all k

module _ (cs : List Class) (o : IsOrdered cs) where
  abbrev all : List Class
  all = kernel ++ cs

  in_parents : (k p : ClassKey) (ps : List ClassKey) → (hierarchy all).parents k ≡ ps → Mem p (parents_of all k) → Mem p ps
  in_parents k p ps e m = subst (λ l. Mem p l) (sym (hierarchy_parents all k) ∙ e) m

  meta_parent : (k p : ClassKey) → IsMeta all k → Mem p (parents_of all k) → IsMeta all p
  meta_parent k p (declared c e) m = let r = stands cs o k c p e (in_parents k p c.decl.face.parents (parents_known cs o k c e) m) in declared r.0 r.1
  meta_parent k p (derived ks is f) m = f p (in_parents k p ks (parents_derived cs o k ks (ap out-ClassKey is ∙ out_derived ks)) m)

  kept_parent : (k p : ClassKey) → IsKept all k → Mem p (parents_of all k) → IsKept all p
  kept_parent k p (plain i) m = plain (meta_parent k p i m)
  kept_parent k p (proxy of c is e) m = elim (in_parents k p (of ∷ []) (parents_proxy cs o k of (ap out-ClassKey is ∙ out_proxy of)) m) [
    | inl same ↦ plain (declared c (ap (class_at all) same ∙ e))
    | inr n ↦ absurd n
  ]

  -- what is made of metaclasses is one
  made_meta : (ks : List ClassKey) → ((x : ClassKey) → Mem x ks → IsMeta all x) → IsMeta all (made_of ks)
  made_meta [] f = derived [] refl f
  made_meta (k ∷ []) f = f k (inl refl)
  made_meta (j ∷ k ∷ ks) f = derived (j ∷ k ∷ ks) refl f

  declared_meta : (k m : ClassKey) (q : Option Class) → class_at all k ≡ q → Mem m (declared_in q) → IsMeta all m
  declared_meta k m None e n = absurd n
  declared_meta k m (Some c) e n = let r = metaclass_known cs o k c m e (option_mem c.decl.face.metaclass m n) in declared r.0 r.1

  root_meta : IsMeta all som_class
  root_meta = declared _ (found cs o _ som_class (inr (inl refl)) refl)

  meta_step : (n : ℕ) (k : ClassKey) (b : Bool) → ((p : ClassKey) → IsMeta all (meta_within all n p))
      → IsMeta all (if b then som_class else made_of (lowest all (firsts same_key (declared_in (class_at all k) ++ map (meta_within all n) (parents_of all k)))))
  meta_step n k true f = root_meta
  meta_step n k false f =
      let ms = declared_in (class_at all k) ++ map (meta_within all n) (parents_of all k) in
      made_meta (lowest all (firsts same_key ms)) (λ x m.
      elim (mem_split x (declared_in (class_at all k)) (map (meta_within all n) (parents_of all k)) (firsts_mem same_key x ms (without_mem (is_above all (firsts same_key ms)) x (firsts same_key ms) m))) [
        | inl d ↦ declared_meta k x (class_at all k) refl d
        | inr p ↦ (let r = map_mem (meta_within all n) x (parents_of all k) p in subst (λ z. IsMeta all z) (sym r.2) (f r.0))
      ])

  meta_is : (n : ℕ) (k : ClassKey) → IsMeta all (meta_within all n k)
  meta_is zero k = root_meta
  meta_is (suc n) k = meta_step n k (is_low all k) (meta_is n)

  not_meta : (k of : ClassKey) → IsMeta all k → k ≡ keys.Proxy of → ⊥
  not_meta k of (declared c e) is = let f = found_is cs o k c e in let n = keyed cs o c f.0 in not_named of n.0 n.1 (sym is ∙ sym f.1 ∙ n.2)
  not_meta k of (derived ks e f) is = not_derived of ks (sym e ∙ is)

  kept_proxy : (k of : ClassKey) → IsKept all k → k ≡ keys.Proxy of → (c : Class) × (class_at all of ≡ Some c)
  kept_proxy k of (plain i) is = absurd (not_meta k of i is)
  kept_proxy k of (proxy x c e f) is = (c, ap (class_at all) (one_proxy of x (sym is ∙ e)) ∙ f)

module _ (cs : List Class) (main : Block) (loads : Loads cs main) where
  abbrev these : List Class
  these = kernel ++ cs

  abbrev ordered : IsOrdered cs
  ordered = loads.faces.ordered

  root_kept : (k : ClassKey) → Mem k (all_roots these main) → IsKept these k
  root_kept k m = elim (mem_split k (map (λ (c : Class). c.key) these) (flat_map proxies_in (blocks_of these main)) m) [
    | inl d ↦ (let r = map_mem (λ (c : Class). c.key) k these d in plain (declared r.0 (found cs ordered r.0 k r.1 (sym r.2))))
    | inr p ↦ (
        let b = flat_mem proxies_in k (blocks_of these main) p in
        let w = (block_covered b.0).by k b.2 in
        let known = block_law cs main loads b.0 b.1 w.0 (subst (λ z. Mem z (proxies_in b.0)) w.1 b.2) in
        let c = among cs ordered w.0 known in
        proxy w.0 c.0 w.1 c.1)
  ]

  made_kept : (k : ClassKey) → ComesOf these (all_roots these main) k → IsKept these k
  made_kept k (root j m) = root_kept j m
  made_kept k (parent j p from m) = kept_parent cs ordered j p (made_kept j from) m
  made_kept k (metaclass j from) = plain (meta_is cs ordered ((hierarchy these).height j) j)

  pub made_target : (k of : ClassKey) → IsMade these main k → k ≡ keys.Proxy of → Mem of (keys_of these)
  made_target k of m is =
      let r = kept_proxy cs ordered k of (made_kept k m) is in
      let f = found_is cs ordered of r.0 r.1 in
      subst (λ z. Mem z (keys_of these)) f.1 (mem_map (λ (c : Class). c.key) r.0 these f.0)
