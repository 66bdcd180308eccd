-- The hierarchy of classes whose keys differ, and whose parents stand before them.
use Rattle.std.proofs.Common.{◌≡◌, ℕ, zero, suc, ◌+◌, ◌<◌, ◌≤◌, inl, inr, List, [], ◌∷◌, ◌++◌, map, take, Option, Some, None, slice_get, refl, sym, ap, ◌∙◌, subst, arith}
use Rattle.std.specs.Prelude.{unwrap_or}
use Rattle.som_model.specs.declared.key.Module.{Module}
use Rattle.som_model.specs.declared.key.Module.TheVariants as modules
use Rattle.som_model.specs.declared.key.ClassKey.{ClassKey, out-ClassKey, roll-ClassKey, roll-out-ClassKey, fold-roll-ClassKey}
use Rattle.som_model.specs.declared.key.ClassKey.TheVariants as keys
use Rattle.som_model.specs.declared.key.ClassKey.TheVariants.{rolls-Named}
use Rattle.som_model.specs.declared.key.ClassKey.TheOpen.{ClassKey-F}
use Rattle.som_model.specs.Lists.{Mem, doubles}
use Rattle.som_model.specs.Keys.{same_key}
use Rattle.som_model.specs.Hierarchy.{Hierarchy, Falls, Tells}
use Rattle.som_model.specs.Ancestors.{Descends, itself, by_parent}
use Rattle.som_model.specs.Class.{Class, bare, class_in}
use Rattle.som_model.specs.Classes.{class_at, greatest, height_step, hierarchy, parents_by, parents_in, parents_of, place_of}
use Rattle.som_model.specs.Kernel.{kernel, object_face, class_face, class_mgr_face, before_after_face}
use Rattle.som_model.specs.Metaclass.{rank, rank_step}
use Rattle.som_model.specs.Rules.{name_of}
use Rattle.som_model.specs.declared.class.ClassFace.{ClassFace}
use Rattle.som_model.proofs.KeyLaws.{exact_keys}
use Rattle.som_model.proofs.NamedLaws.{out_named, same_named, height_named, rank_named, hierarchy_parents, hierarchy_same, parents_named}
use Rattle.som_model_laws.proofs.Members.{Apart, mem_split}
use Rattle.som_model.specs.Loads.{IsOrdered, keys_of}
use Rattle.som_model_laws.proofs.Lists.{apart_both, doubles_apart, find_at, find_mem, get_mem, map_mem, mem_get, mem_map, place_at, take_get}

pub named_one : (m n : Module) (x y : List ℕ) → keys.Named m x ≡ keys.Named n y → (m ≡ n) × (x ≡ y)
named_one m n x y e = let out = sym (out_named m x) ∙ ap out-ClassKey e ∙ out_named n y in (cc, cc)

pub rolled : (x : ClassKey) (l : ClassKey-F ClassKey) → out-ClassKey x ≡ l → roll-ClassKey l ≡ x
rolled x l e = ap roll-ClassKey (sym e) ∙ roll-out-ClassKey x

pub named_layer : (x : ClassKey) (m : Module) (n : List ℕ) → out-ClassKey x ≡ ClassKey-F.Named m n → x ≡ keys.Named m n
named_layer x m n e = sym (rolled x (ClassKey-F.Named m n) e) ∙ rolls-Named m n

-- the kernel's classes

abbrev of_kernel : ClassFace → Class
of_kernel f = class_in modules.Kernel (bare f)

pub kernel_key : (c : Class) → Mem c kernel → (n : List ℕ) × (c.key ≡ keys.Named modules.Kernel n)
kernel_key c (inl e) = (_, ap (λ (z : Class). z.key) e)
kernel_key c (inr (inl e)) = (_, ap (λ (z : Class). z.key) e)
kernel_key c (inr (inr (inl e))) = (_, ap (λ (z : Class). z.key) e)
kernel_key c (inr (inr (inr (inl e)))) = (_, ap (λ (z : Class). z.key) e)
kernel_key c (inr (inr (inr (inr m)))) = absurd m

kernel_doubles : doubles same_key [] (keys_of kernel) ≡ []
kernel_doubles = simp same_named

kernel_apart : Apart (keys_of kernel)
kernel_apart = doubles_apart same_key exact_keys (keys_of kernel) kernel_doubles

-- a parent of a class at a place stands before it
abbrev pub Earlier : List Class → ℕ → ClassKey → Type 0
Earlier cs i p = (j : ℕ) × (d : Class) × (j < i) × (slice_get cs j ≡ Some d) × (d.key ≡ p)

kernel_parent : (p : ClassKey) (f : ClassFace) (c : Class) → of_kernel f ≡ c → Mem p c.decl.face.parents → Mem p f.parents
kernel_parent p f c e m = subst (λ (z : Class). Mem p z.decl.face.parents) (sym e) m

module _ (cs : List Class) (o : IsOrdered cs) where
  abbrev all : List Class
  all = kernel ++ cs

  abbrev h : Hierarchy ClassKey
  h = hierarchy all

  pub keyed : (c : Class) → Mem c all → (m : Module) × (n : List ℕ) × (c.key ≡ keys.Named m n)
  keyed c m = elim (mem_split c kernel cs m) [
    | inl k ↦ (let r = kernel_key c k in (modules.Kernel, r.0, r.1))
    | inr k ↦ (let r = o.own c k in (r.module_, name_of c, r.is))
  ]

  -- no key of the kernel's is that of one of these
  pub not_kernels : (c d : Class) → Mem c kernel → Mem d cs → c.key ≡ d.key → ⊥
  not_kernels c d m n e =
      let a = kernel_key c m in
      let b = o.own d n in
      b.outside (sym (named_one modules.Kernel b.module_ a.0 (name_of d) (sym a.1 ∙ e ∙ b.is)).0)

  pub apart : Apart (keys_of all)
  apart = apart_both (keys_of kernel) (keys_of cs) kernel_apart (doubles_apart same_key exact_keys (keys_of cs) o.differ)
      (λ a m n. let c = map_mem (λ (z : Class). z.key) a kernel m in let d = map_mem (λ (z : Class). z.key) a cs n in not_kernels c.0 d.0 c.1 d.1 (sym c.2 ∙ d.2))

  -- a class by its key
  pub found : (c : Class) (k : ClassKey) → Mem c all → c.key ≡ k → class_at all k ≡ Some c
  found c k m e = find_at k all c apart m e

  pub found_is : (k : ClassKey) (c : Class) → class_at all k ≡ Some c → Mem c all × (c.key ≡ k)
  found_is k c e = let r = find_mem (λ (z : Class). same_key z.key k) all c e in (r.0, exact_keys.two c.key k r.1)

  pub among : (k : ClassKey) → Mem k (keys_of all) → (c : Class) × (class_at all k ≡ Some c)
  among k m = let r = map_mem (λ (z : Class). z.key) k all m in (r.0, found r.0 k r.1 (sym r.2))

  pub height_at : (i : ℕ) (c : Class) (k : ClassKey) → slice_get all i ≡ Some c → c.key ≡ k → h.height k ≡ suc i
  height_at i c k e f =
      let n = keyed c (get_mem all i c e) in
      let is : k ≡ keys.Named n.0 n.1 = sym f ∙ n.2 in
      let sum : i + 1 ≡ suc i = omega arith in
      ap h.height is ∙ height_named all n.0 n.1 ∙ ap (place_of 1 all) (sym is) ∙ ap (λ z. unwrap_or z 0) (place_at 1 k all i c apart e f) ∙ sum

  pub rank_at : (i : ℕ) (c : Class) (k : ClassKey) → slice_get all i ≡ Some c → c.key ≡ k → rank all k ≡ i
  rank_at i c k e f =
      let n = keyed c (get_mem all i c e) in
      let is : k ≡ keys.Named n.0 n.1 = sym f ∙ n.2 in
      let sum : i + 0 ≡ i = omega arith in
      ap (rank all) is ∙ rank_named all n.0 n.1 ∙ ap (place_of 0 all) (sym is) ∙ ap (λ z. unwrap_or z 0) (place_at 0 k all i c apart e f) ∙ sum

  -- the place of a known class
  pub place : (k : ClassKey) (c : Class) → class_at all k ≡ Some c → (i : ℕ) × (slice_get all i ≡ Some c)
  place k c e = mem_get all c (found_is k c e).0

  pub parents_known : (k : ClassKey) (c : Class) → class_at all k ≡ Some c → h.parents k ≡ c.decl.face.parents
  parents_known k c e =
      let r = found_is k c e in
      let n = keyed c r.0 in
      let is : k ≡ keys.Named n.0 n.1 = sym r.1 ∙ n.2 in
      hierarchy_parents all k ∙ ap (parents_of all) is ∙ parents_named all n.0 n.1 ∙ ap (λ z. parents_in (class_at all z)) (sym is) ∙ ap parents_in e

  pub parents_unknown : (k : ClassKey) (m : Module) (n : List ℕ) → k ≡ keys.Named m n → class_at all k ≡ None → h.parents k ≡ []
  parents_unknown k m n is e =
      hierarchy_parents all k ∙ ap (parents_of all) is ∙ parents_named all m n ∙ ap (λ z. parents_in (class_at all z)) (sym is) ∙ ap parents_in e

  -- what stands earlier
  pub earlier_at : (i : ℕ) (p : ClassKey) → Mem p (keys_of (kernel ++ take i cs)) → Earlier all (suc (suc (suc (suc i)))) p
  earlier_at i p m =
      let r = map_mem (λ (z : Class). z.key) p (kernel ++ take i cs) m in
      let g = mem_get (kernel ++ take i cs) r.0 r.1 in
      let t = take_get (suc (suc (suc (suc i)))) all g.0 r.0 g.1 in
      (g.0, r.0, t.0, t.1, sym r.2)

  kernel_lower : (f : ClassFace) (c : Class) (p : ClassKey) (i : ℕ) → of_kernel f ≡ c → Mem p c.decl.face.parents → (Mem p f.parents → Earlier all i p) → Earlier all i p
  kernel_lower f c p i e m g = g (kernel_parent p f c e m)

  pub lower : (i : ℕ) (c : Class) (p : ClassKey) → slice_get all i ≡ Some c → Mem p c.decl.face.parents → Earlier all i p
  lower zero c p e m = kernel_lower object_face c p 0 (cc) m (λ n. absurd n)
  lower (suc zero) c p e m = kernel_lower class_face c p 1 (cc) m (λ n. elim n [ inl is ↦ (0, of_kernel object_face, omega arith, refl, sym is) | inr z ↦ absurd z ])
  lower (suc (suc zero)) c p e m = kernel_lower class_mgr_face c p 2 (cc) m (λ n. elim n [ inl is ↦ (0, of_kernel object_face, omega arith, refl, sym is) | inr z ↦ absurd z ])
  lower (suc (suc (suc zero))) c p e m = kernel_lower before_after_face c p 3 (cc) m (λ n. elim n [ inl is ↦ (1, of_kernel class_face, omega arith, refl, sym is) | inr z ↦ absurd z ])
  lower (suc (suc (suc (suc i)))) c p e m = earlier_at i p (o.parents i c p e m)

  -- a parent of a known class is known, and stands lower
  pub stands : (k : ClassKey) (c : Class) (p : ClassKey) → class_at all k ≡ Some c → Mem p c.decl.face.parents → (d : Class) × (class_at all p ≡ Some d)
  stands k c p e m =
      let i = place k c e in
      let r = lower i.0 c p i.1 m in
      (r.1, found r.1 p (get_mem all r.0 r.1 r.3) r.4)

  greatest_mem : (ns : List ℕ) (n : ℕ) → Mem n ns → n ≤ greatest ns
  greatest_mem [] n m = absurd m
  greatest_mem (x ∷ ns) n (inl e) = omega (arith, e)
  greatest_mem (x ∷ ns) n (inr m) = let g = greatest_mem ns n m in omega (arith, g)

  pub height_derived : (ks : List ClassKey) → h.height (roll-ClassKey (ClassKey-F.Derived ks)) ≡ greatest (map h.height ks) + 1
  unfolding hierarchy
  height_derived ks = fold-roll-ClassKey ℕ (height_step all) (ClassKey-F.Derived ks)

  pub height_proxy : (k : ClassKey) → h.height (roll-ClassKey (ClassKey-F.Proxy k)) ≡ h.height k + 1
  unfolding hierarchy
  height_proxy k = fold-roll-ClassKey ℕ (height_step all) (ClassKey-F.Proxy k)

  pub rank_derived : (ks : List ClassKey) → rank all (roll-ClassKey (ClassKey-F.Derived ks)) ≡ greatest (map (rank all) ks)
  rank_derived ks = fold-roll-ClassKey ℕ (rank_step all) (ClassKey-F.Derived ks)

  pub rank_proxy : (k : ClassKey) → rank all (roll-ClassKey (ClassKey-F.Proxy k)) ≡ rank all k
  rank_proxy k = fold-roll-ClassKey ℕ (rank_step all) (ClassKey-F.Proxy k)

  pub parents_derived : (x : ClassKey) (ks : List ClassKey) → out-ClassKey x ≡ ClassKey-F.Derived ks → h.parents x ≡ ks
  parents_derived x ks e = hierarchy_parents all x ∙ ap (λ l. parents_by all l x) e

  pub parents_proxy : (x of : ClassKey) → out-ClassKey x ≡ ClassKey-F.Proxy of → h.parents x ≡ of ∷ []
  parents_proxy x of e = hierarchy_parents all x ∙ ap (λ l. parents_by all l x) e

  -- the ways in which a class is below its parents: lower at the place, or by what it is made of
  known_falls : (x p : ClassKey) (m : Module) (n : List ℕ) (q : Option Class) → x ≡ keys.Named m n → class_at all x ≡ q → Mem p (h.parents x) → (h.height p < h.height x) × (rank all p ≤ rank all x)
  known_falls x p m n None is e k = absurd (subst (λ z. Mem p z) (parents_unknown x m n is e) k)
  known_falls x p m n (Some c) is e k =
      let i = place x c e in
      let r = lower i.0 c p i.1 (subst (λ z. Mem p z) (parents_known x c e) k) in
      let key = (found_is x c e).1 in
      let a = height_at i.0 c x i.1 key in
      let b = height_at r.0 r.1 p r.3 r.4 in
      let u = rank_at i.0 c x i.1 key in
      let v = rank_at r.0 r.1 p r.3 r.4 in
      let less = r.2 in
      (omega (arith, a, b, less), omega (arith, u, v, less))

  layer_falls : (x p : ClassKey) (l : ClassKey-F ClassKey) → out-ClassKey x ≡ l → Mem p (h.parents x) → (h.height p < h.height x) × (rank all p ≤ rank all x)
  layer_falls x p (ClassKey-F.Named m n) e k = known_falls x p m n (class_at all x) (named_layer x m n e) refl k
  layer_falls x p (ClassKey-F.Derived ks) e k =
      let in_list : Mem p ks = subst (λ z. Mem p z) (parents_derived x ks e) k in
      let high = ap h.height (sym (rolled x (ClassKey-F.Derived ks) e)) ∙ height_derived ks in
      let top = ap (rank all) (sym (rolled x (ClassKey-F.Derived ks) e)) ∙ rank_derived ks in
      let a = greatest_mem (map h.height ks) (h.height p) (mem_map h.height p ks in_list) in
      let b = greatest_mem (map (rank all) ks) (rank all p) (mem_map (rank all) p ks in_list) in
      (omega (arith, high, a), omega (arith, top, b))
  layer_falls x p (ClassKey-F.Proxy of) e k = elim (subst (λ z. Mem p z) (parents_proxy x of e) k) [
    | inl is ↦ (
        let high = ap h.height (sym (rolled x (ClassKey-F.Proxy of) e)) ∙ height_proxy of in
        let top = ap (rank all) (sym (rolled x (ClassKey-F.Proxy of) e)) ∙ rank_proxy of in
        let a = ap h.height is in
        let b = ap (rank all) is in
        (omega (arith, high, a), omega (arith, top, b)))
    | inr z ↦ absurd z
  ]

  pub falls : Falls h
  falls x p m = (layer_falls x p (out-ClassKey x) refl m).0

  -- a parent's rank is no greater
  pub rank_falls : (x p : ClassKey) → Mem p (h.parents x) → rank all p ≤ rank all x
  rank_falls x p m = (layer_falls x p (out-ClassKey x) refl m).1

  pub tells : Tells h
  tells = record { one = λ x. hierarchy_same all x x ∙ exact_keys.one x; two = λ x y e. exact_keys.two x y (sym (hierarchy_same all x y) ∙ e) }

  -- what a known class descends from is known
  pub known_above : (x y : ClassKey) (c : Class) → class_at all x ≡ Some c → Descends h x y → (d : Class) × (class_at all y ≡ Some d)
  known_above x y c e itself = (c, e)
  known_above x y c e (by_parent p m d) = let r = stands x c p e (subst (λ z. Mem p z) (parents_known x c e) m) in known_above p y r.0 r.1 d
