-- The metaclass of a class among the new descends from the one that it declared among the old.
use Rattle.std.proofs.Common.{◌≡◌, ℕ, zero, suc, ◌<◌, ◌≤◌, inl, inr, List, [], ◌∷◌, ◌++◌, length, Option, Some, None, refl, sym, ◌∙◌, subst, arith}
use Rattle.som_model.specs.declared.key.ClassKey.{ClassKey}
use Rattle.som_model.specs.declared.key.Module.TheVariants as modules
use Rattle.som_model.specs.Lists.{Mem}
use Rattle.som_model.specs.Hierarchy.{Hierarchy}
use Rattle.som_model.specs.Ancestors.{Descends, itself, by_parent}
use Rattle.som_model.specs.Class.{Class}
use Rattle.som_model.specs.Classes.{class_at, hierarchy}
use Rattle.som_model.specs.Kernel.{kernel, som_class}
use Rattle.som_model.specs.Metaclass.{meta}
use Rattle.som_model.specs.Loads.{IsOrdered}
use Rattle.som_model_laws.proofs.Members.{mem_left, mem_right, mem_split}
use Rattle.som_model_laws.specs.Keeping.{ClassesKeep}
use Rattle.som_model_laws.specs.Metaclasses.{IsDeclared, StandsLow}
use Rattle.som_model_laws.proofs.Keeping.{known_declared}
use Rattle.som_model_laws.proofs.Metas.{kernel_low, low_kernel, meta_law}
use Rattle.som_model_laws.proofs.Owners.{metaclass_known}
use Rattle.som_model_laws.proofs.Standing.{falls, found_is, known_above, parents_known, stands}
use Rattle.som_release_laws.specs.Releasing.{HaveParents}
use Rattle.som_release_laws.proofs.Exchange.{descends_new, kinds, new_alone, new_ordered, pair}
use Rattle.som_release_laws.proofs.Facts.{object_of}
use Rattle.som_release_laws.proofs.Prefix.{descends_more}

a_parent : (ks : List ClassKey) → 1 ≤ length ks → (k : ClassKey) × Mem k ks
a_parent [] le = absurd (omega arith)
a_parent (k ∷ ks) le = (k, inl refl)

-- a class whose ancestors have parents stands on a class of the kernel
module _ (cs : List Class) (o : IsOrdered cs) (have : HaveParents cs) where
  abbrev h : Hierarchy ClassKey
  h = hierarchy (kernel ++ cs)

  abbrev OnKernel : ClassKey → Type 0
  OnKernel k = (l : Class) × Mem l kernel × Descends h k l.key

  on_by : (k : ClassKey) (c : Class) → class_at (kernel ++ cs) k ≡ Some c → ((p : ClassKey) (d : Class) → h.height p < h.height k → class_at (kernel ++ cs) p ≡ Some d → OnKernel p) → OnKernel k
  on_by k c e again =
      let r = found_is cs o k c e in
      elim (mem_split c kernel cs r.0) [
        | inl m ↦ (c, m, subst (λ z. Descends h z c.key) r.1 itself)
        | inr m ↦ (
            let p = a_parent c.decl.face.parents (have c m) in
            let d = stands cs o k c p.0 e p.1 in
            let there : Mem p.0 (h.parents k) = subst (λ z. Mem p.0 z) (sym (parents_known cs o k c e)) p.1 in
            let up = again p.0 d.0 (falls cs o k p.0 there) d.1 in
            (up.0, up.1, by_parent p.0 there up.2))
      ]

  on_within : (n : ℕ) (k : ClassKey) (c : Class) → h.height k ≤ n → class_at (kernel ++ cs) k ≡ Some c → OnKernel k
  on_within zero k c le e = on_by k c e (λ p d lower f. absurd (omega (arith, lower, le)))
  on_within (suc n) k c le e = on_by k c e (λ p d lower f. let le2 : h.height p ≤ n = omega (arith, lower, le) in on_within n p d le2 f)

  pub on_kernel : (k : ClassKey) (c : Class) → class_at (kernel ++ cs) k ≡ Some c → OnKernel k
  on_kernel k c e = on_within (h.height k) k c (omega arith) e

-- what is declared, and what isn't
module _ (cs : List Class) (o : IsOrdered cs) where
  pub low_on : (l : Class) (k : ClassKey) → Mem l kernel → Descends (hierarchy (kernel ++ cs)) k l.key → StandsLow (kernel ++ cs) k
  low_on l k m d = record { class = l.key; low = kernel_low cs o l l.key m refl; above = d }

  object_by : (k : ClassKey) (c : Class) (q : Option ClassKey) → c.decl.face.metaclass ≡ q → StandsLow (kernel ++ cs) k
      → ((m : ClassKey) → q ≡ Some m → Descends (hierarchy (kernel ++ cs)) (meta (kernel ++ cs) k) m) → Descends (hierarchy (kernel ++ cs)) (meta (kernel ++ cs) k) (object_of (Some c))
  object_by k c None e s f = rw e ((meta_law cs o k som_class (record { module_ = modules.Kernel; name = _; is = refl })).1 (inl (itself, s)))
  object_by k c (Some m) e s f = rw e (f m refl)

  pub object_descends : (k : ClassKey) (c : Class) → StandsLow (kernel ++ cs) k
      → ((m : ClassKey) → c.decl.face.metaclass ≡ Some m → Descends (hierarchy (kernel ++ cs)) (meta (kernel ++ cs) k) m) → Descends (hierarchy (kernel ++ cs)) (meta (kernel ++ cs) k) (object_of (Some c))
  object_descends k c s f = object_by k c c.decl.face.metaclass refl s f

  -- a class that stands among these declares its metaclass there
  pub own_declared : (k : ClassKey) (c : Class) (m : ClassKey) → class_at (kernel ++ cs) k ≡ Some c → c.decl.face.metaclass ≡ Some m → Descends (hierarchy (kernel ++ cs)) (meta (kernel ++ cs) k) m
  own_declared k c m e is =
      let r = found_is cs o k c e in
      let known = metaclass_known cs o k c m e is in
      (meta_law cs o k m (known_declared cs o m known.0 known.1)).1
      (inr (record { class = c; there = r.0; above = subst (λ z. Descends (hierarchy (kernel ++ cs)) z c.key) r.1 itself; metaclass = m; declared = is; below = itself }))

  pub object_here : HaveParents cs → (k : ClassKey) (c : Class) → class_at (kernel ++ cs) k ≡ Some c → Descends (hierarchy (kernel ++ cs)) (meta (kernel ++ cs) k) (object_of (Some c))
  object_here have k c e = let l = on_kernel cs o have k c e in object_descends k c (low_on l.0 k l.1 l.2) (λ m is. own_declared k c m e is)

-- a release that is exchanged
module _ (olds news own : List Class) (oa : IsOrdered (olds ++ own)) (on : IsOrdered news) (keep : ClassesKeep olds news)
    (apart : (c d : Class) → Mem c news → Mem d own → c.key ≡ d.key → ⊥) (have : HaveParents (olds ++ own)) where
  abbrev A : List Class
  A = kernel ++ (olds ++ own)

  abbrev B : List Class
  B = kernel ++ (news ++ own)

  abbrev N : List Class
  N = kernel ++ news

  abbrev ob : IsOrdered (news ++ own)
  ob = new_ordered olds news own oa on keep apart

  -- from the release alone to all classes
  reaches_more : (k m : ClassKey) (n : Class) → class_at N k ≡ Some n → IsDeclared m → Descends (hierarchy N) (meta N k) m → Descends (hierarchy B) (meta B k) m
  reaches_more k m n e dec d = (meta_law (news ++ own) ob k m dec).1 (elim ((meta_law news on k m dec).0 d) [
    | inl (r, s) ↦ (
        let l = known_above news on k s.class n e s.above in
        let low = low_kernel news on s.class l.0 l.1 s.low in
        let key = (found_is news on s.class l.0 l.1).1 in
        inl (descends_more news own ob som_class m r, record { class = s.class; low = kernel_low (news ++ own) ob l.0 s.class low key; above = descends_more news own ob k s.class s.above }))
    | inr q ↦ inr (record {
      class = q.class;
      there = elim (mem_split q.class kernel news q.there) [ inl a ↦ mem_left q.class kernel (news ++ own) a | inr b ↦ mem_right q.class kernel (news ++ own) (mem_left q.class news own b) ];
      above = descends_more news own ob k q.class.key q.above;
      metaclass = q.metaclass;
      declared = q.declared;
      below = descends_more news own ob q.metaclass m q.below;
    })
  ])

  old_declared : (k : ClassKey) (c : Class) (m : ClassKey) → class_at A k ≡ Some c → Mem c olds → c.decl.face.metaclass ≡ Some m → Descends (hierarchy B) (meta B k) m
  old_declared k c m e i is =
      let key = (found_is (olds ++ own) oa k c e).1 in
      let n = pair olds news own oa on keep apart c i in
      let known = metaclass_known (olds ++ own) oa k c m e is in
      reaches_more k m n.0 (new_alone olds news own oa on keep apart n.0 k n.1 (n.2 ∙ key)) (known_declared (olds ++ own) oa m known.0 known.1)
      (subst (λ z. Descends (hierarchy N) (meta N z) m) key (keep.metaclasses c m i is))

  pub exchange_object : (k : ClassKey) (c : Class) → class_at A k ≡ Some c → Descends (hierarchy B) (meta B k) (object_of (Some c))
  exchange_object k c e =
      let l = on_kernel (olds ++ own) oa have k c e in
      object_descends (news ++ own) ob k c (low_on (news ++ own) ob l.0 k l.1 (descends_new olds news own oa on keep apart k l.0.key l.2)) (λ m is.
      elim (kinds olds news own oa on keep apart k c e) [
        | inl f ↦ own_declared (news ++ own) ob k c m f is
        | inr i ↦ old_declared k c m e i is
      ])
