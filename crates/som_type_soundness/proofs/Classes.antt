-- What a typed run needs of the classes holds of classes that can be loaded: descent, metaclasses, proxies and variables.
use Rattle.std.proofs.Common.{◌≡◌, ℕ, zero, suc, ◌≤◌, inl, inr, Bool, true, false, not, ◌&&◌, if◌then◌else◌, List, [], ◌∷◌, ◌++◌, map, flat_map, nat_lt, Option, Some, None, slice_get, refl, sym, ap, ◌∙◌, subst, arith}
use Rattle.som_model.specs.declared.key.Module.{Module}
use Rattle.som_model.specs.declared.key.Module.TheVariants as modules
use Rattle.som_model.specs.declared.key.ClassKey.{ClassKey, out-ClassKey, out-roll-ClassKey}
use Rattle.som_model.specs.declared.key.ClassKey.TheOpen.{ClassKey-F}
use Rattle.som_model.specs.declared.key.ClassKey.TheVariants as keys
use Rattle.som_model.specs.declared.key.ClassKey.TheVariants.{rolls-Derived, rolls-Proxy}
use Rattle.som_model.specs.declared.key.ValueType.{ValueType}
use Rattle.som_model.specs.declared.key.ValueType.TheVariants as types
use Rattle.som_model.specs.declared.class.Variable.{Variable}
use Rattle.som_model.specs.declared.class.Entry.{Entry}
use Rattle.som_model.specs.declared.class.Entry.TheVariants as entries
use Rattle.som_model.specs.Lists.{Mem, firsts, some, every}
use Rattle.som_model.specs.Keys.{same_key}
use Rattle.som_model.specs.Hierarchy.{Hierarchy}
use Rattle.som_model.specs.Ancestors.{Descends, itself, by_parent, descends}
use Rattle.som_model.specs.Class.{Class, bare, class_in}
use Rattle.som_model.specs.Kernel.{kernel, som_object, som_class, som_class_mgr, before_after, object_face, class_face, class_mgr_face, before_after_face}
use Rattle.som_model.specs.Classes.{class_at, parents_of, hierarchy, is_a, variable_type}
use Rattle.som_model.specs.Metaclass.{rank, is_low, lowest, is_above, meta_within, meta}
use Rattle.som_model.specs.Rules.{RuleBreach, is_void, is_value_type, is_known, demand_of, s5}
use Rattle.som_semantics.specs.World.{searched, named_class}
use Rattle.som_model.specs.Loads.{IsOrdered}
use Rattle.som_model.proofs.KeyLaws.{both}
use Rattle.som_model.proofs.NamedLaws.{out_named, hierarchy_same}
use Rattle.som_model.proofs.ListLaws.{is_false}
use Rattle.som_model_laws.proofs.Members.{firsts_mem, without_mem, mem_split, first_from}
use Rattle.som_model_laws.proofs.Laws.{descends_through, descends_step}
use Rattle.som_model_laws.specs.Metaclasses.{StandsLow}
use Rattle.som_model_laws.proofs.Lists.{map_mem, option_mem, get_mem}
use Rattle.som_model_laws.proofs.Standing.{falls, found, rolled, rank_derived, found_is, keyed, known_above, named_layer, parents_known, parents_derived, parents_proxy, tells}
use Rattle.som_model_laws.proofs.Metas.{kernel_low, low_kernel, low_parents, unknown_low, meta_law, declared_in}
use Rattle.som_model_laws.proofs.Owners.{metaclass_known}
use Rattle.som_release_laws.specs.Releasing.{HaveParents}
use Rattle.som_release_laws.proofs.Facing.{demanded_of}
use Rattle.som_release_laws.proofs.Lists.{flat_at, none_left}
use Rattle.som_release_laws.proofs.Objects.{on_kernel, low_on}

pub out_proxy : (k : ClassKey) → out-ClassKey (keys.Proxy k) ≡ ClassKey-F.Proxy k
out_proxy k = ap out-ClassKey (sym (rolls-Proxy k)) ∙ out-roll-ClassKey (ClassKey-F.Proxy k)

out_derived : (ks : List ClassKey) → out-ClassKey (keys.Derived ks) ≡ ClassKey-F.Derived ks
out_derived ks = ap out-ClassKey (sym (rolls-Derived ks)) ∙ out-roll-ClassKey (ClassKey-F.Derived ks)

one_proxy : (k c : ClassKey) → keys.Proxy k ≡ keys.Proxy c → k ≡ c
one_proxy k c e = let z = sym (out_proxy k) ∙ ap out-ClassKey e ∙ out_proxy c in cc

-- what one class is, or what is made of several
abbrev made : List ClassKey → ClassKey
made (k ∷ []) = k
made ks = keys.Derived ks

abbrev type_at : List Variable → ℕ → ValueType
type_at [] n = types.Void
type_at (v ∷ vs) zero = v.kind
type_at (v ∷ vs) (suc n) = type_at vs n

abbrev type_in : Option Class → ℕ → ValueType
type_in None n = types.Void
type_in (Some c) n = type_at c.decl.variables n

type_there : (vs : List Variable) (n : ℕ) (kind : ValueType) → slice_get (map (λ (v : Variable). v.kind) vs) n ≡ Some kind → type_at vs n ≡ kind
type_there [] n kind e = absurd (let z = e in cc)
type_there (v ∷ vs) zero kind e = let z = e in cc
type_there (v ∷ vs) (suc n) kind e = type_there vs n kind e

-- the types of an entry, as they are asked for
abbrev entry_types : List Class → Class → Entry → List RuleBreach
entry_types known c (entries.Introduced name sig way) = demand_of 5 c name (is_known known sig.result && every (is_value_type known) sig.params)
entry_types known c (entries.Moved name to) = []

module _ (cs : List Class) (o : IsOrdered cs) where
  abbrev all : List Class
  all = kernel ++ cs

  abbrev h : Hierarchy ClassKey
  h = hierarchy all

  -- ---- the classes of the kernel

  pub object_at : class_at all som_object ≡ Some (class_in modules.Kernel (bare object_face))
  object_at = found cs o (class_in modules.Kernel (bare object_face)) som_object (inl refl) refl

  pub class_class_at : class_at all som_class ≡ Some (class_in modules.Kernel (bare class_face))
  class_class_at = found cs o (class_in modules.Kernel (bare class_face)) som_class (inr (inl refl)) refl

  pub manager_at : class_at all som_class_mgr ≡ Some (class_in modules.Kernel (bare class_mgr_face))
  manager_at = found cs o (class_in modules.Kernel (bare class_mgr_face)) som_class_mgr (inr (inr (inl refl))) refl

  pub before_after_at : class_at all before_after ≡ Some (class_in modules.Kernel (bare before_after_face))
  before_after_at = found cs o (class_in modules.Kernel (bare before_after_face)) before_after (inr (inr (inr (inl refl)))) refl

  pub class_object : Descends h som_class som_object
  class_object = by_parent som_object (subst (λ z. Mem som_object z) (sym (parents_known cs o som_class (class_in modules.Kernel (bare class_face)) class_class_at)) (inl refl)) itself

  pub manager_object : Descends h som_class_mgr som_object
  manager_object = by_parent som_object (subst (λ z. Mem som_object z) (sym (parents_known cs o som_class_mgr (class_in modules.Kernel (bare class_mgr_face)) manager_at)) (inl refl)) itself

  before_after_class : Descends h before_after som_class
  before_after_class = by_parent som_class (subst (λ z. Mem som_class z) (sym (parents_known cs o before_after (class_in modules.Kernel (bare before_after_face)) before_after_at)) (inl refl)) itself

  kernel_object : (c : Class) → Mem c kernel → Descends h c.key som_object
  kernel_object c (inl e) = subst (λ (z : Class). Descends h z.key som_object) (sym e) itself
  kernel_object c (inr (inl e)) = subst (λ (z : Class). Descends h z.key som_object) (sym e) class_object
  kernel_object c (inr (inr (inl e))) = subst (λ (z : Class). Descends h z.key som_object) (sym e) manager_object
  kernel_object c (inr (inr (inr (inl e)))) = subst (λ (z : Class). Descends h z.key som_object) (sym e) (descends_through h before_after som_class som_object before_after_class class_object)
  kernel_object c (inr (inr (inr (inr m)))) = absurd m

  pub kernel_plain : (c : Class) → Mem c kernel → c.decl.variables ≡ []
  kernel_plain c (inl e) = ap (λ (z : Class). z.decl.variables) e
  kernel_plain c (inr (inl e)) = ap (λ (z : Class). z.decl.variables) e
  kernel_plain c (inr (inr (inl e))) = ap (λ (z : Class). z.decl.variables) e
  kernel_plain c (inr (inr (inr (inl e)))) = ap (λ (z : Class). z.decl.variables) e
  kernel_plain c (inr (inr (inr (inr m)))) = absurd m

  low_above : (x k : ClassKey) → is_low all x ≡ true → Descends h x k → is_low all k ≡ true
  low_above x k low itself = low
  low_above x k low (by_parent p m d) = low_above p k (low_parents cs o x p low m) d

  -- the class manager object has no variables
  pub manager_slots : (k : ClassKey) (n : ℕ) → Descends h som_class_mgr k → is_void (variable_type all k n) ≡ true
  manager_slots k n d =
      let low = low_above som_class_mgr k (kernel_low cs o (class_in modules.Kernel (bare class_mgr_face)) som_class_mgr (inr (inr (inl refl))) refl) d in
      let c = known_above cs o som_class_mgr k (class_in modules.Kernel (bare class_mgr_face)) manager_at d in
      none c.0 c.1 (kernel_plain c.0 (low_kernel cs o k c.0 c.1 low))
    where
      none : (c : Class) → class_at all k ≡ Some c → c.decl.variables ≡ [] → is_void (variable_type all k n) ≡ true
      none c e f = rw e (rw f refl)

  -- ---- proxies

  pub proxy_of : (k : ClassKey) → Descends h (keys.Proxy k) k
  proxy_of k = by_parent k (subst (λ z. Mem k z) (sym (parents_proxy cs o (keys.Proxy k) k (out_proxy k))) (inl refl)) itself

  -- what is declared isn't below a proxy's class
  pub no_proxy_above : (x c : ClassKey) (d : Class) → class_at all x ≡ Some d → Descends h x (keys.Proxy c) → ⊥
  no_proxy_above x c d e f =
      let p = known_above cs o x (keys.Proxy c) d e f in
      let is = found_is cs o (keys.Proxy c) p.0 p.1 in
      let n = keyed cs o p.0 is.0 in
      let z = sym (out_proxy c) ∙ ap out-ClassKey (sym is.1 ∙ n.2) ∙ out_named n.0 n.1 in cc

  pub one_proxied : (k c : ClassKey) (d : Class) → class_at all k ≡ Some d → Descends h (keys.Proxy k) (keys.Proxy c) → k ≡ c
  one_proxied k c d e f = by (keys.Proxy k) (keys.Proxy c) refl refl f
    where
      by : (x y : ClassKey) → x ≡ keys.Proxy k → y ≡ keys.Proxy c → Descends h x y → k ≡ c
      by x y p q itself = one_proxy k c (sym p ∙ q)
      by x y p q (by_parent z m g) = elim (subst (λ l. Mem z l) (ap h.parents p ∙ parents_proxy cs o (keys.Proxy k) k (out_proxy k)) m) [
        | inl is ↦ absurd (no_proxy_above k c d e (subst (λ u. Descends h u (keys.Proxy c)) is (subst (λ u. Descends h z u) q g)))
        | inr n ↦ absurd n
      ]

  -- no metaclass is below a proxy's class
  derived_real : (ks : List ClassKey) (c : ClassKey) → ((k : ClassKey) → Mem k ks → Descends h k (keys.Proxy c) → ⊥) → Descends h (keys.Derived ks) (keys.Proxy c) → ⊥
  derived_real ks c f d = by (keys.Derived ks) (keys.Proxy c) refl refl d
    where
      by : (x y : ClassKey) → x ≡ keys.Derived ks → y ≡ keys.Proxy c → Descends h x y → ⊥
      by x y p q itself = let z = sym (out_derived ks) ∙ ap out-ClassKey (sym p ∙ q) ∙ out_proxy c in cc
      by x y p q (by_parent z m g) = f z (subst (λ l. Mem z l) (ap h.parents p ∙ parents_derived cs o (keys.Derived ks) ks (out_derived ks)) m) (subst (λ u. Descends h z u) q g)

  made_real : (ks : List ClassKey) (c : ClassKey) → ((k : ClassKey) → Mem k ks → Descends h k (keys.Proxy c) → ⊥) → Descends h (made ks) (keys.Proxy c) → ⊥
  made_real [] c f d = derived_real [] c f d
  made_real (k ∷ []) c f d = f k (inl refl) d
  made_real (k ∷ l ∷ ks) c f d = derived_real (k ∷ l ∷ ks) c f d

  declared_real : (x k c : ClassKey) (q : Option Class) → class_at all x ≡ q → Mem k (declared_in q) → Descends h k (keys.Proxy c) → ⊥
  declared_real x k c None e m d = m
  declared_real x k c (Some a) e m d = let r = metaclass_known cs o x a k e (option_mem a.decl.face.metaclass k m) in no_proxy_above k c r.0 r.1 d

  within_real : (n : ℕ) (x c : ClassKey) → Descends h (meta_within all n x) (keys.Proxy c) → ⊥
  within_real zero x c d = no_proxy_above som_class c (class_in modules.Kernel (bare class_face)) class_class_at d
  within_real (suc n) x c d = by (is_low all x) (λ p. within_real n p c) d
    where
      by : (b : Bool) → ((p : ClassKey) → Descends h (meta_within all n p) (keys.Proxy c) → ⊥)
          → Descends h (if b then som_class else made (lowest all (firsts same_key (declared_in (class_at all x) ++ map (meta_within all n) (parents_of all x))))) (keys.Proxy c) → ⊥
      by true f e = no_proxy_above som_class c (class_in modules.Kernel (bare class_face)) class_class_at e
      by false f e = made_real (lowest all (firsts same_key (declared_in (class_at all x) ++ map (meta_within all n) (parents_of all x)))) c
          (λ k m g. elim (mem_split k (declared_in (class_at all x)) (map (meta_within all n) (parents_of all x))
          (firsts_mem same_key k (declared_in (class_at all x) ++ map (meta_within all n) (parents_of all x)) (without_mem (is_above all (firsts same_key (declared_in (class_at all x) ++ map (meta_within all n) (parents_of all x)))) k (firsts same_key (declared_in (class_at all x) ++ map (meta_within all n) (parents_of all x))) m))) [
            | inl a ↦ declared_real x k c (class_at all x) refl a g
            | inr a ↦ (let q = map_mem (meta_within all n) k (parents_of all x) a in f q.0 (subst (λ z. Descends h z (keys.Proxy c)) q.2 g))
          ]) e

  pub meta_real : (k c : ClassKey) → Descends h (meta all k) (keys.Proxy c) → ⊥
  meta_real k c d = within_real (h.height k) k c d

  pub manager_real : (c : ClassKey) → Descends h som_class_mgr (keys.Proxy c) → ⊥
  manager_real c d = no_proxy_above som_class_mgr c (class_in modules.Kernel (bare class_mgr_face)) manager_at d

  -- ---- every class that is found is an object's

  module _ (have : HaveParents cs) where
    pub known_object : (k : ClassKey) (c : Class) → class_at all k ≡ Some c → Descends h k som_object
    known_object k c e = let l = on_kernel cs o have k c e in descends_through h k l.0.key som_object l.2 (kernel_object l.0 l.1)

    pub named_object : (name : List ℕ) (k : ClassKey) → named_class all name ≡ Some k → Descends h k som_object
    named_object name k e =
        let m = first_from (λ (m : Module). key_of (class_at all (keys.Named m name))) (searched all) k e in
        let r = at (class_at all (keys.Named m.0 name)) m.2 in
        let c = found_is cs o (keys.Named m.0 name) r.0 r.1 in
        known_object k r.0 (found cs o r.0 k c.0 r.2)
      where
        key_of : Option Class → Option ClassKey
        key_of None = None
        key_of (Some c) = Some c.key

        at : (q : Option Class) → key_of q ≡ Some k → (c : Class) × (q ≡ Some c) × (c.key ≡ k)
        at None f = absurd (let z = f in cc)
        at (Some c) f = (c, refl, let z = f in cc)

    -- each class stands on one that is low, so that each metaclass descends from SOMClass
    low_by : (k : ClassKey) (l : ClassKey-F ClassKey) → out-ClassKey k ≡ l → ((p : ClassKey) → Mem p (h.parents k) → StandsLow all p) → StandsLow all k
    low_by k (ClassKey-F.Named m n) e f = named (class_at all k) refl
      where
        named : (q : Option Class) → class_at all k ≡ q → StandsLow all k
        named None g = record { class = k; low = unknown_low cs o k m n (named_layer k m n e) g; above = itself }
        named (Some c) g = let l = on_kernel cs o have k c g in low_on cs o l.0 k l.1 l.2
    low_by k (ClassKey-F.Derived []) e f = record { class = k; low = made_low; above = itself }
      where
        made_low : is_low all k ≡ true
        made_low = ap (λ n. nat_lt n 4) (ap (rank all) (sym (rolled k (ClassKey-F.Derived []) e)) ∙ rank_derived cs o [])
    low_by k (ClassKey-F.Derived (p ∷ ps)) e f = up k p (subst (λ z. Mem p z) (sym (parents_derived cs o k (p ∷ ps) e)) (inl refl)) f
      where
        up : (k p : ClassKey) → Mem p (h.parents k) → ((p : ClassKey) → Mem p (h.parents k) → StandsLow all p) → StandsLow all k
        up k p m f = let s = f p m in record { class = s.class; low = s.low; above = by_parent p m s.above }
    low_by k (ClassKey-F.Proxy p) e f = up k p (subst (λ z. Mem p z) (sym (parents_proxy cs o k p e)) (inl refl)) f
      where
        up : (k p : ClassKey) → Mem p (h.parents k) → ((p : ClassKey) → Mem p (h.parents k) → StandsLow all p) → StandsLow all k
        up k p m f = let s = f p m in record { class = s.class; low = s.low; above = by_parent p m s.above }

    low_within : (n : ℕ) (k : ClassKey) → h.height k ≤ n → StandsLow all k
    low_within zero k le = low_by k (out-ClassKey k) refl (λ p m. absurd (let lower = falls cs o k p m in omega (arith, lower, le)))
    low_within (suc n) k le = low_by k (out-ClassKey k) refl (λ p m. let lower = falls cs o k p m in let le2 : h.height p ≤ n = omega (arith, lower, le) in low_within n p le2)

    pub meta_class : (k : ClassKey) → Descends h (meta all k) som_class
    meta_class k = (meta_law cs o k som_class (record { module_ = modules.Kernel; name = _; is = refl })).1 (inl (itself, low_within (h.height k) k (omega arith)))

  -- ---- a class among these

  pub proper_parent : (k a : ClassKey) → same_key a k ≡ false → is_a all k a ≡ true → some (λ p. is_a all p a) (h.parents k) ≡ true
  proper_parent k a n e =
      let step = descends_step h (tells cs o) (falls cs o) k a in
      let same : h.same a k ≡ false = hierarchy_same all a k ∙ n in
      sym (ap (λ (b : Bool). if b then true else some (λ p. descends h p a) (h.parents k)) same) ∙ sym step ∙ e

  pub kind_is : (k : ClassKey) (c : Class) (n : ℕ) (kind : ValueType) → class_at all k ≡ Some c → slice_get (map (λ (v : Variable). v.kind) c.decl.variables) n ≡ Some kind → variable_type all k n ≡ kind
  kind_is k c n kind e f = ap (λ q. type_in q n) e ∙ type_there c.decl.variables n kind f

  -- a variable that there is isn't void
  pub kind_some : ((c : Class) → Mem c cs → s5 all c ≡ []) → (k : ClassKey) (c : Class) (n : ℕ) (kind : ValueType) → class_at all k ≡ Some c → slice_get (map (λ (v : Variable). v.kind) c.decl.variables) n ≡ Some kind → is_void kind ≡ false
  kind_some types_hold k c n kind e f = elim (mem_split c kernel cs (found_is cs o k c e).0) [
    | inl m ↦ absurd (let z = ap (λ (vs : List Variable). slice_get (map (λ (v : Variable). v.kind) vs) n) (sym (kernel_plain c m)) ∙ f in cc)
    | inr m ↦ (let p = none_left (flat_map (entry_types all c) c.decl.face.entries) (flat_map (λ (v : Variable). demand_of 5 c v.name (is_value_type all v.kind)) c.decl.variables) (types_hold c m) in
        let v = map_mem (λ (v : Variable). v.kind) kind c.decl.variables (get_mem (map (λ (v : Variable). v.kind) c.decl.variables) n kind f) in
        let d = demanded_of 5 c v.0.name (is_value_type all v.0.kind) (flat_at (λ (v : Variable). demand_of 5 c v.name (is_value_type all v.kind)) c.decl.variables v.0 p.1 v.1) in
        ap is_void v.2 ∙ is_false (is_void v.0.kind) (both (not (is_void v.0.kind)) (is_known all v.0.kind) d).0)
  ]
