-- The classes that can be loaded are a scheme that can be laid.
use Rattle.std.proofs.Common.{◌≡◌, ℕ, zero, suc, ◌<◌, ◌≤◌, inl, inr, ◌==◌, ◌||◌, Bool, true, false, if◌then◌else◌, List, [], ◌∷◌, ◌++◌, length, map, get_or, Option, Some, None, is_some, slice_get, refl, sym, ap, ◌∙◌, subst, arith, true≢false}
use Rattle.std.proofs.lemmas.Bool.{eqb-true}
use Rattle.som_model.specs.declared.key.Module.TheVariants as modules
use Rattle.som_model.specs.declared.key.ClassKey.{ClassKey, out-ClassKey}
use Rattle.som_model.specs.declared.key.ClassKey.TheOpen.{ClassKey-F}
use Rattle.som_model.specs.declared.key.ClassKey.TheVariants as keys
use Rattle.som_model.specs.declared.key.ClassKey.TheVariants.{rolls-Proxy}
use Rattle.som_model.specs.declared.key.MethodRef.{MethodRef}
use Rattle.som_model.specs.Lists.{Mem, or_else, some}
use Rattle.som_model.specs.Keys.{same_key, same_method}
use Rattle.som_model.specs.Hierarchy.{Hierarchy}
use Rattle.som_model.specs.Ancestors.{Descends, itself, by_parent}
use Rattle.som_model.specs.Resolution.{Chooses}
use Rattle.som_model.specs.Class.{Class, bare, class_in, entry_of, introduced}
use Rattle.som_model.specs.Classes.{ancestors, class_at, hierarchy, is_a}
use Rattle.som_model.specs.Kernel.{before_after_face, class_face, class_mgr_face, kernel, object_face, som_class, som_init, som_object, som_uninit}
use Rattle.som_model.specs.Owner.{introduced_by, introduced_in, owner}
use Rattle.som_model.specs.Implementation.{Forward, Held, Nothing, OfKernel, body_named, declared_held, forwards, has_body, held, held_by, introduced_body, is_kernel, override_of, select_of, selected, selected_in}
use Rattle.som_model.specs.Rules.{is_parent_below, s10_from, s10_selects, demand}
use Rattle.som_model.proofs.KeyLaws.{exact_keys}
use Rattle.som_model.proofs.NamedLaws.{held_named, kernel_named}
use Rattle.som_model_laws.proofs.Members.{mem_split, some_mem}
use Rattle.som_model_laws.proofs.Laws.{ancestors as descents, descends_test}
use Rattle.som_model_laws.proofs.Lists.{get_mem, map_mem, mem_get}
use Rattle.som_model_laws.proofs.Standing as standing
use Rattle.som_meta.specs.Numbering.{IsNumbered, IsToken, Numbering, key_at, method_at, names_of}
use Rattle.som_class_layout_laws.specs.Laying.{IsScheme}
use Rattle.som_class_layout_laws.specs.Schemes.{CanBeLaid, numbered, scheme_of}
use Rattle.som_class_layout_laws.proofs.Members.{body_some, demanded, entry_some, flat_member, get_member, none_left, override_found, override_proper, same_methods, select_below, select_found, then_some}

-- the kernel's classes override and select nothing, and one alone has no parent
kernel_bare : (c : Class) → Mem c kernel → (c.decl.overrides ≡ []) × (c.decl.selects ≡ [])
kernel_bare c (inl e) = (ap (λ (z : Class). z.decl.overrides) e, ap (λ (z : Class). z.decl.selects) e)
kernel_bare c (inr (inl e)) = (ap (λ (z : Class). z.decl.overrides) e, ap (λ (z : Class). z.decl.selects) e)
kernel_bare c (inr (inr (inl e))) = (ap (λ (z : Class). z.decl.overrides) e, ap (λ (z : Class). z.decl.selects) e)
kernel_bare c (inr (inr (inr (inl e)))) = (ap (λ (z : Class). z.decl.overrides) e, ap (λ (z : Class). z.decl.selects) e)
kernel_bare c (inr (inr (inr (inr m)))) = absurd m

some_held : (o : Option Held) (q : Option Held) → is_some o ≡ true → is_some (or_else o q) ≡ true
some_held None q e = absurd (true≢false (sym e))
some_held (Some h) q e = refl

module _ (cs : List Class) (ks : List ClassKey) (ok : CanBeLaid cs ks) where
  abbrev all : List Class
  all = kernel ++ cs

  abbrev h : Hierarchy ClassKey
  h = hierarchy all

  abbrev k : Numbering
  k = numbered cs ks

  known : (key : ClassKey) (c : Class) → class_at all key ≡ Some c → Mem c all × (c.key ≡ key)
  known key c e = standing.found_is cs ok.faces.ordered key c e

  parents_are : (c : Class) → Mem c all → h.parents c.key ≡ c.decl.face.parents
  parents_are c m = standing.parents_known cs ok.faces.ordered c.key c (standing.found cs ok.faces.ordered c c.key m refl)

  -- each declared class descends from the root
  first_parent : (i : ℕ) (c : Class) → slice_get all (suc i) ≡ Some c → (p : ClassKey) × Mem p c.decl.face.parents
  first_parent zero c e = (som_object, (let is : class_in modules.Kernel (bare class_face) ≡ c = cc in subst (λ (z : Class). Mem som_object z.decl.face.parents) is (inl refl)))
  first_parent (suc zero) c e = (som_object, (let is : class_in modules.Kernel (bare class_mgr_face) ≡ c = cc in subst (λ (z : Class). Mem som_object z.decl.face.parents) is (inl refl)))
  first_parent (suc (suc zero)) c e = (som_class, (let is : class_in modules.Kernel (bare before_after_face) ≡ c = cc in subst (λ (z : Class). Mem som_class z.decl.face.parents) is (inl refl)))
  first_parent (suc (suc (suc i))) c e = one c.decl.face.parents (ok.some_parent c (get_mem cs i c e))
    where
      one : (ps : List ClassKey) → 1 ≤ length ps → (p : ClassKey) × Mem p ps
      one [] l = absurd (omega (arith, l))
      one (p ∷ ps) l = (p, inl refl)

  rooted_within : (n i : ℕ) → i < n → (c : Class) → slice_get all i ≡ Some c → Descends h c.key som_object
  rooted_within zero i lt c e = absurd (omega (arith, lt))
  rooted_within (suc n) zero lt c e = (let is : class_in modules.Kernel (bare object_face) ≡ c = cc in subst (λ (z : Class). Descends h z.key som_object) is itself)
  rooted_within (suc n) (suc i) lt c e =
      let p = first_parent i c e in
      let r = standing.lower cs ok.faces.ordered (suc i) c p.0 e p.1 in
      let less = r.2 in
      by_parent p.0 (subst (λ l. Mem p.0 l) (sym (parents_are c (get_mem all (suc i) c e))) p.1)
      (subst (λ z. Descends h z som_object) r.4 (rooted_within n r.0 (omega (arith, less, lt)) r.1 r.3))

  rooted : (c : Class) → Mem c all → Descends h c.key som_object
  rooted c m = let i = mem_get all c m in rooted_within (suc i.0) i.0 (omega arith) c i.1

  -- the class that introduces a method has a body for it
  introduces_body : (c : Class) (name : List ℕ) → Mem c all → Mem name (introduced c.decl.face.entries) → is_some (introduced_body c name) ≡ true
  introduces_body c name m n = by (is_kernel c.key) refl
    where
      of_kernel : (b : Bool) → b ≡ true → is_some (if b then Some (OfKernel name) else None) ≡ true
      of_kernel true e = refl
      of_kernel false e = absurd (true≢false (sym e))

      by : (b : Bool) → is_kernel c.key ≡ b → is_some (if b then (if is_some (entry_of c.decl.face.entries name) then Some (OfKernel name) else None) else body_named c.decl.face.entries c.decl.bodies name) ≡ true
      by true e = of_kernel (is_some (entry_of c.decl.face.entries name)) (entry_some c.decl.face.entries name n)
      by false e = elim (mem_split c kernel cs m) [
        | inl kernels ↦ (let r = standing.kernel_key c kernels in absurd (true≢false (sym (ap is_kernel r.1 ∙ kernel_named modules.Kernel r.0) ∙ e)))
        | inr own ↦ (
            let parts = none_left (demand 14 c (length c.decl.bodies == length (introduced c.decl.face.entries))) _ (ok.bodies c own) in
            let same = eqb-true (length c.decl.bodies) (length (introduced c.decl.face.entries)) (demanded 14 c (length c.decl.bodies == length (introduced c.decl.face.entries)) parts.0) in
            body_some c.decl.face.entries c.decl.bodies name same n)
      ]

  own_body : (t : ℕ × ℕ) → IsToken k t → has_body all (method_at k t) (method_at k t).class ≡ true
  own_body t is = by (class_at all (key_at k t.0)) refl
    where
      r : MethodRef
      r = method_at k t

      by : (o : Option Class) → class_at all (key_at k t.0) ≡ o → has_body all (method_at k t) (key_at k t.0) ≡ true
      by None e = absurd (let none : length (introduced_by all (key_at k t.0)) ≡ 0 = ap (λ o. length (introduced_in o)) e in let lt = is.1 in omega (arith, none, lt))
      by (Some c) e =
          let f = known (key_at k t.0) c e in
          let names : introduced_by all (key_at k t.0) ≡ introduced c.decl.face.entries = ap introduced_in e in
          let name = get_or (names_of k t.0) t.1 [] in
          let mem : Mem name (introduced c.decl.face.entries) = subst (λ l. Mem name l) names (get_member (names_of k t.0) t.1 is.1) in
          let body = introduces_body c name f.0 mem in
          let n = standing.keyed cs ok.faces.ordered c f.0 in
          let key : key_at k t.0 ≡ keys.Named n.0 n.1 = sym f.1 ∙ n.2 in
          let holds : held all (key_at k t.0) (method_at k t) ≡ declared_held all (Some c) (method_at k t) =
          ap (λ z. held all z (method_at k t)) key ∙ held_named all n.0 n.1 (method_at k t) ∙ ap (λ z. declared_held all (class_at all z) (method_at k t)) (sym key) ∙ ap (λ o. declared_held all o (method_at k t)) e in
          let own : same_key c.key (key_at k t.0) ≡ true = ap (λ z. same_key z (key_at k t.0)) f.1 ∙ exact_keys.one (key_at k t.0) in
          ap is_some holds ∙ ap (λ (b : Bool). is_some (or_else (if b then introduced_body c name else None) (override_of all (method_at k t) c.decl.overrides))) own
          ∙ some_held (introduced_body c name) (override_of all (method_at k t) c.decl.overrides) body

  -- who selects, selects a parent that descends from the class of the method
  picks : (r : MethodRef) → Chooses h (selected all r) r.class
  picks r = record { parent = λ x p e. (by x p (class_at all x) refl e).0; below = λ x p e. (by x p (class_at all x) refl e).1 }
    where
      by : (x p : ClassKey) (o : Option Class) → class_at all x ≡ o → selected_in all r o ≡ Some p → Mem p (h.parents x) × Descends h p r.class
      by x p None e s = absurd (cc)
      by x p (Some c) e s =
          let f = known x c e in
          let a = then_some (slice_get c.decl.face.parents) (select_of all r c.decl.selects) p s in
          let w = select_found all r c.decl.selects a.0 a.1 in
          elim (mem_split c kernel cs f.0) [
            | inl kernels ↦ absurd (subst (λ l. Mem w.0 l) (kernel_bare c kernels).1 w.1)
            | inr own ↦ (
                let two = none_left (s10_from all c [] c.decl.overrides) (s10_selects all c (map (λ o. owner all o.method) c.decl.overrides) c.decl.selects) (ok.inherited c own) in
                let t = select_below all c (map (λ o. owner all o.method) c.decl.overrides) c.decl.selects two.1 w.0 w.1 in
                let at : slice_get c.decl.face.parents w.0.parent ≡ Some p = ap (slice_get c.decl.face.parents) w.3 ∙ a.2 in
                let is : is_a all p (owner all w.0.method).class ≡ true = subst (λ (o : Option ClassKey). is_parent_below all (owner all w.0.method).class o ≡ true) at t in
                let m = same_methods (owner all w.0.method) r w.2 in (
                  subst (λ l. Mem p l) (sym (standing.parents_known cs ok.faces.ordered x c e)) (get_mem c.decl.face.parents a.0 p a.2),
                  (descends_test h (standing.tells cs ok.faces.ordered) (standing.falls cs ok.faces.ordered) p r.class).0 (ap (λ (z : MethodRef). is_a all p z.class) (sym m) ∙ is),
                ))
          ]

  -- a declared class that has a body for a method descends from the class that introduces it
  declared_below : (key : ClassKey) (r : MethodRef) (o : Option Class) → class_at all key ≡ o → is_some (declared_held all o r) ≡ true → Descends h key r.class
  declared_below key r None e s = absurd (true≢false (sym s))
  declared_below key r (Some c) e s = by (same_key c.key r.class) refl s
    where
      by : (b : Bool) → same_key c.key r.class ≡ b → is_some (or_else (if b then introduced_body c r.name else None) (override_of all r c.decl.overrides)) ≡ true → Descends h key r.class
      by true t s = subst (λ z. Descends h key z) (sym (known key c e).1 ∙ exact_keys.two c.key r.class t) itself
      by false t s =
          let f = known key c e in
          let w = override_found all r c.decl.overrides s in
          elim (mem_split c kernel cs f.0) [
            | inl kernels ↦ absurd (subst (λ l. Mem w.0 l) (kernel_bare c kernels).0 w.1)
            | inr own ↦ (
                let two = none_left (s10_from all c [] c.decl.overrides) (s10_selects all c (map (λ o. owner all o.method) c.decl.overrides) c.decl.selects) (ok.inherited c own) in
                let proper = override_proper all c [] c.decl.overrides two.0 w.0 w.1 in
                let m = same_methods (owner all w.0.method) r w.2 in
                subst (λ z. Descends h z r.class) f.1
                ((descends_test h (standing.tells cs ok.faces.ordered) (standing.falls cs ok.faces.ordered) c.key r.class).0 (ap (λ (z : MethodRef). is_a all c.key z.class) (sym m) ∙ proper)))
          ]

  abbrev forwarded : ClassKey → List MethodRef
  forwarded x = if is_kernel x then [] else map (λ name. record { class = x; name = name }) (introduced_by all x)

  forwarded_class : (x : ClassKey) (b : Bool) (r : MethodRef) → Mem r (if b then [] else map (λ (name : List ℕ). record { class = x; name = name }) (introduced_by all x)) → r.class ≡ x
  forwarded_class x true r m = absurd m
  forwarded_class x false r m = let w = map_mem (λ (name : List ℕ). let z : MethodRef = record { class = x; name = name } in z) r (introduced_by all x) m in ap (λ (z : MethodRef). z.class) w.2

  -- so does a proxy
  proxy_below : (key of : ClassKey) (r : MethodRef) → h.parents key ≡ of ∷ [] → Descends h of som_object → (a b c : Bool) → same_method r som_init ≡ a → same_method r som_uninit ≡ b → some (same_method r) (forwards all of) ≡ c
      → is_some (if a || b then Some Nothing else (if c then Some Forward else None)) ≡ true → Descends h key r.class
  proxy_below key of r parents root true b c ea eb ec s =
      let is = same_methods r som_init ea in
      by_parent of (subst (λ l. Mem of l) (sym parents) (inl refl)) (subst (λ (z : MethodRef). Descends h of z.class) (sym is) root)
  proxy_below key of r parents root false true c ea eb ec s =
      let is = same_methods r som_uninit eb in
      by_parent of (subst (λ l. Mem of l) (sym parents) (inl refl)) (subst (λ (z : MethodRef). Descends h of z.class) (sym is) root)
  proxy_below key of r parents root false false true ea eb ec s =
      let w = some_mem (same_method r) (forwards all of) ec in
      let is = same_methods r w.0 w.2 in
      let v = flat_member forwarded w.0 (ancestors all of) w.1 in
      let class : r.class ≡ v.0 = ap (λ (z : MethodRef). z.class) is ∙ forwarded_class v.0 (is_kernel v.0) w.0 v.2 in
      by_parent of (subst (λ l. Mem of l) (sym parents) (inl refl))
      (subst (λ z. Descends h of z) (sym class) ((descents h (standing.tells cs ok.faces.ordered) (standing.falls cs ok.faces.ordered) of v.0).0 v.1))
  proxy_below key of r parents root false false false ea eb ec s = absurd (true≢false (sym s))

  below_layer : (n : ℕ) (r : MethodRef) → IsNumbered k n → (l : ClassKey-F ClassKey) → out-ClassKey (key_at k n) ≡ l → is_some (held_by all l (key_at k n) r) ≡ true → Descends h (key_at k n) r.class
  below_layer n r lt (ClassKey-F.Named m x) e s = declared_below (key_at k n) r (class_at all (key_at k n)) refl s
  below_layer n r lt (ClassKey-F.Derived xs) e s = absurd (true≢false (sym s))
  below_layer n r lt (ClassKey-F.Proxy of) e s =
      let key : key_at k n ≡ keys.Proxy of = sym (standing.rolled (key_at k n) (ClassKey-F.Proxy of) e) ∙ rolls-Proxy of in
      let c = ok.proxies n of lt key in
      proxy_below (key_at k n) of r (standing.parents_proxy cs ok.faces.ordered (key_at k n) of e) (subst (λ z. Descends h z som_object) c.2 (rooted c.0 c.1))
      (same_method r som_init) (same_method r som_uninit) (some (same_method r) (forwards all of)) refl refl refl s

  pub is_scheme : IsScheme (scheme_of k)
  is_scheme = record {
    falls = standing.falls cs ok.faces.ordered;
    tells = standing.tells cs ok.faces.ordered;
    apart = ok.apart;
    methods = λ t is. record { own = own_body t is; picks = picks (method_at k t) };
    introducer = λ t is. refl;
    below = λ t n is lt e. below_layer n (method_at k t) lt (out-ClassKey (key_at k n)) refl e;
  }
