-- Each method that a class overrides, or for which it selects a parent, has an entry in the class that is named.
use Rattle.std.proofs.Common.{◌≡◌, inl, inr, ◌&&◌, not, true, List, [], ◌∷◌, ◌++◌, map, Option, Some, None, IsSome, is_some, slice_get, refl, sym, ap, ◌∙◌, subst, true≢false}
use Rattle.som_model.specs.declared.key.MethodRef.{MethodRef}
use Rattle.som_model.specs.declared.class.Entry.{Entry}
use Rattle.som_model.specs.declared.class.Override.{Override}
use Rattle.som_model.specs.declared.class.Select.{Select}
use Rattle.som_model.specs.Lists.{Mem, some}
use Rattle.som_model.specs.Keys.{same_method}
use Rattle.som_model.specs.Class.{Class, introduced_sig}
use Rattle.som_model.specs.Classes.{hierarchy}
use Rattle.som_model.specs.Kernel.{kernel}
use Rattle.som_model.specs.Owner.{entry_at, introduces, owner}
use Rattle.som_model.specs.Rules.{demand_of, is_parent_below, is_proper, is_replaced_once, s10, s10_from, s10_selects}
use Rattle.som_model.proofs.KeyLaws.{both}
use Rattle.som_model_laws.proofs.Members.{mem_split}
use Rattle.som_model_laws.proofs.Lists.{map_mem}
use Rattle.som_model_laws.proofs.Owners.{moved_to, stays}
use Rattle.som_class_layout_laws.proofs.Members.{demanded_of, none_left}
use Rattle.som_class_methods.specs.Members.{AreNamed, Exist, override_method, select_method}

-- a reference with no entry is its own owner, which introduces nothing
entry_there : (cs : List Class) (r : MethodRef) → introduces cs (owner cs r).name (owner cs r).class ≡ true → IsSome (entry_at cs r.class r.name)
entry_there cs r e = by (entry_at cs r.class r.name) refl
  where
    by : (q : Option Entry) → entry_at cs r.class r.name ≡ q → IsSome q
    by None f =
        let same : owner cs r ≡ r = stays cs ((hierarchy cs).height r.class) r (ap moved_to f) in
        absurd (true≢false (sym (subst (λ (z : MethodRef). introduces cs z.name z.class ≡ true) same e) ∙ ap (λ z. is_some (introduced_sig z)) f))
    by (Some x) f = refl

-- what stands once among the overrides or selects is introduced by its owner's class
once_introduced : (cs : List Class) (c : Class) (before : List MethodRef) (r : MethodRef) → is_replaced_once cs c before r ≡ true → introduces cs r.name r.class ≡ true
once_introduced cs c before r e =
    let one = both (is_proper cs c r.class && introduces cs r.name r.class) (not (some (same_method r) before)) e in
    (both (is_proper cs c r.class) (introduces cs r.name r.class) one.0).1

override_there : (cs : List Class) (c : Class) (before : List MethodRef) (os : List Override) → s10_from cs c before os ≡ [] → (o : Override) → Mem o os → IsSome (entry_at cs o.method.class o.method.name)
override_there cs c before [] e o m = absurd m
override_there cs c before (x ∷ os) e o m =
    let r = owner cs x.method in
    let h = none_left (demand_of 10 c x.method.name (is_replaced_once cs c before r)) (s10_from cs c (before ++ r ∷ []) os) e in
    elim m [
      | inl is ↦ subst (λ (z : Override). IsSome (entry_at cs z.method.class z.method.name)) (sym is)
          (entry_there cs x.method (once_introduced cs c before r (demanded_of 10 c x.method.name (is_replaced_once cs c before r) h.0)))
      | inr k ↦ override_there cs c (before ++ r ∷ []) os h.1 o k
    ]

select_there : (cs : List Class) (c : Class) (before : List MethodRef) (ss : List Select) → s10_selects cs c before ss ≡ [] → (s : Select) → Mem s ss → IsSome (entry_at cs s.method.class s.method.name)
select_there cs c before [] e s m = absurd m
select_there cs c before (x ∷ ss) e s m =
    let r = owner cs x.method in
    let holds = is_replaced_once cs c before r && is_parent_below cs r.class (slice_get c.decl.face.parents x.parent) in
    let h = none_left (demand_of 10 c x.method.name holds) (s10_selects cs c (before ++ r ∷ []) ss) e in
    elim m [
      | inl is ↦ (
          let two = both (is_replaced_once cs c before r) (is_parent_below cs r.class (slice_get c.decl.face.parents x.parent)) (demanded_of 10 c x.method.name holds h.0) in
          subst (λ (z : Select). IsSome (entry_at cs z.method.class z.method.name)) (sym is) (entry_there cs x.method (once_introduced cs c before r two.0)))
      | inr k ↦ select_there cs c (before ++ r ∷ []) ss h.1 s k
    ]

-- the kernel's classes override and select nothing
kernel_bare : (c : Class) → Mem c kernel → (c.decl.overrides ≡ []) × (c.decl.selects ≡ [])
kernel_bare c (inl e) = (ap (λ (z : Class). z.decl.overrides) e, ap (λ (z : Class). z.decl.selects) e)
kernel_bare c (inr (inl e)) = (ap (λ (z : Class). z.decl.overrides) e, ap (λ (z : Class). z.decl.selects) e)
kernel_bare c (inr (inr (inl e))) = (ap (λ (z : Class). z.decl.overrides) e, ap (λ (z : Class). z.decl.selects) e)
kernel_bare c (inr (inr (inr (inl e)))) = (ap (λ (z : Class). z.decl.overrides) e, ap (λ (z : Class). z.decl.selects) e)
kernel_bare c (inr (inr (inr (inr m)))) = absurd m

overrides_exist : (cs : List Class) (c : Class) → s10 cs c ≡ [] → Exist cs (map override_method c.decl.overrides)
overrides_exist cs c e r m =
    let parts = none_left (s10_from cs c [] c.decl.overrides) (s10_selects cs c (map (λ (o : Override). owner cs o.method) c.decl.overrides) c.decl.selects) e in
    let o = map_mem override_method r c.decl.overrides m in
    subst (λ (z : MethodRef). IsSome (entry_at cs z.class z.name)) (sym o.2) (override_there cs c [] c.decl.overrides parts.0 o.0 o.1)

selects_exist : (cs : List Class) (c : Class) → s10 cs c ≡ [] → Exist cs (map select_method c.decl.selects)
selects_exist cs c e r m =
    let before = map (λ (o : Override). owner cs o.method) c.decl.overrides in
    let parts = none_left (s10_from cs c [] c.decl.overrides) (s10_selects cs c before c.decl.selects) e in
    let s = map_mem select_method r c.decl.selects m in
    subst (λ (z : MethodRef). IsSome (entry_at cs z.class z.name)) (sym s.2) (select_there cs c before c.decl.selects parts.1 s.0 s.1)

pub are_named : (cs : List Class) → ((c : Class) → Mem c cs → s10 (kernel ++ cs) c ≡ []) → AreNamed (kernel ++ cs)
are_named cs f = record {
  overrides = λ c m. elim (mem_split c kernel cs m) [
    | inl k ↦ subst (λ (os : List Override). Exist (kernel ++ cs) (map override_method os)) (sym (kernel_bare c k).0) (λ r n. absurd n)
    | inr own ↦ overrides_exist (kernel ++ cs) c (f c own)
  ];
  selects = λ c m. elim (mem_split c kernel cs m) [
    | inl k ↦ subst (λ (ss : List Select). Exist (kernel ++ cs) (map select_method ss)) (sym (kernel_bare c k).1) (λ r n. absurd n)
    | inr own ↦ selects_exist (kernel ++ cs) c (f c own)
  ];
}
