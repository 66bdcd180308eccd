-- What loading asks gives what the crates of numbers, owners, members and laying ask.
use Rattle.std.proofs.Common.{◌≡◌, ℕ, ◌<◌, ◌≤◌, ◌+◌, ◌⊎◌, inl, inr, Bool, true, false, if◌then◌else◌, List, [], ◌∷◌, ◌++◌, length, get_or, refl, sym, ap, ◌∙◌, subst, arith, length-append}
use Rattle.std.proofs.Math.ListN.{get_or-append}
use Rattle.std.proofs.lemmas.Bool.{cases_lt}
use Rattle.som_model.specs.declared.key.ClassKey.{ClassKey}
use Rattle.som_model.specs.declared.key.ClassKey.TheVariants as keys
use Rattle.som_model.specs.declared.syntax.Block.{Block}
use Rattle.som_model.specs.declared.limits.TheConstants.{MAX_ENTRIES, MAX_LAID_CLASSES}
use Rattle.som_model.specs.Lists.{Mem, some}
use Rattle.som_model.specs.Keys.{same_key}
use Rattle.som_model.specs.Class.{Class}
use Rattle.som_model.specs.Kernel.{kernel, som_object}
use Rattle.som_model.specs.Loads.{Loads}
use Rattle.som_model.specs.Made.{IsMade}
use Rattle.som_model.specs.Rules.{s6}
use Rattle.som_model_laws.proofs.Members.{mem_split}
use Rattle.som_model_laws.proofs.Lists.{map_mem}
use Rattle.som_meta.specs.Numbering.{AreApart, IsNumbered, Numbering, key_at}
use Rattle.som_class_ids.specs.Classes.{AreDeclared}
use Rattle.som_class_ids.specs.Numbers.{with_key}
use Rattle.som_class_methods.specs.Owners.{AreFaces}
use Rattle.som_class_layout_laws.specs.Schemes.{CanBeLaid, numbered}
use Rattle.som_class_methods.specs.Members.{AreNamed, CanLay}
use Rattle.som_class_table.specs.Targets.{AreMade, HaveTargets, IsTarget}
use Rattle.som_class_table.proofs.Entries.{are_named}
use Rattle.som_class_table.proofs.LoadedProxies.{made_target, not_derived, one_proxy}

-- no class of the kernel has many entries
kernel_counted : (c : Class) → Mem c kernel → length c.decl.face.entries ≤ MAX_ENTRIES
kernel_counted c (inl e) = let l : length c.decl.face.entries ≡ 9 = ap (λ (z : Class). length z.decl.face.entries) e in omega (arith, l)
kernel_counted c (inr (inl e)) = let l : length c.decl.face.entries ≡ 6 = ap (λ (z : Class). length z.decl.face.entries) e in omega (arith, l)
kernel_counted c (inr (inr (inl e))) = let l : length c.decl.face.entries ≡ 1 = ap (λ (z : Class). length z.decl.face.entries) e in omega (arith, l)
kernel_counted c (inr (inr (inr (inl e)))) = let l : length c.decl.face.entries ≡ 2 = ap (λ (z : Class). length z.decl.face.entries) e in omega (arith, l)
kernel_counted c (inr (inr (inr (inr m)))) = absurd m

-- nor two of one name
kernel_distinct : (c : Class) → Mem c kernel → s6 c ≡ []
kernel_distinct c (inl e) = subst (λ (z : Class). s6 z ≡ []) (sym e) refl
kernel_distinct c (inr (inl e)) = subst (λ (z : Class). s6 z ≡ []) (sym e) refl
kernel_distinct c (inr (inr (inl e))) = subst (λ (z : Class). s6 z ≡ []) (sym e) refl
kernel_distinct c (inr (inr (inr (inl e)))) = subst (λ (z : Class). s6 z ≡ []) (sym e) refl
kernel_distinct c (inr (inr (inr (inr m)))) = absurd m

module _ (cs : List Class) (main : Block) (loads : Loads cs main) where
  pub are_declared : AreDeclared (kernel ++ cs)
  are_declared = record { others = cs; is = refl; ordered = loads.faces.ordered }

  pub are_few : length (kernel ++ cs) ≤ MAX_LAID_CLASSES + 4
  are_few = let l = loads.few in let s : length (kernel ++ cs) ≡ length cs + 4 = omega arith in omega (arith, l, s)

  pub are_faces : AreFaces (kernel ++ cs)
  are_faces = record {
    others = cs;
    is = refl;
    load = loads.faces;
    counted = λ c m. elim (mem_split c kernel cs m) [ inl k ↦ kernel_counted c k | inr own ↦ (loads.counted c own).face.order ];
  }

  pub named : AreNamed (kernel ++ cs)
  named = are_named cs loads.inherited

  pub entries_differ : (c : Class) → Mem c (kernel ++ cs) → s6 c ≡ []
  entries_differ c m = elim (mem_split c kernel cs m) [ inl k ↦ kernel_distinct c k | inr own ↦ loads.faces.names c own ]

  pub can_be_laid : (ks : List ClassKey) → AreApart (numbered cs ks) → HaveTargets (numbered cs ks) → CanBeLaid cs ks
  can_be_laid ks apart targets = record {
    faces = loads.faces;
    some_parent = λ c m. (loads.counted c m).face.some_parent;
    inherited = loads.inherited;
    bodies = loads.bodies;
    apart = apart;
    proxies = λ n of lt e. (let r = map_mem (λ (c : Class). c.key) of (kernel ++ cs) (targets n of lt e) in (r.0, r.1, sym r.2));
  }

  pub can_lay : (k : Numbering) → k.classes ≡ kernel ++ cs → AreApart k → HaveTargets k → CanLay k
  can_lay k is apart targets =
      let same : k ≡ numbered cs k.keys = ap (λ (l : List Class). let z : Numbering = record { classes = l; keys = k.keys } in z) is in
      record { others = cs; is = is; can = can_be_laid k.keys (subst AreApart same apart) (subst HaveTargets same targets) }

  pub target : (of : ClassKey) → IsMade (kernel ++ cs) main (keys.Proxy of) → IsTarget (kernel ++ cs) of
  target of m = made_target cs main loads (keys.Proxy of) of m refl

  pub targets_of : (k : Numbering) → k.classes ≡ kernel ++ cs → AreMade k main → HaveTargets k
  targets_of k is made n of lt e =
      subst (λ l. IsTarget l of) (sym is) (made_target cs main loads (key_at k n) of (subst (λ l. IsMade l main (key_at k n)) is (made n lt)) e)

-- one class more

module _ (k : Numbering) (key : ClassKey) where
  abbrev more : Numbering
  more = record { classes = k.classes; keys = k.keys ++ key ∷ [] }

  key_stays : (n : ℕ) → IsNumbered k n → key_at more n ≡ key_at k n
  key_stays n lt = get_or-append k.keys (key ∷ []) som_object n lt

  key_last : (n : ℕ) → n ≡ length k.keys → key_at more n ≡ key
  key_last n e = by k.keys n e
    where
      by : (ks : List ClassKey) (n : ℕ) → n ≡ length ks → get_or (ks ++ key ∷ []) n som_object ≡ key
      by [] n e = rw e refl
      by (x ∷ ks) n e = rw e (by ks (length ks) refl)

  old_or_last : (n : ℕ) → IsNumbered more n → IsNumbered k n ⊎ (n ≡ length k.keys)
  old_or_last n lt =
      let long = length-append k.keys (key ∷ []) in
      let l : n < length (k.keys ++ key ∷ []) = lt in
      elim (cases_lt n (length k.keys)) [ inl less ↦ inl less | inr ge ↦ inr (omega (arith, ge, l, long)) ]

  more_targets : HaveTargets k → ((of : ClassKey) → key ≡ keys.Proxy of → IsTarget k.classes of) → HaveTargets more
  more_targets have one n of lt e = elim (old_or_last n lt) [
    | inl old ↦ have n of old (sym (key_stays n old) ∙ e)
    | inr last ↦ one of (sym (key_last n last) ∙ e)
  ]

  more_made : (main : Block) → AreMade k main → IsMade k.classes main key → AreMade more main
  more_made main have one n lt = elim (old_or_last n lt) [
    | inl old ↦ subst (λ z. IsMade k.classes main z) (sym (key_stays n old)) (have n old)
    | inr last ↦ subst (λ z. IsMade k.classes main z) (sym (key_last n last)) one
  ]

  pub grown_targets : HaveTargets k → ((of : ClassKey) → key ≡ keys.Proxy of → IsTarget k.classes of) → HaveTargets (with_key k key)
  unfolding with_key
  grown_targets have one = by (some (same_key key) k.keys)
    where
      by : (b : Bool) → HaveTargets (if b then k else more)
      by true = have
      by false = more_targets have one

  pub grown_made : (main : Block) → AreMade k main → IsMade k.classes main key → AreMade (with_key k key) main
  unfolding with_key
  grown_made main have one = by (some (same_key key) k.keys)
    where
      by : (b : Bool) → AreMade (if b then k else more) main
      by true = have
      by false = more_made main have one

pub grown_derived : (k : Numbering) → HaveTargets k → (parents : List ClassKey) → HaveTargets (with_key k (keys.Derived parents))
grown_derived k have parents = grown_targets k (keys.Derived parents) have (λ of e. absurd (not_derived of parents e))

pub grown_proxy : (k : Numbering) → HaveTargets k → (of : ClassKey) → IsTarget k.classes of → HaveTargets (with_key k (keys.Proxy of))
grown_proxy k have of is = grown_targets k (keys.Proxy of) have (λ x e. subst (λ z. IsTarget k.classes z) (one_proxy of x e) is)
