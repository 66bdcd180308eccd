-- A level that was kept above the levels against which it was compiled is kept above newer ones, of which those at the end keep what they promise.
use Rattle.std.proofs.Common.{◌≡◌, ℕ, ◌⊎◌, inl, inr, true, List, ◌++◌, length, Option, Some, IsSome, refl, sym, ap, ◌∙◌, subst, arith}
use Rattle.std.specs.Prelude.{is_some}
use Rattle.som_model.specs.declared.key.ClassKey.{ClassKey}
use Rattle.som_model.specs.declared.key.MethodRef.{MethodRef}
use Rattle.som_model.specs.declared.program.Interface.{Interface}
use Rattle.som_model.specs.Lists.{Mem}
use Rattle.som_model.specs.Ancestors.{Descends, itself, by_parent}
use Rattle.som_model.specs.Class.{Class, entry_name, introduced_sig}
use Rattle.som_model.specs.Classes.{class_at, hierarchy}
use Rattle.som_model.specs.Compatible.{order_of, signature}
use Rattle.som_model.specs.Kernel.{kernel}
use Rattle.som_model.specs.Metaclass.{meta}
use Rattle.som_model.specs.Owner.{entry_at, introduces, owner}
use Rattle.som_model.specs.Loads.{FacesLoad, IsOrdered, keys_of}
use Rattle.som_model_laws.specs.Keeping.{ClassesKeep, IsPair}
use Rattle.som_model_laws.proofs.Keeping.{kernel_descends}
use Rattle.som_model_laws.proofs.Laws.{descends_through}
use Rattle.som_model_laws.proofs.Lists.{map_mem, mem_map}
use Rattle.som_model_laws.proofs.Members.{mem_left, mem_right, mem_split}
use Rattle.som_model_laws.proofs.Owners.{entry_is, entry_mem, owner_owns}
use Rattle.som_model_laws.proofs.Standing.{found, found_is, known_above, parents_known, stands}
use Rattle.som_release_laws.specs.Releasing.{AreKept, HaveOtherKeys}
use Rattle.som_release_laws.proofs.Exchange.{entry_new, kinds, pair}
use Rattle.som_release_laws.proofs.Facts.{introduced_entry}
use Rattle.som_release_laws.proofs.Lists.{named_entry}
use Rattle.som_release_laws.proofs.OneOwner.{owner_again}
use Rattle.som_release_laws.proofs.Prefix.{descends_less, descends_more, known_more, ordered, owner_same, signature_same, some_entry}
use Rattle.som_release_laws.proofs.SameMetaclasses.{meta_same}
use Rattle.som_release_laws.proofs.Together.{faces_together}
use Rattle.som_level_laws.specs.Levels.{CompatibleLevels, level_classes, levels_from}
use Rattle.som_level_laws.proofs.Levels.{levels_joined, others_above}
use Rattle.som_level_laws.proofs.Stays.{all_stay}

-- own classes, first above those against which they were compiled, then above later ones, and newer ones above the newest
module _ (was mid new own newer : List Class) (fw : FacesLoad (was ++ own)) (fm : FacesLoad mid) (fn : FacesLoad (new ++ newer))
    (wm : AreKept was mid) (others : HaveOtherKeys mid own) (wn : AreKept (was ++ own) (new ++ newer)) (mn : AreKept mid new) where
  abbrev W : List Class
  W = kernel ++ (was ++ own)

  abbrev M : List Class
  M = kernel ++ mid

  abbrev N : List Class
  N = kernel ++ new

  abbrev A : List Class
  A = kernel ++ (mid ++ own)

  abbrev B : List Class
  B = kernel ++ (new ++ newer)

  abbrev ref : ClassKey → List ℕ → MethodRef
  ref k name = record { class = k; name = name }

  fa : FacesLoad (mid ++ own)
  fa = faces_together was mid own fw fm wm.0 others

  oa : IsOrdered (mid ++ own)
  oa = fa.ordered

  ob : IsOrdered (new ++ newer)
  ob = fn.ordered

  on : IsOrdered new
  on = ordered new newer ob

  -- own classes keep what they promise above the later ones
  stay : AreKept (was ++ own) (mid ++ own)
  stay = all_stay was mid own fw fm wm.0 wm.1 others

  -- the newest class of a later one's key
  newest : (c : Class) → Mem c mid → (d : Class) × Mem d new × (d.key ≡ c.key)
  newest c m = let r = map_mem (λ (z : Class). z.key) c.key new (mn.0.classes c m) in (r.0, r.1, sym r.2)

  in_new : (c : Class) → (m : Mem c mid) → class_at N c.key ≡ Some (newest c m).0
  in_new c m = let d = newest c m in found new on d.0 c.key (mem_right d.0 kernel new d.1) d.2

  in_mid : (c : Class) → Mem c mid → class_at M c.key ≡ Some c
  in_mid c m = found mid fm.ordered c c.key (mem_right c kernel mid m) refl

  one : (o : Option Class) (c d : Class) → o ≡ Some c → o ≡ Some d → c ≡ d
  one o c d x y = cc

  -- the pair of a class is the newest class of its key, or is the pair of one of the own
  pairs : (c n : Class) → IsPair (mid ++ own) (new ++ newer) c n → IsPair mid new c n ⊎ IsPair (was ++ own) (new ++ newer) c n
  pairs c n p = elim (mem_split c mid own p.old_one) [
    | inr m ↦ inr (record { old_one = mem_right c was own m; new_one = p.new_one; same = p.same })
    | inl m ↦ (
        let d = newest c m in
        let same : n ≡ d.0 = one (class_at B c.key) n d.0 (found (new ++ newer) ob n c.key (mem_right n kernel (new ++ newer) p.new_one) p.same) (known_more new newer ob c.key d.0 (in_new c m)) in
        inl (record { old_one = m; new_one = subst (λ z. Mem z new) (sym same) d.1; same = p.same }))
  ]

  -- ---- ancestors

  known_kinds : (c : Class) → Mem c A → Mem c kernel ⊎ Mem c mid ⊎ Mem c own
  known_kinds c m = elim (mem_split c kernel (mid ++ own) m) [
    | inl k ↦ inl k
    | inr k ↦ inr (mem_split c mid own k)
  ]

  mid_descends : (c : Class) (a : ClassKey) → Mem c mid → Descends (hierarchy A) c.key a → Descends (hierarchy B) c.key a
  mid_descends c a m d = descends_more new newer ob c.key a (mn.0.ancestors c a m (descends_less mid own oa c.key a c (in_mid c m) d))

  own_parent : (c : Class) (p : ClassKey) → Mem c own → Mem p c.decl.face.parents → Descends (hierarchy B) c.key p
  own_parent c p m n =
      let there = found (was ++ own) fw.ordered c c.key (mem_right c kernel (was ++ own) (mem_right c was own m)) refl in
      wn.0.ancestors c p (mem_right c was own m) (by_parent p (subst (λ z. Mem p z) (sym (parents_known (was ++ own) fw.ordered c.key c there)) n) itself)

  up : (x a : ClassKey) (c : Class) → class_at A x ≡ Some c → Descends (hierarchy A) x a → Descends (hierarchy B) x a
  up x a c e itself = itself
  up x a c e (by_parent p m d) =
      let n = subst (λ z. Mem p z) (parents_known (mid ++ own) oa x c e) m in
      let s = stands (mid ++ own) oa x c p e n in
      let rest = up p a s.0 s.1 d in
      let r = found_is (mid ++ own) oa x c e in
      elim (known_kinds c r.0) [
        | inl k ↦ kernel_descends (mid ++ own) (new ++ newer) oa ob x a c k r.1 (by_parent p m d)
        | inr (inl k) ↦ subst (λ z. Descends (hierarchy B) z a) r.1 (mid_descends c a k (subst (λ z. Descends (hierarchy A) z a) (sym r.1) (by_parent p m d)))
        | inr (inr k) ↦ descends_through (hierarchy B) x p a (subst (λ z. Descends (hierarchy B) z p) r.1 (own_parent c p k n)) rest
      ]

  here : (c : Class) → Mem c (mid ++ own) → class_at A c.key ≡ Some c
  here c m = found (mid ++ own) oa c c.key (mem_right c kernel (mid ++ own) m) refl

  -- ---- signatures and metaclasses

  signature_kept : (c : Class) (name : List ℕ) → Mem c (mid ++ own) → Mem name (order_of c) → signature A c.key name ≡ signature B c.key name
  signature_kept c name m n = elim (mem_split c mid own m) [
    | inl k ↦ signature_same mid own oa c.key name c (in_mid c k) ∙ mn.0.signatures c name k n ∙ sym (signature_same new newer ob c.key name (newest c k).0 (in_new c k))
    | inr k ↦ sym (stay.0.signatures c name (mem_right c was own k) n) ∙ wn.0.signatures c name (mem_right c was own k) n
  ]

  metaclass_kept : (c : Class) (k : ClassKey) → Mem c (mid ++ own) → c.decl.face.metaclass ≡ Some k → Descends (hierarchy B) (meta B c.key) k
  metaclass_kept c k m is = elim (mem_split c mid own m) [
    | inl h ↦ descends_more new newer ob (meta B c.key) k (subst (λ z. Descends (hierarchy N) z k) (sym (meta_same new newer ob c.key (newest c h).0 (in_new c h))) (mn.0.metaclasses c k h is))
    | inr h ↦ wn.0.metaclasses c k (mem_right c was own h) is
  ]

  kept_classes : ClassesKeep (mid ++ own) (new ++ newer)
  kept_classes = record {
    classes = λ c m. elim (mem_split c mid own m) [
      | inl k ↦ (let d = newest c k in subst (λ z. Mem z (keys_of (new ++ newer))) d.2 (mem_map (λ (z : Class). z.key) d.0 (new ++ newer) (mem_left d.0 new newer d.1)))
      | inr k ↦ wn.0.classes c (mem_right c was own k)
    ];
    major = λ c n p. elim (pairs c n p) [ inl q ↦ mn.0.major c n q | inr q ↦ wn.0.major c n q ];
    minor = λ c n p. elim (pairs c n p) [ inl q ↦ mn.0.minor c n q | inr q ↦ wn.0.minor c n q ];
    ancestors = λ c a m d. up c.key a c (here c m) d;
    places = λ c n i name p e. elim (pairs c n p) [ inl q ↦ mn.0.places c n i name q e | inr q ↦ wn.0.places c n i name q e ];
    signatures = signature_kept;
    metaclasses = metaclass_kept;
  }

  -- ---- owners

  mid_owner : (c : Class) (name : List ℕ) → Mem c mid → Mem name (order_of c) → owner B (ref c.key name) ≡ owner B (owner A (ref c.key name))
  mid_owner c name m n =
      let r = ref c.key name in
      let s = owner M r in
      let some : IsSome (entry_at M c.key name) = subst (λ z. IsSome z) (sym (entry_is M c.key name c (in_mid c m))) (named_entry c.decl.face.entries name n) in
      let above = mn.0.ancestors c s.class m (owner_owns mid fm r some).above in
      let d = known_above new on c.key s.class (newest c m).0 (in_new c m) above in
      owner_same new newer ob c.key name (newest c m).0 (in_new c m)
      ∙ mn.1 c name m n
      ∙ sym (owner_same new newer ob s.class s.name d.0 d.1)
      ∙ ap (owner B) (sym (owner_same mid own oa c.key name c (in_mid c m)))

  -- the owner in the own environment has one owner more
  own_owner_on : (s : MethodRef) (d : Class) → class_at W s.class ≡ Some d → introduces W s.name s.class ≡ true → owner B s ≡ owner B (owner A s)
  own_owner_on s d e i = elim (kinds was mid own fw.ordered fm.ordered wm.0 others s.class d e) [
    | inl h ↦ (
        let entry : entry_at A s.class s.name ≡ entry_at W s.class s.name = entry_is A s.class s.name d h ∙ sym (entry_is W s.class s.name d e) in
        ap (owner B) (sym (owner_again (mid ++ own) oa s (ap (λ z. is_some (introduced_sig z)) entry ∙ i))))
    | inr m ↦ (
        let p = pair was mid own fw.ordered fm.ordered wm.0 others d m in
        let key : d.key ≡ s.class = (found_is (was ++ own) fw.ordered s.class d e).1 in
        let w = introduced_entry W s.name s.class i in
        let q = some_entry (entry_at A s.class s.name) (entry_new was mid own fw.ordered fm.ordered wm.0 others s.class s.name w.0 w.1) in
        let at : class_at A s.class ≡ Some p.0 = found (mid ++ own) oa p.0 s.class (mem_right p.0 kernel (mid ++ own) (mem_left p.0 mid own p.1)) (p.2 ∙ key) in
        let n = entry_mem p.0.decl.face.entries s.name q.0 (sym (entry_is A s.class s.name p.0 at) ∙ q.1) in
        let named : Mem s.name (order_of p.0) = subst (λ z. Mem z (order_of p.0)) n.1 (mem_map entry_name q.0 p.0.decl.face.entries n.0) in
        subst (λ z. owner B (ref z s.name) ≡ owner B (owner A (ref z s.name))) (p.2 ∙ key) (mid_owner p.0 s.name p.1 named))
  ]

  own_owner : (c : Class) (name : List ℕ) → Mem c own → Mem name (order_of c) → owner B (ref c.key name) ≡ owner B (owner A (ref c.key name))
  own_owner c name m n =
      let r = ref c.key name in
      let in_was = mem_right c was own m in
      let there = found (was ++ own) fw.ordered c c.key (mem_right c kernel (was ++ own) in_was) refl in
      let some : IsSome (entry_at W c.key name) = subst (λ z. IsSome z) (sym (entry_is W c.key name c there)) (named_entry c.decl.face.entries name n) in
      let s = owner W r in
      let owns = owner_owns (was ++ own) fw r some in
      let d = known_above (was ++ own) fw.ordered c.key s.class c there owns.above in
      wn.1 c name in_was n
      ∙ own_owner_on s d.0 d.1 owns.introduced
      ∙ ap (owner B) (sym (stay.1 c name in_was n))

  pub kept_above : AreKept (mid ++ own) (new ++ newer)
  kept_above = (kept_classes, λ c name m n. elim (mem_split c mid own m) [ inl k ↦ mid_owner c name k n | inr k ↦ own_owner c name k n ])

-- the same of levels
pub levels_above : (was mid new own newer : List Interface) → length was ≡ length mid → length mid ≡ length new
    → FacesLoad (level_classes (was ++ own)) → FacesLoad (level_classes mid) → FacesLoad (level_classes (new ++ newer))
    → CompatibleLevels was mid → CompatibleLevels (was ++ own) (new ++ newer) → CompatibleLevels mid new → CompatibleLevels (mid ++ own) (new ++ newer)
levels_above was mid new own newer a b fw fm fn wm wn mn =
    let n = length was in
    let was_parts = levels_joined 0 n was own (omega arith) in
    let mid_parts = levels_joined 0 n mid own (omega (arith, a)) in
    let new_parts = levels_joined 0 n new newer (omega (arith, a, b)) in
    let high = levels_from n own in
    let higher = levels_from n newer in
    subst (λ (z : List Class). AreKept z (level_classes (new ++ newer))) (sym mid_parts)
    (subst (λ (z : List Class). AreKept (level_classes mid ++ high) z) (sym new_parts)
    (kept_above (level_classes was) (level_classes mid) (level_classes new) high higher
    (subst FacesLoad was_parts fw) fm (subst FacesLoad new_parts fn) wm (others_above n mid own (sym a))
    (subst (λ (z : List Class). AreKept z (level_classes new ++ higher)) was_parts (subst (λ (z : List Class). AreKept (level_classes (was ++ own)) z) new_parts wn)) mn))
