-- A release is exchanged for a newer one that keeps what it promised, below the same classes.
use Rattle.std.proofs.Common.{◌≡◌, ℕ, zero, suc, ◌≤◌, ◌⊎◌, inl, inr, List, [], ◌++◌, take, Option, Some, None, IsSome, slice_get, refl, sym, ap, ◌∙◌, subst, arith}
use Rattle.std.proofs.lemmas.List.{map-append}
use Rattle.std.specs.Prelude.{is_some}
use Rattle.som_model.specs.declared.key.ClassKey.{ClassKey, out-ClassKey}
use Rattle.som_model.specs.declared.key.ClassKey.TheOpen.{ClassKey-F}
use Rattle.som_model.specs.declared.key.MethodRef.{MethodRef}
use Rattle.som_model.specs.declared.class.Sig.{Sig}
use Rattle.som_model.specs.declared.class.Entry.{Entry}
use Rattle.som_model.specs.declared.class.Entry.TheVariants as entries
use Rattle.som_model.specs.Lists.{Mem}
use Rattle.som_model.specs.Keys.{same_key}
use Rattle.som_model.specs.Ancestors.{Descends, itself, by_parent}
use Rattle.som_model.specs.Class.{Class, entry_name, introduced_sig}
use Rattle.som_model.specs.Classes.{class_at, hierarchy}
use Rattle.som_model.specs.Kernel.{kernel}
use Rattle.som_model.specs.Owner.{entry_at, sig_of}
use Rattle.som_model.specs.Compatible.{order_of, signature}
use Rattle.som_model.proofs.KeyLaws.{exact_keys}
use Rattle.som_model_laws.proofs.Members.{Apart, apart_doubles, mem_left, mem_right, mem_split}
use Rattle.som_model_laws.specs.Keeping.{ClassesKeep}
use Rattle.som_model.specs.Loads.{IsOrdered, keys_of}
use Rattle.som_model_laws.proofs.Lists.{apart_both, doubles_apart, get_mem, map_mem, mem_get, mem_map}
use Rattle.som_model_laws.proofs.Standing.{found, found_is, named_layer, parents_derived, parents_known, parents_proxy, parents_unknown}
use Rattle.som_model_laws.proofs.Owners.{entry_class, entry_is, entry_mem, moved_lower, moved_to, owner_moved, owner_stays}
use Rattle.som_release_laws.specs.Growing.{Grows}
use Rattle.som_release_laws.proofs.Lists.{apart_right, get_right, get_split, named_entry, take_left}
use Rattle.som_release_laws.proofs.Prefix.{descends_less, descends_more, ordered, signature_entry, signature_same, some_entry}

module _ (olds news own : List Class) (oa : IsOrdered (olds ++ own)) (on : IsOrdered news) (keep : ClassesKeep olds news)
    (apart : (c d : Class) → Mem c news → Mem d own → c.key ≡ d.key → ⊥) where
  abbrev A : List Class
  A = kernel ++ (olds ++ own)

  abbrev B : List Class
  B = kernel ++ (news ++ own)

  abbrev O : List Class
  O = kernel ++ olds

  abbrev N : List Class
  N = kernel ++ news

  pub old_ordered : IsOrdered olds
  old_ordered = ordered olds own oa

  -- the class of the same key in the new
  pub pair : (c : Class) → Mem c olds → (n : Class) × Mem n news × (n.key ≡ c.key)
  pair c m = let r = map_mem (λ (z : Class). z.key) c.key news (keep.classes c m) in (r.0, r.1, sym r.2)

  -- a key that stood before own classes stands before them in the new
  exchange_keys : (k : ClassKey) (zs : List Class) → Mem k (keys_of (kernel ++ (olds ++ zs))) → Mem k (keys_of (kernel ++ (news ++ zs)))
  exchange_keys k zs m =
      let r = map_mem (λ (z : Class). z.key) k (kernel ++ (olds ++ zs)) m in
      let put : (d : Class) → Mem d (kernel ++ (news ++ zs)) → d.key ≡ k → Mem k (keys_of (kernel ++ (news ++ zs))) =
      λ d n e. subst (λ z. Mem z (keys_of (kernel ++ (news ++ zs)))) e (mem_map (λ (z : Class). z.key) d (kernel ++ (news ++ zs)) n) in
      elim (mem_split r.0 kernel (olds ++ zs) r.1) [
        | inl a ↦ put r.0 (mem_left r.0 kernel (news ++ zs) a) (sym r.2)
        | inr b ↦ elim (mem_split r.0 olds zs b) [
          | inl a ↦ (let n = pair r.0 a in put n.0 (mem_right n.0 kernel (news ++ zs) (mem_left n.0 news zs n.1)) (n.2 ∙ sym r.2))
          | inr b ↦ put r.0 (mem_right r.0 kernel (news ++ zs) (mem_right r.0 news zs b)) (sym r.2)
        ]
      ]

  earlier : (P : Class → ClassKey → Type 0)
      → ((i : ℕ) (c : Class) (k : ClassKey) → slice_get (olds ++ own) i ≡ Some c → P c k → Mem k (keys_of (kernel ++ take i (olds ++ own))))
      → ((i : ℕ) (c : Class) (k : ClassKey) → slice_get news i ≡ Some c → P c k → Mem k (keys_of (kernel ++ take i news)))
      → (i : ℕ) (c : Class) (k : ClassKey) → slice_get (news ++ own) i ≡ Some c → P c k → Mem k (keys_of (kernel ++ take i (news ++ own)))
  earlier P f g i c k e p = elim (get_split news own i c e) [
    | inl l ↦ subst (λ (z : List Class). Mem k (keys_of (kernel ++ z))) (sym (take_left news own i c l)) (g i c k l p)
    | inr (j, a, b) ↦ (
        let r = get_right olds own j c a in
        let there = subst (λ (z : List Class). Mem k (keys_of (kernel ++ z))) r.2 (f r.0 c k r.1 p) in
        subst (λ (z : List Class). Mem k (keys_of (kernel ++ z))) (sym b) (exchange_keys k (take j own) there))
  ]

  pub new_ordered : IsOrdered (news ++ own)
  new_ordered = record {
    own = λ c m. elim (mem_split c news own m) [ inl a ↦ on.own c a | inr b ↦ oa.own c (mem_right c olds own b) ];
    differ = apart_doubles same_key exact_keys.two [] (keys_of (news ++ own)) (λ a m n. m)
        (subst Apart (sym (map-append (λ (c : Class). c.key) news own))
        (apart_both (keys_of news) (keys_of own) (doubles_apart same_key exact_keys (keys_of news) on.differ)
        (apart_right (keys_of olds) (keys_of own) (subst Apart (map-append (λ (c : Class). c.key) olds own) (doubles_apart same_key exact_keys (keys_of (olds ++ own)) oa.differ)))
        (λ a m n. let c = map_mem (λ (z : Class). z.key) a news m in let d = map_mem (λ (z : Class). z.key) a own n in apart c.0 d.0 c.1 d.1 (sym c.2 ∙ d.2))));
    parents = earlier (λ c k. Mem k c.decl.face.parents) oa.parents on.parents;
    metaclasses = earlier (λ c k. c.decl.face.metaclass ≡ Some k) oa.metaclasses on.metaclasses;
    targets = λ i c name to e m. earlier (λ c k. Mem (entries.Moved name k) c.decl.face.entries) (λ i c k. oa.targets i c name k) (λ i c k. on.targets i c name k) i c to e m;
  }

  -- a class of the kernel and one of the own are the same in both
  pub kernel_both : (c : Class) (k : ClassKey) → Mem c kernel → c.key ≡ k → (class_at A k ≡ Some c) × (class_at B k ≡ Some c)
  kernel_both c k m e = (found (olds ++ own) oa c k (mem_left c kernel (olds ++ own) m) e, found (news ++ own) new_ordered c k (mem_left c kernel (news ++ own) m) e)

  pub own_both : (c : Class) (k : ClassKey) → Mem c own → c.key ≡ k → (class_at A k ≡ Some c) × (class_at B k ≡ Some c)
  own_both c k m e = (
    found (olds ++ own) oa c k (mem_right c kernel (olds ++ own) (mem_right c olds own m)) e,
    found (news ++ own) new_ordered c k (mem_right c kernel (news ++ own) (mem_right c news own m)) e,
  )

  pub old_alone : (c : Class) (k : ClassKey) → Mem c olds → c.key ≡ k → class_at O k ≡ Some c
  old_alone c k m e = found olds old_ordered c k (mem_right c kernel olds m) e

  pub new_alone : (c : Class) (k : ClassKey) → Mem c news → c.key ≡ k → class_at N k ≡ Some c
  new_alone c k m e = found news on c k (mem_right c kernel news m) e

  -- a known class is the same in both, or is of the old
  pub kinds : (k : ClassKey) (c : Class) → class_at A k ≡ Some c → (class_at B k ≡ Some c) ⊎ Mem c olds
  kinds k c e =
      let r = found_is (olds ++ own) oa k c e in
      elim (mem_split c kernel (olds ++ own) r.0) [
        | inl a ↦ inl (kernel_both c k a r.1).1
        | inr b ↦ elim (mem_split c olds own b) [ inl a ↦ inr a | inr b ↦ inl (own_both c k b r.1).1 ]
      ]

  pub known_new : (k : ClassKey) (c : Class) → class_at A k ≡ Some c → (d : Class) × (class_at B k ≡ Some d)
  known_new k c e = elim (kinds k c e) [
    | inl f ↦ (c, f)
    | inr m ↦ (let n = pair c m in
        (n.0, found (news ++ own) new_ordered n.0 k (mem_right n.0 kernel (news ++ own) (mem_left n.0 news own n.1)) (n.2 ∙ (found_is (olds ++ own) oa k c e).1)))
  ]

  -- descent

  old_descends : (x y : ClassKey) (c : Class) → Mem c olds → c.key ≡ x → Descends (hierarchy A) x y → Descends (hierarchy B) x y
  old_descends x y c m e d =
      let small = descends_less olds own oa x y c (old_alone c x m e) d in
      let there = keep.ancestors c y m (subst (λ z. Descends (hierarchy O) z y) (sym e) small) in
      descends_more news own new_ordered x y (subst (λ z. Descends (hierarchy N) z y) e there)

  -- one step, and the rest
  descends_by : (x y p : ClassKey) (l : ClassKey-F ClassKey) → out-ClassKey x ≡ l → Mem p ((hierarchy A).parents x) → Descends (hierarchy A) p y → Descends (hierarchy B) p y → Descends (hierarchy B) x y
  descends_by x y p (ClassKey-F.Named m n) e k d rest = named (class_at A x) refl
    where
      named : (q : Option Class) → class_at A x ≡ q → Descends (hierarchy B) x y
      named None f = absurd (subst (λ z. Mem p z) (parents_unknown (olds ++ own) oa x m n (named_layer x m n e) f) k)
      named (Some c) f = elim (kinds x c f) [
        | inl g ↦ by_parent p (subst (λ z. Mem p z) (parents_known (olds ++ own) oa x c f ∙ sym (parents_known (news ++ own) new_ordered x c g)) k) rest
        | inr m ↦ old_descends x y c m (found_is (olds ++ own) oa x c f).1 (by_parent p k d)
      ]
  descends_by x y p (ClassKey-F.Derived ks) e k d rest = by_parent p (subst (λ z. Mem p z) (parents_derived (olds ++ own) oa x ks e ∙ sym (parents_derived (news ++ own) new_ordered x ks e)) k) rest
  descends_by x y p (ClassKey-F.Proxy of) e k d rest = by_parent p (subst (λ z. Mem p z) (parents_proxy (olds ++ own) oa x of e ∙ sym (parents_proxy (news ++ own) new_ordered x of e)) k) rest

  pub descends_new : (x y : ClassKey) → Descends (hierarchy A) x y → Descends (hierarchy B) x y
  descends_new x y itself = itself
  descends_new x y (by_parent p m d) = descends_by x y p (out-ClassKey x) refl m d (descends_new p y d)

  -- entries

  pub old_order : (c : Class) (k : ClassKey) (name : List ℕ) (e : Entry) → class_at A k ≡ Some c → entry_at A k name ≡ Some e → Mem name (order_of c)
  old_order c k name e f g =
      let r = entry_mem c.decl.face.entries name e (sym (entry_is A k name c f) ∙ g) in
      subst (λ z. Mem z (order_of c)) r.1 (mem_map entry_name e c.decl.face.entries r.0)

  pub entry_new : (k : ClassKey) (name : List ℕ) (e : Entry) → entry_at A k name ≡ Some e → IsSome (entry_at B k name)
  entry_new k name e f =
      let c = entry_class A k name e f in
      elim (kinds k c.0 c.1) [
        | inl g ↦ ap is_some (entry_is B k name c.0 g ∙ c.2)
        | inr m ↦ (
            let n = pair c.0 m in
            let key = (found_is (olds ++ own) oa k c.0 c.1).1 in
            let at = mem_get (order_of c.0) name (old_order c.0 k name e c.1 f) in
            let there = get_mem (order_of n.0) at.0 name (keep.places c.0 n.0 at.0 name (record { old_one = m; new_one = n.1; same = n.2 }) at.1) in
            let here = found (news ++ own) new_ordered n.0 k (mem_right n.0 kernel (news ++ own) (mem_left n.0 news own n.1)) (n.2 ∙ key) in
            ap is_some (entry_is B k name n.0 here) ∙ named_entry n.0.decl.face.entries name there)
      ]

  -- signatures

  old_signature : (c : Class) (k : ClassKey) (name : List ℕ) (e : Entry) → class_at A k ≡ Some c → entry_at A k name ≡ Some e → Mem c olds → signature A k name ≡ signature B k name
  old_signature c k name e f g m =
      let key = (found_is (olds ++ own) oa k c f).1 in
      let n = pair c m in
      let kept = keep.signatures c name m (old_order c k name e f g) in
      signature_same olds own oa k name c (old_alone c k m key)
      ∙ ap (λ z. signature O z name) (sym key) ∙ kept ∙ ap (λ z. signature N z name) key
      ∙ sym (signature_same news own new_ordered k name n.0 (new_alone n.0 k n.1 (n.2 ∙ key)))

  same_entry : (c : Class) (k : ClassKey) (name : List ℕ) (e : Entry) → class_at B k ≡ Some c → class_at A k ≡ Some c → entry_at A k name ≡ Some e → entry_at B k name ≡ Some e
  same_entry c k name e g f h = entry_is B k name c g ∙ sym (entry_is A k name c f) ∙ h

  abbrev ref : ClassKey → List ℕ → MethodRef
  ref k name = record { class = k; name = name }

  same_signature : (c : Class) (k : ClassKey) (name : List ℕ) (e : Entry) → class_at B k ≡ Some c → class_at A k ≡ Some c → entry_at A k name ≡ Some e
      → ((x : List ℕ) (to : ClassKey) → e ≡ entries.Moved x to → signature A to name ≡ signature B to name) → signature A k name ≡ signature B k name
  same_signature c k name (entries.Introduced x sig way) g f h rest =
      let i = same_entry c k name (entries.Introduced x sig way) g f h in
      ap (sig_of A) (owner_stays (olds ++ own) oa k name (ap moved_to h)) ∙ ap introduced_sig (h ∙ sym i)
      ∙ sym (ap (sig_of B) (owner_stays (news ++ own) new_ordered k name (ap moved_to i)))
  same_signature c k name (entries.Moved x to) g f h rest =
      let i = same_entry c k name (entries.Moved x to) g f h in
      ap (sig_of A) (owner_moved (olds ++ own) oa k name x to h) ∙ rest x to refl ∙ sym (ap (sig_of B) (owner_moved (news ++ own) new_ordered k name x to i))

  signature_by : (k : ClassKey) (name : List ℕ) (e : Entry) → entry_at A k name ≡ Some e
      → ((x : List ℕ) (to : ClassKey) → e ≡ entries.Moved x to → signature A to name ≡ signature B to name) → signature A k name ≡ signature B k name
  signature_by k name e f rest =
      let c = entry_class A k name e f in
      elim (kinds k c.0 c.1) [ inl g ↦ same_signature c.0 k name e g c.1 f rest | inr m ↦ old_signature c.0 k name e c.1 f m ]

  -- what is moved, and leads to an entry, has it
  signature_within : (n : ℕ) (k : ClassKey) (name : List ℕ) (e : Entry) (s : Sig) → (hierarchy A).height k ≤ n → entry_at A k name ≡ Some e → signature A k name ≡ Some s → signature A k name ≡ signature B k name
  signature_within zero k name e s le f g = signature_by k name e f (λ x to is.
      absurd (let r = (moved_lower (olds ++ own) oa k name x to (f ∙ ap (λ z. Some z) is)).2 in omega (arith, r, le)))
  signature_within (suc n) k name e s le f g = signature_by k name e f (λ x to is.
      let at = f ∙ ap (λ z. Some z) is in
      let r = (moved_lower (olds ++ own) oa k name x to at).2 in
      let more : signature A to name ≡ Some s = sym (ap (sig_of A) (owner_moved (olds ++ own) oa k name x to at)) ∙ g in
      let there = signature_entry A to name s more in
      let le2 : (hierarchy A).height to ≤ n = omega (arith, r, le) in
      signature_within n to name there.0 s le2 there.1 more)

  pub signature_new : (k : ClassKey) (name : List ℕ) (s : Sig) → signature A k name ≡ Some s → signature B k name ≡ Some s
  signature_new k name s f =
      let e = signature_entry A k name s f in
      sym (signature_within ((hierarchy A).height k) k name e.0 s (omega arith) e.1 f) ∙ f

  pub exchange_grows : Grows A B
  exchange_grows = record {
    known = known_new;
    descends = descends_new;
    entries = λ k name s. (let e = some_entry (entry_at A k name) s in entry_new k name e.0 e.1);
    signatures = signature_new;
  }
