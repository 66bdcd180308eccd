-- Classes that stay keep what they promise, where those below them become newer ones that keep what these promised.
use Rattle.std.proofs.Common.{◌≡◌, ℕ, ◌+◌, ◌⊎◌, inl, inr, true, List, [], ◌∷◌, ◌++◌, length, Option, Some, None, IsSome, slice_get, refl, sym, ap, ◌∙◌, subst, arith, true≢false}
use Rattle.std.specs.Prelude.{is_some}
use Rattle.som_model.specs.declared.key.ClassKey.{ClassKey}
use Rattle.som_model.specs.declared.key.MethodRef.{MethodRef}
use Rattle.som_model.specs.declared.program.Interface.{Interface}
use Rattle.som_model.specs.Lists.{Mem}
use Rattle.som_model.specs.Ancestors.{Descends}
use Rattle.som_model.specs.Class.{Class}
use Rattle.som_model.specs.Classes.{class_at, hierarchy}
use Rattle.som_model.specs.Kernel.{kernel}
use Rattle.som_model.specs.Metaclass.{meta}
use Rattle.som_model.specs.Compatible.{EachNext, order_of, signature}
use Rattle.som_model.specs.Loads.{FacesLoad, IsOrdered, keys_of}
use Rattle.som_model.specs.Owner.{entry_at}
use Rattle.som_model_laws.specs.Keeping.{ClassesKeep, IsPair}
use Rattle.som_model_laws.proofs.Keeping.{keeps_itself}
use Rattle.som_model_laws.proofs.Lists.{mem_map}
use Rattle.som_model_laws.proofs.Members.{mem_left, mem_right, mem_split}
use Rattle.som_model_laws.proofs.Owners.{entry_is, owner_owns}
use Rattle.som_model_laws.proofs.Standing.{found}
use Rattle.som_release_laws.specs.Releasing.{AreKept, HaveOtherKeys, OwnersAreKept}
use Rattle.som_release_laws.proofs.Exchange.{descends_new, new_alone, new_ordered, pair, signature_new}
use Rattle.som_release_laws.proofs.Lists.{named_entry}
use Rattle.som_release_laws.proofs.OneOwner.{exchange_owner}
use Rattle.som_release_laws.proofs.Prefix.{descends_more}
use Rattle.som_release_laws.proofs.SameMetaclasses.{meta_same}
use Rattle.som_release_laws.proofs.Together.{faces_together}
use Rattle.som_release_laws.proofs.Along.{kept_along}
use Rattle.som_level_laws.specs.Levels.{CompatibleLevels, level_classes, levels_from}
use Rattle.som_level_laws.proofs.Along.{at_end, levels_to_last}
use Rattle.som_level_laws.proofs.Levels.{levels_joined, others_above}

has_one : {A : Type 0} (o : Option A) → is_some o ≡ true → (x : A) × (o ≡ Some x)
has_one None e = absurd (true≢false (sym e))
has_one (Some x) e = (x, refl)

module _ (olds news own : List Class) (fa : FacesLoad (olds ++ own)) (fn : FacesLoad news) (keep : ClassesKeep olds news) (kept : OwnersAreKept olds news) (apart : HaveOtherKeys news own) where
  abbrev A : List Class
  A = kernel ++ (olds ++ own)

  abbrev B : List Class
  B = kernel ++ (news ++ own)

  abbrev N : List Class
  N = kernel ++ news

  abbrev ref : ClassKey → List ℕ → MethodRef
  ref k name = record { class = k; name = name }

  ob : IsOrdered (news ++ own)
  ob = new_ordered olds news own fa.ordered fn.ordered keep apart

  -- a class of the own is its own pair
  same_one : (c n : Class) → Mem c own → Mem n (news ++ own) → n.key ≡ c.key → n ≡ c
  same_one c n m k e = one (class_at B c.key)
      (found (news ++ own) ob c c.key (mem_right c kernel (news ++ own) (mem_right c news own m)) refl)
      (found (news ++ own) ob n c.key (mem_right n kernel (news ++ own) k) e)
    where
      one : (o : Option Class) → o ≡ Some c → o ≡ Some n → n ≡ c
      one o x y = cc

  pairs : (c n : Class) → IsPair (olds ++ own) (news ++ own) c n → IsPair olds news c n ⊎ (n ≡ c)
  pairs c n p = elim (mem_split c olds own p.old_one) [
    | inr m ↦ inr (same_one c n m p.new_one p.same)
    | inl m ↦ elim (mem_split n news own p.new_one) [
      | inl k ↦ inl (record { old_one = m; new_one = k; same = p.same })
      | inr k ↦ (
          let q = pair olds news own fa.ordered fn.ordered keep apart c m in
          absurd (apart q.0 n q.1 k (q.2 ∙ sym p.same)))
    ]
  ]

  entry : (c : Class) (name : List ℕ) → Mem c (olds ++ own) → Mem name (order_of c) → IsSome (entry_at A c.key name)
  entry c name m n =
      let there = found (olds ++ own) fa.ordered c c.key (mem_right c kernel (olds ++ own) m) refl in
      subst (λ z. IsSome z) (sym (entry_is A c.key name c there)) (named_entry c.decl.face.entries name n)

  -- each entry has a signature, which is that of the new
  same_signature : (c : Class) (name : List ℕ) → Mem c (olds ++ own) → Mem name (order_of c) → signature A c.key name ≡ signature B c.key name
  same_signature c name m n =
      let s = has_one (signature A c.key name) (owner_owns (olds ++ own) fa (ref c.key name) (entry c name m n)).introduced in
      s.1 ∙ sym (signature_new olds news own fa.ordered fn.ordered keep apart c.key name s.0 s.1)

  -- the new metaclass of a class of the old, whatever stands above
  old_metaclass : (c : Class) (m : ClassKey) → Mem c olds → c.decl.face.metaclass ≡ Some m → Descends (hierarchy B) (meta B c.key) m
  old_metaclass c m k is =
      let q = pair olds news own fa.ordered fn.ordered keep apart c k in
      let here = new_alone olds news own fa.ordered fn.ordered keep apart q.0 c.key q.1 q.2 in
      descends_more news own ob (meta B c.key) m
      (subst (λ z. Descends (hierarchy N) z m) (sym (meta_same news own ob c.key q.0 here)) (keep.metaclasses c m k is))

  classes_stay : ClassesKeep (olds ++ own) (news ++ own)
  classes_stay = record {
    classes = λ c m. elim (mem_split c olds own m) [
      | inl k ↦ (
          let q = pair olds news own fa.ordered fn.ordered keep apart c k in
          subst (λ z. Mem z (keys_of (news ++ own))) q.2 (mem_map (λ (z : Class). z.key) q.0 (news ++ own) (mem_left q.0 news own q.1)))
      | inr k ↦ mem_map (λ (z : Class). z.key) c (news ++ own) (mem_right c news own k)
    ];
    major = λ c n p. elim (pairs c n p) [ inl q ↦ keep.major c n q | inr e ↦ ap (λ (z : Class). z.decl.face.major) (sym e) ];
    minor = λ c n p. elim (pairs c n p) [ inl q ↦ keep.minor c n q | inr e ↦ (let s = ap (λ (z : Class). z.decl.face.minor) e in omega (arith, s)) ];
    ancestors = λ c a m d. descends_new olds news own fa.ordered fn.ordered keep apart c.key a d;
    places = λ c n place name p at. elim (pairs c n p) [ inl q ↦ keep.places c n place name q at | inr e ↦ (ap (λ (z : Class). slice_get (order_of z) place) e ∙ at) ];
    signatures = same_signature;
    metaclasses = λ c m k is. elim (mem_split c olds own k) [
      | inl h ↦ old_metaclass c m h is
      | inr h ↦ (keeps_itself (news ++ own) ob).metaclasses c m (mem_right c news own h) is
    ];
  }

  pub all_stay : AreKept (olds ++ own) (news ++ own)
  all_stay = (classes_stay, λ c name m n. exchange_owner olds news own fa fn keep apart kept (ref c.key name) (entry c name m n))

-- levels that stay
pub levels_stay : (olds news own : List Interface) → length olds ≡ length news → FacesLoad (level_classes (olds ++ own)) → FacesLoad (level_classes news) → CompatibleLevels olds news → CompatibleLevels (olds ++ own) (news ++ own)
levels_stay olds news own e fa fn k =
    let n = length olds in
    let old_sum : length olds + 0 ≡ n = omega arith in
    let new_sum : length news + 0 ≡ n = omega (arith, e) in
    let old_parts = levels_joined 0 n olds own old_sum in
    let new_parts = levels_joined 0 n news own new_sum in
    let high = levels_from n own in
    subst (λ (z : List Class). AreKept z (level_classes (news ++ own))) (sym old_parts)
    (subst (λ (z : List Class). AreKept (level_classes olds ++ high) z) (sym new_parts)
    (all_stay (level_classes olds) (level_classes news) high (subst FacesLoad old_parts fa) fn k.0 k.1 (others_above n news own (sym e))))

-- and they stand with the newer ones
pub levels_stand : (olds news own : List Interface) → length olds ≡ length news → FacesLoad (level_classes (olds ++ own)) → FacesLoad (level_classes news) → CompatibleLevels olds news → FacesLoad (level_classes (news ++ own))
levels_stand olds news own e fa fn k =
    let n = length olds in
    let old_sum : length olds + 0 ≡ n = omega arith in
    let new_sum : length news + 0 ≡ n = omega (arith, e) in
    subst FacesLoad (sym (levels_joined 0 n news own new_sum))
    (faces_together (level_classes olds) (level_classes news) (levels_from n own) (subst FacesLoad (levels_joined 0 n olds own old_sum) fa) fn k.0 (others_above n news own (sym e)))

-- the newest levels keep what each of a list promised, of which the last stands above levels with which theirs are compatible
pub newest_keep : (rs : List (List Interface)) (below own news olds : List Interface) → ((is : List Interface) → Mem is (rs ++ (below ++ own) ∷ []) → FacesLoad (level_classes is)) → EachNext CompatibleLevels (rs ++ (below ++ own) ∷ [])
    → length below ≡ length news → FacesLoad (level_classes news) → CompatibleLevels below news → Mem olds (rs ++ (below ++ own) ∷ []) → CompatibleLevels olds (news ++ own)
newest_keep rs below own news olds stand next e fn k m =
    let last = stand (below ++ own) (at_end rs (below ++ own)) in
    kept_along (level_classes olds) (level_classes (below ++ own)) (level_classes (news ++ own)) (stand olds m) last (levels_stand below news own e last fn k)
    (levels_to_last rs (below ++ own) olds stand next m) (levels_stay below news own e last fn k)
