-- Classes by owners keep all that the classes promise, and the other way round.
use Rattle.std.proofs.Common.{◌≡◌, ℕ, zero, suc, ◌<◌, ◌≤◌, inl, inr, true, List, [], ◌∷◌, ◌++◌, map, take, Option, Some, None, IsSome, slice_get, refl, sym, ap, ◌∙◌, subst, arith}
use Rattle.std.specs.Prelude.{is_some}
use Rattle.std.specs.Option.{option_map}
use Rattle.std.proofs.lemmas.List.{take-map}
use Rattle.std.proofs.lemmas.Option.{slice_get-map}
use Rattle.som_model.specs.declared.key.ClassKey.{ClassKey}
use Rattle.som_model.specs.declared.key.MethodRef.{MethodRef}
use Rattle.som_model.specs.declared.class.Entry.{Entry}
use Rattle.som_model.specs.declared.class.Entry.TheVariants as entries
use Rattle.som_model.specs.Lists.{Mem, doubles}
use Rattle.som_model.specs.Keys.{same_key}
use Rattle.som_model.specs.Hierarchy.{Falls, Hierarchy}
use Rattle.som_model.specs.Ancestors.{Descends, itself, by_parent}
use Rattle.som_model.specs.Class.{Class}
use Rattle.som_model.specs.Classes.{class_at, hierarchy}
use Rattle.som_model.specs.Compatible.{order_of, signature}
use Rattle.som_model.specs.Kernel.{kernel}
use Rattle.som_model.specs.Metaclass.{meta}
use Rattle.som_model.specs.Owner.{entry_at, introduces, owner, sig_of}
use Rattle.som_model.specs.Rules.{is_proper, s3, s4, s5, s6, s7}
use Rattle.som_model.specs.Loads.{FacesLoad, HasOwnKey, IsOrdered, keys_of}
use Rattle.som_model_laws.specs.Keeping.{ClassesKeep, IsPair}
use Rattle.som_model_laws.proofs.Keeping.{keeps_itself}
use Rattle.som_model_laws.proofs.Lists.{get_mem, map_mem, mem_map}
use Rattle.som_model_laws.proofs.Owners.{entry_is, entry_mem, entry_unknown, moved_to, owner_moved, owner_owns, stays}
use Rattle.som_model_laws.proofs.Members.{mem_right}
use Rattle.som_model_laws.proofs.Standing.{falls, found, found_is, height_at, known_above, place}
use Rattle.som_release_laws.specs.Releasing.{AreKept, OwnersAreKept}
use Rattle.som_release_laws.proofs.Facts.{introduced_entry}
use Rattle.som_release_laws.proofs.Lists.{named_entry}
use Rattle.som_release_laws.proofs.OneOwner.{owner_again, owner_itself, ref_one}
use Rattle.som_rekey_laws.proofs.Lists.{map_twice}
use Rattle.som_flat_laws.specs.Flat.{class_by_owners, entry_by_owner}
use Rattle.som_flat_laws.proofs.ByOwners.{class_at_by_owners, entry_at_by_owners, here, hierarchy_by_owners, introduces_by_owners, names_by_owners, owned, owner_introduces, owner_other, ref, signature_by_owners}
use Rattle.som_flat_laws.proofs.Rules.{fifth, fourth, proper, sixth}

-- ---- what descends is no lower

module _ {K : Type 0} (h : Hierarchy K) (down : Falls h) where
  at_most : (x a : K) → Descends h x a → h.height a ≤ h.height x
  at_most x a itself = omega arith
  at_most x a (by_parent p m d) = let f = down x p m in let g = at_most p a d in omega (arith, f, g)

  lower : (x a : K) → Descends h x a → (a ≡ x → ⊥) → h.height a < h.height x
  lower x a itself other = absurd (other refl)
  lower x a (by_parent p m d) other = let f = down x p m in let g = at_most p a d in omega (arith, f, g)

take_mem : {A : Type 0} (n : ℕ) (xs : List A) (q : ℕ) (x : A) → slice_get xs q ≡ Some x → q < n → Mem x (take n xs)
take_mem zero xs q x e lt = absurd (omega (arith, lt))
take_mem (suc n) [] q x e lt = absurd (cc)
take_mem (suc n) (y ∷ ys) zero x e lt = inl (cc)
take_mem (suc n) (y ∷ ys) (suc q) x e lt = inr (take_mem n ys q x e (omega (arith, lt)))

got : {A B : Type 0} (g : A → B) (o : Option A) (y : B) → option_map g o ≡ Some y → (x : A) × (o ≡ Some x) × (y ≡ g x)
got g None y e = absurd (cc)
got g (Some x) y e = (x, refl, cc)

module _ (cs : List Class) (f : FacesLoad cs) where
  abbrev all : List Class
  all = kernel ++ cs

  abbrev S : Class → Class
  S = class_by_owners all

  -- the classes by owners, and with them the kernel's
  abbrev T : List Class
  T = map S cs

  abbrev new : List Class
  new = kernel ++ T

  -- ---- they stand in order

  keys_same : (xs : List Class) → keys_of (map S xs) ≡ keys_of xs
  keys_same xs = map_twice (λ (c : Class). c.key) S xs

  keys_before : (i : ℕ) → keys_of (kernel ++ take i T) ≡ keys_of (kernel ++ take i cs)
  keys_before i = ap (λ (z : List Class). keys_of (kernel ++ z)) (take-map S i cs) ∙ ap (λ (z : List ClassKey). keys_of kernel ++ z) (keys_same (take i cs))

  before : (i : ℕ) (k : ClassKey) → Mem k (keys_of (kernel ++ take i cs)) → Mem k (keys_of (kernel ++ take i T))
  before i k m = subst (λ z. Mem k z) (sym (keys_before i)) m

  at_place : (i : ℕ) (c : Class) → slice_get T i ≡ Some c → (d : Class) × (slice_get cs i ≡ Some d) × (c ≡ S d)
  at_place i c e = got S (slice_get cs i) c (sym (slice_get-map S cs i) ∙ e)

  -- a moved entry of a class by owners is one of the class
  was_moved : (c : Class) (name : List ℕ) (to : ClassKey) → Mem (entries.Moved name to) (S c).decl.face.entries → (old : ClassKey) × Mem (entries.Moved name old) c.decl.face.entries × (to ≡ (owner all (ref cs f c.key name)).class)
  was_moved c name to m = let r = map_mem (entry_by_owner all c.key) (entries.Moved name to) c.decl.face.entries m in of_entry r.0 r.1 r.2
    where
      of_entry : (e : Entry) → Mem e c.decl.face.entries → entries.Moved name to ≡ entry_by_owner all c.key e → (old : ClassKey) × Mem (entries.Moved name old) c.decl.face.entries × (to ≡ (owner all (ref cs f c.key name)).class)
      of_entry (entries.Introduced x sig way) n is = absurd (let z = is in cc)
      of_entry (entries.Moved x old) n is =
          let same : x ≡ name = cc in
          let up : to ≡ (owner all (ref cs f c.key x)).class = cc in
          (old, subst (λ z. Mem (entries.Moved z old) c.decl.face.entries) same n, up ∙ ap (λ z. (owner all (ref cs f c.key z)).class) same)

  owner_earlier : (i : ℕ) (c : Class) (name : List ℕ) (to : ClassKey) → slice_get cs i ≡ Some c → Mem (entries.Moved name to) c.decl.face.entries → Mem (owner all (ref cs f c.key name)).class (keys_of (kernel ++ take i cs))
  owner_earlier i c name to e n =
      let m = get_mem cs i c e in
      let o = (owner all (ref cs f c.key name)).class in
      let up = (owned cs f c name to m n).above in
      let d = known_above cs f.ordered c.key o c (here cs f c m) up in
      let key = (found_is cs f.ordered o d.0 d.1).1 in
      let q = place cs f.ordered o d.0 d.1 in
      let less = lower (hierarchy all) (falls cs f.ordered) c.key o up (owner_other cs f c name to m n) in
      let high = height_at cs f.ordered (suc (suc (suc (suc i)))) c c.key e refl in
      let low = height_at cs f.ordered q.0 d.0 o q.1 key in
      subst (λ z. Mem z (keys_of (kernel ++ take i cs))) key
      (mem_map (λ (z : Class). z.key) d.0 (kernel ++ take i cs) (take_mem (suc (suc (suc (suc i)))) all q.0 d.0 q.1 (omega (arith, less, high, low))))

  own_key : (c : Class) → Mem c T → HasOwnKey c
  own_key c m =
      let r = map_mem S c cs m in
      let k = f.ordered.own r.0 r.1 in
      subst HasOwnKey (sym r.2) (record { module_ = k.module_; outside = k.outside; is = k.is })

  pub ordered : IsOrdered T
  ordered = record {
    own = own_key;
    differ = ap (doubles same_key []) (keys_same cs) ∙ f.ordered.differ;
    parents = λ i c k e m. (let d = at_place i c e in before i k (f.ordered.parents i d.0 k d.1 (subst (λ (z : Class). Mem k z.decl.face.parents) d.2 m)));
    metaclasses = λ i c k e is. (let d = at_place i c e in before i k (f.ordered.metaclasses i d.0 k d.1 (ap (λ (z : Class). z.decl.face.metaclass) (sym d.2) ∙ is)));
    targets = λ i c name to e m. (let d = at_place i c e in
        let w = was_moved d.0 name to (subst (λ (z : Class). Mem (entries.Moved name to) z.decl.face.entries) d.2 m) in
        before i to (subst (λ z. Mem z (keys_of (kernel ++ take i cs))) (sym w.2) (owner_earlier i d.0 name w.0 d.1 w.1)));
  }

  -- ---- they can be loaded

  each : (P : Class → Type 0) → ((c : Class) → Mem c cs → P (S c)) → (c : Class) → Mem c T → P c
  each P g c m = let r = map_mem S c cs m in subst P (sym r.2) (g r.0 r.1)

  has_owner : (c : Class) (name : List ℕ) (to : ClassKey) → Mem c cs → Mem (entries.Moved name to) (S c).decl.face.entries → (is_proper new (S c) to ≡ true) × IsSome (entry_at new to name)
  has_owner c name to m n =
      let w = was_moved c name to n in
      let o = (owner all (ref cs f c.key name)).class in
      let i : introduces new name o ≡ true = introduces_by_owners all all name o ∙ owner_introduces cs f c name w.0 m w.1 in
      let e = introduced_entry new name o i in (
        ap (is_proper new (S c)) w.2 ∙ proper cs f c name w.0 m w.1,
        subst (λ z. IsSome (entry_at new z name)) (sym w.2) (ap is_some e.1),
      )

  pub load : FacesLoad T
  load = record {
    ordered = ordered;
    parents = each (λ c. s3 c ≡ []) f.parents;
    descend = each (λ c. s4 new c ≡ []) (fourth cs f);
    types = each (λ c. s5 new c ≡ []) (fifth cs f);
    names = each (λ c. s6 c ≡ []) (sixth cs f);
    variables = each (λ c. s7 c ≡ []) (λ c m. refl);
    above = λ c name to m n. each (λ z. Mem (entries.Moved name to) z.decl.face.entries → is_proper new z to ≡ true) (λ d k i. (has_owner d name to k i).0) c m n;
    there = λ c name to m n. each (λ z. Mem (entries.Moved name to) z.decl.face.entries → IsSome (entry_at new to name)) (λ d k i. (has_owner d name to k i).1) c m n;
  }

  -- ---- owners and signatures are the same

  pub same_hierarchy : hierarchy new ≡ hierarchy all
  same_hierarchy = hierarchy_by_owners all all

  owner_stays_there : (r : MethodRef) → moved_to (entry_at all r.class r.name) ≡ None → moved_to (entry_at new r.class r.name) ≡ None → owner new r ≡ owner all r
  owner_stays_there r a b = stays new ((hierarchy new).height r.class) r b ∙ sym (stays all ((hierarchy all).height r.class) r a)

  moved_on : (r : MethodRef) (c : Class) (o : Option Entry) → class_at all r.class ≡ Some c → entry_at all r.class r.name ≡ o → owner new r ≡ owner all r
  moved_on r c None at e = owner_stays_there r (ap moved_to e) (ap moved_to (entry_at_by_owners all all r.class r.name c at ∙ ap (option_map (entry_by_owner all c.key)) e))
  moved_on r c (Some (entries.Introduced x sig way)) at e = owner_stays_there r (ap moved_to e) (ap moved_to (entry_at_by_owners all all r.class r.name c at ∙ ap (option_map (entry_by_owner all c.key)) e))
  moved_on r c (Some (entries.Moved x to)) at e =
      let k = found_is cs f.ordered r.class c at in
      let n = entry_mem c.decl.face.entries r.name (entries.Moved x to) (sym (entry_is all r.class r.name c at) ∙ e) in
      let own : ref cs f c.key x ≡ r = ref_one (ref cs f c.key x) r k.1 n.1 in
      let up : entry_at new r.class r.name ≡ Some (entries.Moved x (owner all (ref cs f c.key x)).class) = entry_at_by_owners all all r.class r.name c at ∙ ap (option_map (entry_by_owner all c.key)) e in
      let o = owner all r in
      let some : IsSome (entry_at all r.class r.name) = ap is_some e in
      let owns = owner_owns cs f r some in
      let i : introduces new o.name o.class ≡ true = introduces_by_owners all all o.name o.class ∙ owns.introduced in
      owner_moved T ordered r.class r.name x (owner all (ref cs f c.key x)).class up
      ∙ ap (owner new) (ref_one (ref cs f (owner all (ref cs f c.key x)).class r.name) o (ap (λ (z : MethodRef). (owner all z).class) own) (sym owns.name))
      ∙ owner_again T ordered o i

  pub owner_same : (r : MethodRef) → owner new r ≡ owner all r
  owner_same r = by (class_at all r.class) refl
    where
      by : (o : Option Class) → class_at all r.class ≡ o → owner new r ≡ owner all r
      by None e = owner_stays_there r (ap moved_to (entry_unknown all r.class r.name e)) (ap moved_to (entry_unknown new r.class r.name (class_at_by_owners all all r.class ∙ ap (option_map S) e)))
      by (Some c) e = moved_on r c (entry_at all r.class r.name) e refl

  pub signature_same : (k : ClassKey) (name : List ℕ) → signature new k name ≡ signature all k name
  signature_same k name = ap (sig_of new) (owner_same (ref cs f k name)) ∙ signature_by_owners all all (owner all (ref cs f k name))

  -- ---- what is kept

  one_class : (c d : Class) → Mem c cs → Mem d cs → c.key ≡ d.key → c ≡ d
  one_class c d m n e = one (class_at all d.key) (found cs f.ordered c d.key (mem_right c kernel cs m) e) (here cs f d n)
    where
      one : (o : Option Class) → o ≡ Some c → o ≡ Some d → c ≡ d
      one o x y = cc

  -- the class by owners of a class's key
  pair_new : (c n : Class) → IsPair cs T c n → n ≡ S c
  pair_new c n p = let r = map_mem S n cs p.new_one in r.2 ∙ ap S (one_class r.0 c r.1 p.old_one (ap (λ (z : Class). z.key) (sym r.2) ∙ p.same))

  pair_old : (c n : Class) → IsPair T cs c n → c ≡ S n
  pair_old c n p = let r = map_mem S c cs p.old_one in r.2 ∙ ap S (one_class r.0 n r.1 p.new_one (ap (λ (z : Class). z.key) (sym r.2) ∙ sym p.same))

  order_same : (c : Class) → order_of (S c) ≡ order_of c
  order_same c = names_by_owners all c.key c.decl.face.entries

  pub new_keep : ClassesKeep cs T
  new_keep = record {
    classes = λ c m. mem_map (λ (z : Class). z.key) (S c) T (mem_map S c cs m);
    major = λ c n p. ap (λ (z : Class). z.decl.face.major) (sym (pair_new c n p));
    minor = λ c n p. (let s = ap (λ (z : Class). z.decl.face.minor) (pair_new c n p) in omega (arith, s));
    ancestors = λ c a m d. subst (λ (h : Hierarchy ClassKey). Descends h c.key a) (sym same_hierarchy) d;
    places = λ c n i name p e. ap (λ (z : Class). slice_get (order_of z) i) (pair_new c n p) ∙ ap (λ z. slice_get z i) (order_same c) ∙ e;
    signatures = λ c name m n. sym (signature_same c.key name);
    metaclasses = λ c k m is. (keeps_itself T ordered).metaclasses (S c) k (mem_map S c cs m) is;
  }

  pub old_keep : ClassesKeep T cs
  old_keep = record {
    classes = λ c m. (let r = map_mem S c cs m in subst (λ (z : Class). Mem z.key (keys_of cs)) (sym r.2) (mem_map (λ (z : Class). z.key) r.0 cs r.1));
    major = λ c n p. ap (λ (z : Class). z.decl.face.major) (pair_old c n p);
    minor = λ c n p. (let s = ap (λ (z : Class). z.decl.face.minor) (pair_old c n p) in omega (arith, s));
    ancestors = λ c a m d. subst (λ (h : Hierarchy ClassKey). Descends h c.key a) same_hierarchy d;
    places = λ c n i name p e. ap (λ z. slice_get z i) (sym (order_same n)) ∙ ap (λ (z : Class). slice_get (order_of z) i) (sym (pair_old c n p)) ∙ e;
    signatures = λ c name m n. signature_same c.key name;
    metaclasses = λ c k m is. (let r = map_mem S c cs m in subst (λ (z : Class). Descends (hierarchy all) (meta all z.key) k) (sym r.2)
        ((keeps_itself cs f.ordered).metaclasses r.0 k r.1 (ap (λ (z : Class). z.decl.face.metaclass) (sym r.2) ∙ is)));
  }

  entry_there : (c : Class) (name : List ℕ) → Mem c cs → Mem name (order_of c) → IsSome (entry_at all c.key name)
  entry_there c name m n = subst (λ z. IsSome z) (sym (entry_is all c.key name c (here cs f c m))) (named_entry c.decl.face.entries name n)

  pub new_owners : OwnersAreKept cs T
  new_owners c name m n =
      let r = ref cs f c.key name in
      owner_same r ∙ owner_itself cs f r (entry_there c name m n) ∙ sym (owner_same (owner all r))

  old_owner : (c : Class) (name : List ℕ) → Mem c cs → Mem name (order_of (S c)) → owner all (ref cs f c.key name) ≡ owner all (owner new (ref cs f c.key name))
  old_owner c name m n =
      let r = ref cs f c.key name in
      owner_itself cs f r (entry_there c name m (subst (λ z. Mem name z) (order_same c) n)) ∙ ap (owner all) (sym (owner_same r))

  pub old_owners : OwnersAreKept T cs
  old_owners c name m n = each (λ z. Mem name (order_of z) → owner all (ref cs f z.key name) ≡ owner all (owner new (ref cs f z.key name))) (λ d k i. old_owner d name k i) c m n

  pub new_kept : AreKept cs T
  new_kept = (new_keep, new_owners)

  pub old_kept : AreKept T cs
  old_kept = (old_keep, old_owners)
