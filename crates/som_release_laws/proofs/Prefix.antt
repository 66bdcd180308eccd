-- Classes that stand before others are, descend and own alone as they do among them.
use Rattle.std.proofs.Common.{◌≡◌, ℕ, zero, suc, List, [], ◌++◌, Option, Some, None, IsSome, refl, sym, ap, ◌∙◌, subst, true≢false}
use Rattle.std.proofs.lemmas.List.{map-append}
use Rattle.som_model.specs.declared.key.ClassKey.{ClassKey, out-ClassKey}
use Rattle.som_model.specs.declared.key.ClassKey.TheOpen.{ClassKey-F}
use Rattle.som_model.specs.declared.key.MethodRef.{MethodRef}
use Rattle.som_model.specs.declared.class.Sig.{Sig}
use Rattle.som_model.specs.declared.class.Entry.{Entry}
use Rattle.som_model.specs.declared.class.Entry.TheVariants as entries
use Rattle.som_model.specs.Lists.{Mem}
use Rattle.som_model.specs.Keys.{same_key}
use Rattle.som_model.specs.Ancestors.{Descends, itself, by_parent}
use Rattle.som_model.specs.Class.{Class, introduced_sig}
use Rattle.som_model.specs.Classes.{class_at, hierarchy}
use Rattle.som_model.specs.Kernel.{kernel}
use Rattle.som_model.specs.Owner.{entry_at, owner, owner_within, sig_of}
use Rattle.som_model.specs.Compatible.{signature}
use Rattle.som_model.proofs.KeyLaws.{exact_keys}
use Rattle.som_model_laws.proofs.Members.{Apart, apart_doubles, mem_left}
use Rattle.som_model.specs.Loads.{IsOrdered, keys_of}
use Rattle.som_model_laws.proofs.Lists.{doubles_apart, find_left}
use Rattle.som_model_laws.proofs.Standing.{found_is, height_at, named_layer, parents_derived, parents_known, parents_proxy, parents_unknown, place, stands}
use Rattle.som_model_laws.proofs.Owners.{entry_class, entry_is, moved_lower, moved_to, moves, stays}
use Rattle.som_release_laws.specs.Growing.{Grows}
use Rattle.som_release_laws.proofs.Lists.{apart_left, get_left, take_left}

-- what has a signature is an entry of a known class
pub signature_entry : (cs : List Class) (k : ClassKey) (name : List ℕ) (s : Sig) → signature cs k name ≡ Some s → (e : Entry) × (entry_at cs k name ≡ Some e)
signature_entry cs k name s f = by (entry_at cs k name) refl
  where
    by : (q : Option Entry) → entry_at cs k name ≡ q → (e : Entry) × (entry_at cs k name ≡ Some e)
    by (Some e) g = (e, g)
    by None g =
        let r : MethodRef = record { class = k; name = name } in
        let own : owner cs r ≡ r = stays cs ((hierarchy cs).height k) r (ap moved_to g) in
        let none : signature cs k name ≡ None = ap (sig_of cs) own ∙ ap introduced_sig g in
        absurd (let z = sym none ∙ f in cc)

pub some_entry : (q : Option Entry) → IsSome q → (e : Entry) × (q ≡ Some e)
some_entry None s = absurd (true≢false (sym s))
some_entry (Some e) s = (e, refl)

module _ (xs ys : List Class) (o : IsOrdered (xs ++ ys)) where
  abbrev S : List Class
  S = kernel ++ xs

  abbrev L : List Class
  L = kernel ++ (xs ++ ys)

  pub ordered : IsOrdered xs
  ordered = record {
    own = λ c m. o.own c (mem_left c xs ys m);
    differ = apart_doubles same_key exact_keys.two [] (keys_of xs) (λ a m n. m)
        (apart_left (keys_of xs) (keys_of ys) (subst Apart (map-append (λ (c : Class). c.key) xs ys) (doubles_apart same_key exact_keys (keys_of (xs ++ ys)) o.differ)));
    parents = λ i c k e m. subst (λ (z : List Class). Mem k (keys_of (kernel ++ z))) (take_left xs ys i c e) (o.parents i c k (get_left xs ys i c e) m);
    metaclasses = λ i c k e m. subst (λ (z : List Class). Mem k (keys_of (kernel ++ z))) (take_left xs ys i c e) (o.metaclasses i c k (get_left xs ys i c e) m);
    targets = λ i c name to e m. subst (λ (z : List Class). Mem to (keys_of (kernel ++ z))) (take_left xs ys i c e) (o.targets i c name to (get_left xs ys i c e) m);
  }

  pub known_more : (k : ClassKey) (c : Class) → class_at S k ≡ Some c → class_at L k ≡ Some c
  known_more k c e = find_left (λ (z : Class). same_key z.key k) S ys c e

  parents_by : (x p : ClassKey) (l : ClassKey-F ClassKey) → out-ClassKey x ≡ l → Mem p ((hierarchy S).parents x) → Mem p ((hierarchy L).parents x)
  parents_by x p (ClassKey-F.Named m n) e k = named (class_at S x) refl
    where
      named : (q : Option Class) → class_at S x ≡ q → Mem p ((hierarchy L).parents x)
      named None f = absurd (subst (λ z. Mem p z) (parents_unknown xs ordered x m n (named_layer x m n e) f) k)
      named (Some c) f = subst (λ z. Mem p z) (parents_known xs ordered x c f ∙ sym (parents_known (xs ++ ys) o x c (known_more x c f))) k
  parents_by x p (ClassKey-F.Derived ks) e k = subst (λ z. Mem p z) (parents_derived xs ordered x ks e ∙ sym (parents_derived (xs ++ ys) o x ks e)) k
  parents_by x p (ClassKey-F.Proxy of) e k = subst (λ z. Mem p z) (parents_proxy xs ordered x of e ∙ sym (parents_proxy (xs ++ ys) o x of e)) k

  pub descends_more : (x y : ClassKey) → Descends (hierarchy S) x y → Descends (hierarchy L) x y
  descends_more x y itself = itself
  descends_more x y (by_parent p m d) = by_parent p (parents_by x p (out-ClassKey x) refl m) (descends_more p y d)

  pub descends_less : (x y : ClassKey) (c : Class) → class_at S x ≡ Some c → Descends (hierarchy L) x y → Descends (hierarchy S) x y
  descends_less x y c e itself = itself
  descends_less x y c e (by_parent p m d) =
      let here : Mem p c.decl.face.parents = subst (λ z. Mem p z) (parents_known (xs ++ ys) o x c (known_more x c e)) m in
      let r = stands xs ordered x c p e here in
      by_parent p (subst (λ z. Mem p z) (sym (parents_known xs ordered x c e)) here) (descends_less p y r.0 r.1 d)

  pub entry_same : (k : ClassKey) (name : List ℕ) (c : Class) → class_at S k ≡ Some c → entry_at L k name ≡ entry_at S k name
  entry_same k name c e = entry_is L k name c (known_more k c e) ∙ sym (entry_is S k name c e)

  pub height_same : (k : ClassKey) (c : Class) → class_at S k ≡ Some c → (hierarchy L).height k ≡ (hierarchy S).height k
  height_same k c e =
      let i = place xs ordered k c e in
      let key = (found_is xs ordered k c e).1 in
      height_at (xs ++ ys) o i.0 c k (get_left S ys i.0 c i.1) key ∙ sym (height_at xs ordered i.0 c k i.1 key)

  abbrev at : ClassKey → List ℕ → MethodRef
  at k name = record { class = k; name = name }

  -- the owner of a reference, after any number of steps, is the same, and known
  abbrev OneOwner : ℕ → ClassKey → List ℕ → Type 0
  OneOwner n k name = (owner_within L n (at k name) ≡ owner_within S n (at k name)) × ((d : Class) × (class_at S (owner_within S n (at k name)).class ≡ Some d))

  one_stays : (n : ℕ) (k : ClassKey) (name : List ℕ) (c : Class) → class_at S k ≡ Some c → moved_to (entry_at S k name) ≡ None → OneOwner n k name
  one_stays n k name c e f =
      let small = stays S n (at k name) f in
      let large = stays L n (at k name) (ap moved_to (entry_same k name c e) ∙ f) in
      (large ∙ sym small, (c, ap (λ (z : MethodRef). class_at S z.class) small ∙ e))

  one_by : (n : ℕ) (k : ClassKey) (name : List ℕ) (c : Class) → class_at S k ≡ Some c → (q : Option Entry) → entry_at S k name ≡ q
      → ((to : ClassKey) (d : Class) → class_at S to ≡ Some d → OneOwner n to name) → OneOwner (suc n) k name
  one_by n k name c e None f g = one_stays (suc n) k name c e (ap moved_to f)
  one_by n k name c e (Some (entries.Introduced x sig way)) f g = one_stays (suc n) k name c e (ap moved_to f)
  one_by n k name c e (Some (entries.Moved x to)) f g =
      let r = moved_lower xs ordered k name x to f in
      let more = g to r.0 r.1 in
      let small = moves S n (at k name) to (ap moved_to f) in
      let large = moves L n (at k name) to (ap moved_to (entry_same k name c e ∙ f)) in
      (large ∙ more.0 ∙ sym small, (more.1.0, ap (λ (z : MethodRef). class_at S z.class) small ∙ more.1.1))

  one_owner : (n : ℕ) (k : ClassKey) (name : List ℕ) (c : Class) → class_at S k ≡ Some c → OneOwner n k name
  one_owner zero k name c e = (refl, (c, e))
  one_owner (suc n) k name c e = one_by n k name c e (entry_at S k name) refl (λ to d f. one_owner n to name d f)

  pub owner_same : (k : ClassKey) (name : List ℕ) (c : Class) → class_at S k ≡ Some c → owner L (at k name) ≡ owner S (at k name)
  owner_same k name c e = ap (λ n. owner_within L n (at k name)) (height_same k c e) ∙ (one_owner ((hierarchy S).height k) k name c e).0

  pub signature_same : (k : ClassKey) (name : List ℕ) (c : Class) → class_at S k ≡ Some c → signature L k name ≡ signature S k name
  signature_same k name c e =
      let r = (one_owner ((hierarchy S).height k) k name c e).1 in
      ap (sig_of L) (owner_same k name c e) ∙ ap introduced_sig (entry_same (owner S (at k name)).class (owner S (at k name)).name r.0 r.1)

  pub prefix_grows : Grows S L
  prefix_grows = record {
    known = λ k c e. (c, known_more k c e);
    descends = descends_more;
    entries = λ k name s. (
        let e = some_entry (entry_at S k name) s in
        let c = entry_class S k name e.0 e.1 in
        subst (λ z. IsSome z) (sym (entry_same k name c.0 c.1)) s);
    signatures = λ k name s f. (
        let e = signature_entry S k name s f in
        let c = entry_class S k name e.0 e.1 in
        signature_same k name c.0 c.1 ∙ f);
  }
