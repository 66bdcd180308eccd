-- From lists of what breaks a rule to plain words, and back.
use Rattle.std.proofs.Common.{◌≡◌, ◌↔◌, inl, inr, Bool, true, false, if◌then◌else◌, List, [], ◌∷◌, ◌++◌, map, Option, Some, None, refl, sym, ap, ◌∙◌, subst, true≢false}
use Rattle.som_model.specs.declared.key.ClassKey.{ClassKey}
use Rattle.som_model.specs.declared.class.ClassFace.{ClassFace}
use Rattle.som_model.specs.declared.program.Interface.{Interface}
use Rattle.som_model.specs.Lists.{Mem, first, some, option_list}
use Rattle.som_model.specs.Keys.{same_key}
use Rattle.som_model.specs.Same.{same_option, same_sig}
use Rattle.som_model.specs.Ancestors.{Descends}
use Rattle.som_model.specs.Class.{Class}
use Rattle.som_model.specs.Classes.{class_at, interface_classes, hierarchy, ancestors, is_a}
use Rattle.som_model.specs.Kernel.{kernel}
use Rattle.som_model.specs.Metaclass.{meta}
use Rattle.som_model.specs.Compatible.{release_of, CompatBreach, incompatible, order_of, signature, k2, k3, k4, k5, k6, class_breaks, Compatible}
use Rattle.som_model.proofs.KeyLaws.{exact_keys}
use Rattle.som_model.proofs.NamedLaws.{same_named}
use Rattle.som_model_laws.proofs.Members.{mem_right, mem_split, mem_some}
use Rattle.som_model_laws.proofs.Laws.{ancestors as ancestors_are, descends_test}
use Rattle.som_model_laws.proofs.CompareLists.{none_fails, fails_none, none_strays, strays_none, sigs, version_ok, ok_version}
use Rattle.som_verify_classes.proofs.Before.{none_both, both_none}
use Rattle.som_verify_classes.proofs.Falling.{mem_there}
use Rattle.som_verify_classes.proofs.Owners.{flat_none}
use Rattle.som_verify_classes.proofs.PlainLists.{none_flat, map_mem}
use Rattle.som_verify_classes.proofs.PlainNames.{option_mem}
use Rattle.som_compat.specs.Conditions.{Conforms}
use Rattle.som_compat.specs.Plainly.{IsPair, Keeps}
use Rattle.som_compat.specs.Views.{shown}
use Rattle.som_compat.proofs.Known.{known}
use Rattle.som_compat.proofs.MetaLaw.{find_mem}

pub map_empty : {A B : Type 0} (f : A → B) (xs : List A) → first (map f xs) ≡ None → xs ≡ []
map_empty f [] e = refl
map_empty f (x ∷ xs) e = absurd (cc)

pub empty_map : {A B : Type 0} (f : A → B) (xs : List A) → xs ≡ [] → first (map f xs) ≡ None
empty_map f xs e = ap (λ z. first (map f z)) e

-- a class that is found by its key
pub found_is : (cs : List Class) (k : ClassKey) (c : Class) → class_at cs k ≡ Some c → Mem c cs × (c.key ≡ k)
found_is cs k c e = let r = find_mem (λ (c : Class). same_key c.key k) cs c e in (r.0, exact_keys.two c.key k r.1)

-- a class of an interface by its key
pub class_here : (i : Interface) → Conforms i → (c : Class) (k : ClassKey) → Mem c (release_of i) → c.key ≡ k → class_at (release_of i) k ≡ Some c
class_here i ok c k m e =
    let r = mem_there (release_of i) c m in
    ap (class_at (release_of i)) (sym e ∙ ap (λ (c : Class). c.key) (sym r.2)) ∙ (known i ok).found r.0 r.1 ∙ ap (λ z. Some z) r.2

-- a key of the library
pub library_key : (i : Interface) (c : Class) → Mem c (interface_classes i) → (f : ClassFace) × Mem f i.classes × (c ≡ shown f)
library_key i c m = map_mem shown c i.classes m

abbrev in_kernel : ClassKey → Bool
in_kernel k = some (λ (c : Class). same_key c.key k) kernel

not_kernel : (f : ClassFace) → in_kernel (shown f).key ≡ false
not_kernel f = simp same_named

-- a class with a key of the library is of the interface
pub library_class : (i : Interface) (n c : Class) (f : ClassFace) → Mem n (release_of i) → n.key ≡ (shown f).key → Mem n (interface_classes i)
library_class i n c f m e = elim (mem_split n kernel (interface_classes i) m) [
  | inl k ↦ absurd (true≢false (sym (mem_some (λ (c : Class). same_key c.key (shown f).key) n kernel k (ap (λ z. same_key z (shown f).key) e ∙ exact_keys.one (shown f).key)) ∙ not_kernel f))
  | inr k ↦ k
]

module _ (old new : Interface) (old_ok : Conforms old) (new_ok : Conforms new) where
  abbrev O : List Class
  O = release_of old

  abbrev N : List Class
  N = release_of new

  -- what the lists of one class say
  pub record ClassKeeps (c : Class) : Type 0 where
    pub pair : Class
    pub found : class_at N c.key ≡ Some pair
    pub two : first (k2 c pair) ≡ None
    pub three : first (k3 O N c) ≡ None
    pub four : first (k4 c pair) ≡ None
    pub five : first (k5 O N c) ≡ None
    pub six : first (k6 N c) ≡ None

  pub class_keeps : (c : Class) (o : Option Class) → class_at N c.key ≡ o
      → first (elim o [ None ↦ incompatible 1 c None 0 ∷ [] | Some n ↦ k2 c n ++ (k3 O N c ++ (k4 c n ++ (k5 O N c ++ k6 N c))) ]) ≡ None → ClassKeeps c
  class_keeps c None f e = absurd (cc)
  class_keeps c (Some n) f e =
      let a = none_both (k2 c n) _ e in
      let b = none_both (k3 O N c) _ a.1 in
      let d = none_both (k4 c n) _ b.1 in
      let g = none_both (k5 O N c) (k6 N c) d.1 in
      record { pair = n; found = f; two = a.0; three = b.0; four = d.0; five = g.0; six = g.1 }

  pub of_class : Compatible old new → (c : Class) → Mem c (interface_classes old) → ClassKeeps c
  of_class e c m = class_keeps c (class_at N c.key) refl (flat_none (class_breaks O N) (interface_classes old) c e m)

  if_none : (b : Bool) (x : CompatBreach) → first (if b then [] else x ∷ []) ≡ None → b ≡ true
  if_none true x e = refl
  if_none false x e = absurd (cc)

  none_if : (b : Bool) (x : CompatBreach) → b ≡ true → first (if b then [] else x ∷ []) ≡ None
  none_if true x e = refl
  none_if false x e = absurd (true≢false (sym e))

  new_in : (n : Class) → Mem n (interface_classes new) → Mem n N
  new_in n m = mem_right n kernel (interface_classes new) m

  descends_new : (x a : ClassKey) → (is_a N x a ≡ true) ↔ Descends (hierarchy N) x a
  descends_new x a = descends_test (hierarchy N) (known new new_ok).tells (known new new_ok).falls x a

  old_ancestor : (x a : ClassKey) → Mem a (ancestors O x) ↔ Descends (hierarchy O) x a
  old_ancestor x a = ancestors_are (hierarchy O) (known old old_ok).tells (known old old_ok).falls x a

  pub is_pair : (c n : Class) → IsPair old new c n → class_at N c.key ≡ Some n
  is_pair c n p = class_here new new_ok n c.key (new_in n p.new_one) p.same

  pair_keeps : (e : Compatible old new) (c n : Class) → IsPair old new c n → (first (k2 c n) ≡ None) × (first (k4 c n) ≡ None)
  pair_keeps e c n p =
      let k = of_class e c p.old_one in
      let same : Some k.pair ≡ Some n = sym k.found ∙ is_pair c n p in
      let is : k.pair ≡ n = cc in
      (subst (λ (z : Class). first (k2 c z) ≡ None) is k.two, subst (λ (z : Class). first (k4 c z) ≡ None) is k.four)

  pub keeps : Compatible old new → Keeps old new
  keeps e = record {
    classes = λ c m.
        let k = of_class e c m in
        let r = found_is N c.key k.pair k.found in
        let f = library_key old c m in
        record { class = k.pair; there = library_class new k.pair c f.0 r.0 (r.1 ∙ ap (λ (z : Class). z.key) f.2); named = r.1 };
    major = λ c n p. (version_ok _ _ _ _ (if_none _ _ (pair_keeps e c n p).0)).0;
    minor = λ c n p. (version_ok _ _ _ _ (if_none _ _ (pair_keeps e c n p).0)).1;
    ancestors = λ c a m d.
        (descends_new c.key a).0 (none_fails (is_a N c.key) 0 (ancestors O c.key) (map_empty _ _ (of_class e c m).three) a ((old_ancestor c.key a).1 d));
    places = λ c n place name p at. none_strays 0 (order_of c) (order_of n) (map_empty _ _ (pair_keeps e c n p).1) place name at;
    signatures = λ c name m k. sigs.two _ _ (none_fails (λ x. same_option same_sig (signature O c.key x) (signature N c.key x)) 0 (order_of c) (map_empty _ _ (of_class e c m).five) name k);
    metaclasses = λ c k m is.
        (descends_new (meta N c.key) k).0 (none_fails (is_a N (meta N c.key)) 0 (option_list c.decl.face.metaclass) (map_empty _ _ (of_class e c m).six) k
        (subst (λ (o : Option ClassKey). Mem k (option_list o)) (sym is) (inl refl)));
  }

  none_breaks : (c n : Class) (o : Option Class) → class_at N c.key ≡ o → o ≡ Some n → first (k2 c n) ≡ None → first (k3 O N c) ≡ None → first (k4 c n) ≡ None → first (k5 O N c) ≡ None → first (k6 N c) ≡ None
      → first (elim o [ None ↦ incompatible 1 c None 0 ∷ [] | Some n ↦ k2 c n ++ (k3 O N c ++ (k4 c n ++ (k5 O N c ++ k6 N c))) ]) ≡ None
  none_breaks c n None f e a b d g h = absurd (cc)
  none_breaks c n (Some z) f e a b d g h =
      let is : z ≡ n = cc in
      let a2 = subst (λ (y : Class). first (k2 c y) ≡ None) (sym is) a in
      let d2 = subst (λ (y : Class). first (k4 c y) ≡ None) (sym is) d in
      both_none (k2 c z) _ a2 (both_none (k3 O N c) _ b (both_none (k4 c z) _ d2 (both_none (k5 O N c) (k6 N c) g h)))

  pub kept : Keeps old new → Compatible old new
  kept k = none_flat (class_breaks O N) (interface_classes old) (λ c m.
      let a = k.classes c m in
      let n = a.class in
      let p : IsPair old new c n = record { old_one = m; new_one = a.there; same = a.named } in
      none_breaks c n (class_at N c.key) refl (is_pair c n p)
      (none_if _ _ (ok_version _ _ _ _ (k.major c n p) (k.minor c n p)))
      (empty_map _ _ (fails_none (is_a N c.key) 0 (ancestors O c.key) (λ x x_in. (descends_new c.key x).1 (k.ancestors c x m ((old_ancestor c.key x).0 x_in)))))
      (empty_map _ _ (strays_none 0 (order_of c) (order_of n) (λ i x at. k.places c n i x p at)))
      (empty_map _ _ (fails_none (λ x. same_option same_sig (signature O c.key x) (signature N c.key x)) 0 (order_of c)
      (λ x x_in. ap (same_option same_sig (signature O c.key x)) (sym (k.signatures c x m x_in)) ∙ sigs.one (signature O c.key x))))
      (empty_map _ _ (fails_none (is_a N (meta N c.key)) 0 (option_list c.decl.face.metaclass)
      (λ x x_in. (descends_new (meta N c.key) x).1 (k.metaclasses c x m (option_mem c.decl.face.metaclass x x_in))))))
