-- Nothing is broken exactly where each rule of compatibility holds of every class and member.
use Rattle.std.proofs.Common.{◌≡◌, inl, inr, Bool, true, false, if◌then◌else◌, List, [], ◌∷◌, ◌++◌, map, flat_map, Option, Some, None, refl, sym, ap, ◌∙◌, subst}
use Rattle.som_model.specs.declared.key.ClassKey.{ClassKey}
use Rattle.som_model.specs.Lists.{Mem, option_list}
use Rattle.som_model.specs.Keys.{same_key}
use Rattle.som_model.specs.Same.{same_option, same_sig}
use Rattle.som_model.specs.Ancestors.{Descends}
use Rattle.som_model.specs.Class.{Class}
use Rattle.som_model.specs.Classes.{ancestors, class_at, hierarchy, is_a}
use Rattle.som_model.specs.Kernel.{kernel}
use Rattle.som_model.specs.Metaclass.{meta}
use Rattle.som_model.specs.Compatible.{CompatBreach, incompatible, order_of, signature, k2, k3, k4, k5, k6, class_breaks}
use Rattle.som_model.specs.Loads.{IsOrdered, keys_of}
use Rattle.som_model.proofs.KeyLaws.{exact_keys}
use Rattle.som_model_laws.proofs.Members.{mem_right, mem_split}
use Rattle.som_model_laws.proofs.Laws.{ancestors as ancestors_are}
use Rattle.som_verify_classes.proofs.FacesOnly.{face_only, is_a_faces}
use Rattle.som_model_laws.specs.Keeping.{ClassesKeep, IsPair}
use Rattle.som_model_laws.proofs.Lists.{find_mem, map_mem, mem_map, option_mem}
use Rattle.som_model_laws.proofs.Standing.{falls, found, not_kernels, tells}
use Rattle.som_model_laws.proofs.CompareLists.{none_fails, fails_none, none_strays, strays_none, sigs, version_ok, ok_version}
use Rattle.som_release_laws.proofs.FacesAlone.{faces_at, meta_faces, signature_faces}
use Rattle.som_release_laws.proofs.Facing.{tested, tests}
use Rattle.som_release_laws.proofs.Lists.{both_none, flat_all, flat_at, none_left}

map_nothing : {A B : Type 0} (f : A → B) (xs : List A) → map f xs ≡ [] → xs ≡ []
map_nothing f [] e = refl
map_nothing f (x ∷ xs) e = absurd (cc)

if_nothing : (b : Bool) (x : CompatBreach) → (if b then [] else x ∷ []) ≡ [] → b ≡ true
if_nothing true x e = refl
if_nothing false x e = absurd (cc)

nothing_if : (b : Bool) (x : CompatBreach) → b ≡ true → (if b then [] else x ∷ []) ≡ []
nothing_if b x e = rw e refl

-- by the faces of the new alone
module _ (olds news : List Class) (oo : IsOrdered olds) (on : IsOrdered news) where
  abbrev O : List Class
  O = kernel ++ olds

  abbrev N : List Class
  N = kernel ++ news

  abbrev F : List Class
  F = kernel ++ map face_only news

  -- what the lists of one class say
  record ClassKeeps (c : Class) : Type 0 where
    pub pair : Class
    pub found_one : class_at F c.key ≡ Some pair
    pub two : k2 c pair ≡ []
    pub three : k3 O F c ≡ []
    pub four : k4 c pair ≡ []
    pub five : k5 O F c ≡ []
    pub six : k6 F c ≡ []

  class_keeps : (c : Class) (o : Option Class) → class_at F c.key ≡ o
      → ◌≡◌ {A = List CompatBreach} (elim o [ None ↦ incompatible 1 c None 0 ∷ [] | Some n ↦ k2 c n ++ (k3 O F c ++ (k4 c n ++ (k5 O F c ++ k6 F c))) ]) [] → ClassKeeps c
  class_keeps c None f e = absurd (cc)
  class_keeps c (Some n) f e =
      let a = none_left (k2 c n) _ e in
      let b = none_left (k3 O F c) _ a.1 in
      let d = none_left (k4 c n) _ b.1 in
      let g = none_left (k5 O F c) (k6 F c) d.1 in
      record { pair = n; found_one = f; two = a.0; three = b.0; four = d.0; five = g.0; six = g.1 }

  of_face : (n : Class) → Mem n F → (m : Class) × Mem m N × (n ≡ face_only m)
  of_face n m = map_mem face_only n N m

  module _ (e : flat_map (class_breaks O F) olds ≡ []) where
    of_class : (c : Class) → Mem c olds → ClassKeeps c
    of_class c m = class_keeps c (class_at F c.key) refl (flat_at (class_breaks O F) olds c e m)

    -- the class of the new that it is paired with
    paired : (c : Class) (m : Mem c olds) → (n : Class) × Mem n news × (n.key ≡ c.key) × ((of_class c m).pair ≡ face_only n)
    paired c m =
        let k = of_class c m in
        let f = find_mem (λ (z : Class). same_key z.key c.key) F k.pair k.found_one in
        let n = of_face k.pair f.0 in
        let key : n.0.key ≡ c.key = ap (λ (z : Class). z.key) (sym n.2) ∙ exact_keys.two k.pair.key c.key f.1 in
        elim (mem_split n.0 kernel news n.1) [
          | inl a ↦ absurd (not_kernels olds oo n.0 c a m key)
          | inr b ↦ (n.0, b, key, n.2)
        ]

    pair_is : (c n : Class) → (p : IsPair olds news c n) → (of_class c p.old_one).pair ≡ face_only n
    pair_is c n p =
        let q = paired c p.old_one in
        let x = found news on q.0 c.key (mem_right q.0 kernel news q.1) q.2 in
        let y = found news on n c.key (mem_right n kernel news p.new_one) p.same in
        let same : q.0 ≡ n = one q.0 n (class_at N c.key) x y in
        q.3 ∙ ap face_only same
      where
        one : (a b : Class) (o : Option Class) → o ≡ Some a → o ≡ Some b → a ≡ b
        one a b o f g = cc

    descends_new : (x a : ClassKey) → is_a F x a ≡ true → Descends (hierarchy N) x a
    descends_new x a t = tested news on x a (sym (is_a_faces N x a) ∙ t)

    pub says_keep : ClassesKeep olds news
    says_keep = record {
      classes = λ c m. (let q = paired c m in subst (λ z. Mem z (keys_of news)) q.2 (mem_map (λ (z : Class). z.key) q.0 news q.1));
      major = λ c n p. (version_ok _ _ _ _ (if_nothing _ _ (subst (λ (z : Class). k2 c z ≡ []) (pair_is c n p) (of_class c p.old_one).two))).0;
      minor = λ c n p. (version_ok _ _ _ _ (if_nothing _ _ (subst (λ (z : Class). k2 c z ≡ []) (pair_is c n p) (of_class c p.old_one).two))).1;
      ancestors = λ c a m d. descends_new c.key a (none_fails (is_a F c.key) 0 (ancestors O c.key) (map_nothing _ _ (of_class c m).three) a ((ancestors_are (hierarchy O) (tells olds oo) (falls olds oo) c.key a).1 d));
      places = λ c n place name p at. none_strays 0 (order_of c) (order_of n) (map_nothing _ _ (subst (λ (z : Class). k4 c z ≡ []) (pair_is c n p) (of_class c p.old_one).four)) place name at;
      signatures = λ c name m k. sigs.two _ _ (none_fails (λ x. same_option same_sig (signature O c.key x) (signature F c.key x)) 0 (order_of c) (map_nothing _ _ (of_class c m).five) name k) ∙ signature_faces N c.key name;
      metaclasses = λ c k m is. subst (λ z. Descends (hierarchy N) z k) (meta_faces N c.key) (descends_new (meta F c.key) k
          (none_fails (is_a F (meta F c.key)) 0 (option_list c.decl.face.metaclass) (map_nothing _ _ (of_class c m).six) k (subst (λ (o : Option ClassKey). Mem k (option_list o)) (sym is) (inl refl))));
    }

  tests_new : (x a : ClassKey) → Descends (hierarchy N) x a → is_a F x a ≡ true
  tests_new x a d = is_a_faces N x a ∙ tests news on x a d

  none_breaks : (c n : Class) (o : Option Class) → class_at F c.key ≡ o → o ≡ Some (face_only n) → k2 c (face_only n) ≡ [] → k3 O F c ≡ [] → k4 c (face_only n) ≡ [] → k5 O F c ≡ [] → k6 F c ≡ []
      → ◌≡◌ {A = List CompatBreach} (elim o [ None ↦ incompatible 1 c None 0 ∷ [] | Some n ↦ k2 c n ++ (k3 O F c ++ (k4 c n ++ (k5 O F c ++ k6 F c))) ]) []
  none_breaks c n None f e a b d g h = absurd (cc)
  none_breaks c n (Some z) f e a b d g h =
      let is : face_only n ≡ z = cc in
      both_none (k2 c z) _ (subst (λ (y : Class). k2 c y ≡ []) is a) (both_none (k3 O F c) _ b (both_none (k4 c z) _ (subst (λ (y : Class). k4 c y ≡ []) is d) (both_none (k5 O F c) (k6 F c) g h)))

  pub keep_says : ClassesKeep olds news → flat_map (class_breaks O F) olds ≡ []
  keep_says k = flat_all (class_breaks O F) olds (λ c m.
      let q = map_mem (λ (z : Class). z.key) c.key news (k.classes c m) in
      let n = q.0 in
      let p : IsPair olds news c n = record { old_one = m; new_one = q.1; same = sym q.2 } in
      let here : class_at F c.key ≡ Some (face_only n) = faces_at N c.key ∙ ap (λ (o : Option Class). elim o [ None ↦ None | Some z ↦ Some (face_only z) ]) (found news on n c.key (mem_right n kernel news q.1) (sym q.2)) in
      none_breaks c n (class_at F c.key) refl here
      (nothing_if _ _ (ok_version _ _ _ _ (k.major c n p) (k.minor c n p)))
      (ap (map _) (fails_none (is_a F c.key) 0 (ancestors O c.key) (λ x x_in. tests_new c.key x (k.ancestors c x m ((ancestors_are (hierarchy O) (tells olds oo) (falls olds oo) c.key x).0 x_in)))))
      (ap (map _) (strays_none 0 (order_of c) (order_of n) (λ i x at. k.places c n i x p at)))
      (ap (map _) (fails_none (λ x. same_option same_sig (signature O c.key x) (signature F c.key x)) 0 (order_of c)
      (λ x x_in. ap (same_option same_sig (signature O c.key x)) (signature_faces N c.key x ∙ sym (k.signatures c x m x_in)) ∙ sigs.one (signature O c.key x))))
      (ap (map _) (fails_none (is_a F (meta F c.key)) 0 (option_list c.decl.face.metaclass)
      (λ x x_in. tests_new (meta F c.key) x (subst (λ z. Descends (hierarchy N) z x) (sym (meta_faces N c.key)) (k.metaclasses c x m (option_mem c.decl.face.metaclass x x_in)))))))
