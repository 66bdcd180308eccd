-- Where more classes follow those of a base, each of the base has the ancestors that it had, and breaks no rule that it didn't break.
use Rattle.std.proofs.Common.{◌≡◌, ℕ, suc, zero, inl, inr, Bool, true, false, if◌then◌else◌, List, [], ◌∷◌, ◌++◌, map, flat_map, Option, Some, None, is_some, refl, sym, ap, ◌∙◌, subst, append_assoc}
use Rattle.std.proofs.lemmas.List.{append-nil}
use Rattle.std.specs.Prelude.{unwrap_or}
use Rattle.std.specs.Str.{bytes_eq}
use Rattle.som_model.specs.declared.key.Module.{Module}
use Rattle.som_model.specs.declared.key.Module.TheVariants as modules
use Rattle.som_model.specs.declared.key.ClassKey.{ClassKey}
use Rattle.som_model.specs.declared.key.ClassKey.TheVariants as keys
use Rattle.som_model.specs.Lists.{Mem, doubles, every, find, first, firsts, joined, option_list, place_from, some}
use Rattle.som_model.specs.Keys.{same_key}
use Rattle.som_model.specs.Hierarchy.{Falls, Tells}
use Rattle.som_model.specs.Ancestors.{Descends, anc_within, by_parent, itself}
use Rattle.som_model.specs.Class.{Class, bare, class_in}
use Rattle.som_model.specs.Classes.{ancestors, class_at, hierarchy, is_a, parents_in, place_of}
use Rattle.som_model.specs.Conforming.{each_after}
use Rattle.som_model.specs.Kernel.{class_face, kernel, object_face, som_class, som_object}
use Rattle.som_model.specs.Rules.{breach, demand, introduced_by, name_of, s2, s4, s8}
use Rattle.som_model.proofs.KeyLaws.{exact_keys}
use Rattle.som_model.proofs.NamedLaws.{height_named, hierarchy_parents, hierarchy_same, parents_named}
use Rattle.som_model_laws.proofs.Laws as plain
use Rattle.som_model_laws.proofs.Members.{find_first, map_on, mem_left, mem_right, mem_split}
use Rattle.som_model_laws.proofs.Lists.{every_mem}
use Rattle.som_verify_classes.specs.Modules.{AreDeclared, module_of}
use Rattle.som_verify_classes.specs.Plainly.{IsAmong}
use Rattle.som_verify_classes.proofs.Before.{demanded, none_both}
use Rattle.som_verify_classes.proofs.Owners.{mem_middle}
use Rattle.som_verify_classes.proofs.PlainLists.{says_each, each_says}
use Rattle.som_verify_classes.proofs.PlainNames.{among_known, known_among}

-- each parent and metaclass of these classes is among them
pub record AreClosed (cs : List Class) : Type 0 where
  pub by : (c : Class) → Mem c cs → (k : ClassKey) → Mem k (c.decl.face.parents ++ option_list c.decl.face.metaclass) → IsAmong cs k

among_more : (cs ys : List Class) (k : ClassKey) → IsAmong cs k → IsAmong (cs ++ ys) k
among_more cs ys k a = record { class = a.class; there = mem_left a.class cs ys a.there; named = a.named }

closed_more : (before cs : List Class) → AreClosed before → first (each_after s2 before cs) ≡ None → AreClosed (before ++ cs)
closed_more before [] h e = subst AreClosed (sym (append-nil before)) h
closed_more before (c ∷ cs) h e =
    let p = none_both (s2 before c) (each_after s2 (before ++ c ∷ []) cs) e in
    let next : AreClosed (before ++ c ∷ []) = record {
      by = λ x m k n. elim (mem_split x before (c ∷ []) m) [
        | inl o ↦ among_more before (c ∷ []) k (h.by x o k n)
        | inr o ↦ among_more before (c ∷ []) k (own c x o p.0 k n)
      ];
    } in
    subst AreClosed (append_assoc before (c ∷ []) cs) (closed_more (before ++ c ∷ []) cs next p.1)
  where
    own : (c x : Class) → Mem x (c ∷ []) → first (s2 before c) ≡ None → (k : ClassKey) → Mem k (x.decl.face.parents ++ option_list x.decl.face.metaclass) → IsAmong before k
    own c x (inl is) e k n =
        known_among before k (every_mem (λ k. is_some (class_at before k)) k (c.decl.face.parents ++ option_list c.decl.face.metaclass) (demanded 2 c _ e)
        (subst (λ (z : Class). Mem k (z.decl.face.parents ++ option_list z.decl.face.metaclass)) is n))
    own c x (inr m) e k n = absurd m

abbrev bases_of : Class → List ClassKey
bases_of c = c.decl.face.parents ++ option_list c.decl.face.metaclass

one_base : (k of : ClassKey) (c : Class) → Mem c kernel → c.key ≡ of → Mem k (of ∷ []) → IsAmong kernel k
one_base k of c m e (inl is) = record { class = c; there = m; named = e ∙ sym is }
one_base k of c m e (inr z) = absurd z

kernel_among : (c : Class) → Mem c kernel → (k : ClassKey) → Mem k (bases_of c) → IsAmong kernel k
kernel_among c (inl e) k n = absurd (subst (λ (z : Class). Mem k (bases_of z)) e n)
kernel_among c (inr (inl e)) k n = one_base k som_object (class_in modules.Kernel (bare object_face)) (inl refl) refl (subst (λ (z : Class). Mem k (bases_of z)) e n)
kernel_among c (inr (inr (inl e))) k n = one_base k som_object (class_in modules.Kernel (bare object_face)) (inl refl) refl (subst (λ (z : Class). Mem k (bases_of z)) e n)
kernel_among c (inr (inr (inr (inl e)))) k n = one_base k som_class (class_in modules.Kernel (bare class_face)) (inr (inl refl)) refl (subst (λ (z : Class). Mem k (bases_of z)) e n)
kernel_among c (inr (inr (inr (inr z)))) k n = absurd z

-- the classes of a base, after the kernel's
pub base_closed : (bs : List Class) → first (each_after s2 kernel bs) ≡ None → AreClosed (kernel ++ bs)
base_closed bs e = closed_more kernel bs (record { by = kernel_among }) e

found_more : {A : Type 0} (test : A → Bool) (xs ys : List A) (a : A) → find test xs ≡ Some a → find test (xs ++ ys) ≡ Some a
found_more test [] ys a e = absurd (cc)
found_more test (x ∷ xs) ys a e = by (test x) (found_more test xs ys a) e
  where
    by : (b : Bool) → (find test xs ≡ Some a → find test (xs ++ ys) ≡ Some a) → (if b then Some x else find test xs) ≡ Some a → (if b then Some x else find test (xs ++ ys)) ≡ Some a
    by true f e = e
    by false f e = f e

placed_more : (n : ℕ) (test : Class → Bool) (xs ys : List Class) (a : Class) → find test xs ≡ Some a → place_from n test (xs ++ ys) ≡ place_from n test xs
placed_more n test [] ys a e = absurd (cc)
placed_more n test (x ∷ xs) ys a e = by (test x) (placed_more (suc n) test xs ys a) e
  where
    by : (b : Bool) → (find test xs ≡ Some a → place_from (suc n) test (xs ++ ys) ≡ place_from (suc n) test xs) → (if b then Some x else find test xs) ≡ Some a
        → (if b then Some n else place_from (suc n) test (xs ++ ys)) ≡ (if b then Some n else place_from (suc n) test xs)
    by true f e = refl
    by false f e = f e

found_in : (o : Option Class) → is_some o ≡ true → (c : Class) × (o ≡ Some c)
found_in None e = absurd (cc)
found_in (Some c) e = (c, refl)

found_there : (cs : List Class) (k : ClassKey) (c : Class) → class_at cs k ≡ Some c → Mem c cs
found_there cs k c e = let r = find_first (λ (z : Class). same_key z.key k) cs c e in mem_middle cs r.before r.after c r.parts

flat_on : {A B : Type 0} (f g : A → List B) (xs : List A) → ((a : A) → Mem a xs → f a ≡ g a) → flat_map f xs ≡ flat_map g xs
flat_on f g [] h = refl
flat_on f g (x ∷ xs) h = ap (λ z. z ++ flat_map f xs) (h x (inl refl)) ∙ ap (λ z. g x ++ z) (flat_on f g xs (λ a m. h a (inr m)))

-- classes whose parents and metaclasses are among them, and more classes after them
module _ (fs ys : List Class) (declared : AreDeclared fs) (closed : AreClosed fs) where
  found : (k : ClassKey) → IsAmong fs k → (c : Class) × (class_at fs k ≡ Some c)
  found k a = found_in (class_at fs k) (among_known fs k a)

  named : (k : ClassKey) → IsAmong fs k → (m : Module) × (x : List ℕ) × (k ≡ keys.Named m x)
  named k a = (module_of a.class, name_of a.class, sym a.named ∙ declared.by a.class a.there)

  parents_are : (cs : List Class) (k : ClassKey) (m : Module) (x : List ℕ) → k ≡ keys.Named m x → (hierarchy cs).parents k ≡ parents_in (class_at cs k)
  parents_are cs k m x e = subst (λ z. (hierarchy cs).parents z ≡ parents_in (class_at cs z)) (sym e) (hierarchy_parents cs (keys.Named m x) ∙ parents_named cs m x)

  parent_among : (k q : ClassKey) → IsAmong fs k → Mem q ((hierarchy fs).parents k) → IsAmong fs q
  parent_among k q a m =
      let n = named k a in
      let c = found k a in
      let here : (hierarchy fs).parents k ≡ c.0.decl.face.parents = parents_are fs k n.0 n.1 n.2 ∙ ap parents_in c.1 in
      closed.by c.0 (found_there fs k c.0 c.1) q (mem_left q c.0.decl.face.parents (option_list c.0.decl.face.metaclass) (subst (λ z. Mem q z) here m))

  parents_kept : (k : ClassKey) → IsAmong fs k → (hierarchy (fs ++ ys)).parents k ≡ (hierarchy fs).parents k
  parents_kept k a =
      let n = named k a in
      let c = found k a in
      parents_are (fs ++ ys) k n.0 n.1 n.2
      ∙ ap parents_in (found_more (λ (z : Class). same_key z.key k) fs ys c.0 c.1 ∙ sym c.1)
      ∙ sym (parents_are fs k n.0 n.1 n.2)

  height_kept : (k : ClassKey) → IsAmong fs k → (hierarchy (fs ++ ys)).height k ≡ (hierarchy fs).height k
  height_kept k a =
      let n = named k a in
      let c = found k a in
      let placed : place_of 1 (fs ++ ys) k ≡ place_of 1 fs k = ap (λ o. unwrap_or o 0) (placed_more 1 (λ (z : Class). same_key z.key k) fs ys c.0 c.1) in
      ap (hierarchy (fs ++ ys)).height n.2 ∙ height_named (fs ++ ys) n.0 n.1
      ∙ subst (λ z. place_of 1 (fs ++ ys) z ≡ place_of 1 fs z) n.2 placed
      ∙ sym (height_named fs n.0 n.1) ∙ sym (ap (hierarchy fs).height n.2)

  step_kept : (n : ℕ) (k : ClassKey) (ps qs : List ClassKey) → ps ≡ qs → ((q : ClassKey) → Mem q qs → anc_within (hierarchy (fs ++ ys)) n q ≡ anc_within (hierarchy fs) n q)
      → firsts same_key (k ∷ joined (map (anc_within (hierarchy (fs ++ ys)) n) ps)) ≡ firsts same_key (k ∷ joined (map (anc_within (hierarchy fs) n) qs))
  step_kept n k ps qs e h =
      ap (λ z. firsts same_key (k ∷ joined (map (anc_within (hierarchy (fs ++ ys)) n) z))) e
      ∙ ap (λ z. firsts same_key (k ∷ joined z)) (map_on (anc_within (hierarchy (fs ++ ys)) n) (anc_within (hierarchy fs) n) qs h)

  firsts_are : (cs : List Class) (n : ℕ) (k : ClassKey) → anc_within (hierarchy cs) (suc n) k ≡ firsts same_key (k ∷ joined (map (anc_within (hierarchy cs) n) ((hierarchy cs).parents k)))
  unfolding hierarchy
  firsts_are cs n k = refl

  within_kept : (n : ℕ) (k : ClassKey) → IsAmong fs k → anc_within (hierarchy (fs ++ ys)) n k ≡ anc_within (hierarchy fs) n k
  within_kept zero k a = refl
  within_kept (suc n) k a =
      firsts_are (fs ++ ys) n k
      ∙ step_kept n k ((hierarchy (fs ++ ys)).parents k) ((hierarchy fs).parents k) (parents_kept k a) (λ q m. within_kept n q (parent_among k q a m))
      ∙ sym (firsts_are fs n k)

  pub ancestors_kept : (k : ClassKey) → IsAmong fs k → ancestors (fs ++ ys) k ≡ ancestors fs k
  ancestors_kept k a = ap (λ n. anc_within (hierarchy (fs ++ ys)) n k) (height_kept k a) ∙ within_kept ((hierarchy fs).height k) k a

  member_is : (cs : List Class) (k a : ClassKey) → is_a cs k a ≡ some (same_key a) (ancestors cs k)
  unfolding hierarchy
  member_is cs k a = refl

  descent_kept : (k a : ClassKey) → IsAmong fs k → is_a (fs ++ ys) k a ≡ is_a fs k a
  descent_kept k a am = member_is (fs ++ ys) k a ∙ ap (some (same_key a)) (ancestors_kept k am) ∙ sym (member_is fs k a)

  ancestor_among : {k a : ClassKey} → Descends (hierarchy fs) k a → IsAmong fs k → IsAmong fs a
  ancestor_among itself am = am
  ancestor_among {k} (by_parent p m d) am = ancestor_among d (parent_among k p am m)

  introduced_kept : (k : ClassKey) → IsAmong fs k → introduced_by (fs ++ ys) k ≡ introduced_by fs k
  introduced_kept k a =
      let c = found k a in
      let more = found_more (λ (z : Class). same_key z.key k) fs ys c.0 c.1 in
      let here = c.1 in
      rw (more, here) refl

  tells : Tells (hierarchy fs)
  tells = record {
    one = λ x. hierarchy_same fs x x ∙ exact_keys.one x;
    two = λ x y e. exact_keys.two x y (sym (hierarchy_same fs x y) ∙ e);
  }

  class_among : (c : Class) → Mem c fs → IsAmong fs c.key
  class_among c m = record { class = c; there = m; named = refl }

  -- S4
  metaclass_kept : (ms : List ClassKey) → ((k : ClassKey) → Mem k ms → IsAmong fs k) → every (λ k. is_a (fs ++ ys) k som_class) ms ≡ every (λ k. is_a fs k som_class) ms
  metaclass_kept [] h = refl
  metaclass_kept (k ∷ ms) h =
      ap (λ b. if b then every (λ k. is_a (fs ++ ys) k som_class) ms else false) (descent_kept k som_class (h k (inl refl)))
      ∙ ap (λ b. if is_a fs k som_class then b else false) (metaclass_kept ms (λ q m. h q (inr m)))

  s4_kept : (c : Class) → Mem c fs → s4 (fs ++ ys) c ≡ s4 fs c
  s4_kept c m = ap (demand 4 c)
      (metaclass_kept (option_list c.decl.face.metaclass) (λ k n. closed.by c m k (mem_right k c.decl.face.parents (option_list c.decl.face.metaclass) n)))

  -- S8
  s8_kept : Falls (hierarchy fs) → (c : Class) → Mem c fs → s8 (fs ++ ys) c ≡ s8 fs c
  s8_kept falls c m =
      let own = class_among c m in
      ap (λ list. map (breach 8 c) (doubles bytes_eq [] (flat_map (introduced_by (fs ++ ys)) list))) (ancestors_kept c.key own)
      ∙ ap (λ names. map (breach 8 c) (doubles bytes_eq [] names))
      (flat_on (introduced_by (fs ++ ys)) (introduced_by fs) (ancestors fs c.key) (λ a n. introduced_kept a (ancestor_among ((plain.ancestors (hierarchy fs) tells falls c.key a).0 n) own)))

  -- the rules S4 and S8 of these classes
  pub s4_more : (cs : List Class) → ((c : Class) → Mem c cs → Mem c fs) → first (flat_map (s4 fs) cs) ≡ None → first (flat_map (s4 (fs ++ ys)) cs) ≡ None
  s4_more cs among e = says_each (s4 (fs ++ ys)) cs (λ c m. ap first (s4_kept c (among c m)) ∙ each_says (s4 fs) cs e c m)

  pub s8_more : Falls (hierarchy fs) → (cs : List Class) → ((c : Class) → Mem c cs → Mem c fs) → first (flat_map (s8 fs) cs) ≡ None → first (flat_map (s8 (fs ++ ys)) cs) ≡ None
  s8_more falls cs among e = says_each (s8 (fs ++ ys)) cs (λ c m. ap first (s8_kept falls c (among c m)) ∙ each_says (s8 fs) cs e c m)
