-- The ancestors of a class that is made are made, so names are found along them.
use Rattle.std.proofs.Common.{◌≡◌, ℕ, inl, inr, Bool, true, false, if◌then◌else◌, List, [], ◌∷◌, filter, map, Some, refl, sym, ap, ◌∙◌, subst, arith}
use Rattle.std.specs.Option.{option_map_or}
use Rattle.som_model.specs.declared.key.ClassKey.{ClassKey}
use Rattle.som_model.specs.Lists.{Mem}
use Rattle.som_model.specs.Ancestors.{Descends, itself, by_parent}
use Rattle.som_model.specs.Hierarchy.{Falls, Hierarchy, Tells}
use Rattle.som_model.specs.Class.{Class}
use Rattle.som_model.specs.Classes.{ancestors, hierarchy, is_a, parents_of}
use Rattle.som_model.specs.Implementation.{implementation}
use Rattle.som_model.specs.Kernel.{before_after}
use Rattle.som_model.specs.Made.{parent}
use Rattle.som_model.proofs.NamedLaws.{hierarchy_parents}
use Rattle.som_model_laws.proofs.Laws.{ancestors as descents}
use Rattle.som_model_laws.proofs.Lists.{mem_map}
use Rattle.som_model_laws.proofs.Standing as standing
use Rattle.som_model.specs.Metaclass.{hooks}
use Rattle.som_hooks.specs.Hooks.{is_hook}
use Rattle.som_meta.specs.Numbering.{AreNumbered, IsNumbered, IsToken, Numbering, key_at, method_at}
use Rattle.som_class_ids.proofs.Declaring.{at_mem, mem_at}
use Rattle.som_names.specs.declared.named.Named.{Named}
use Rattle.som_names.specs.Index.{ancestors_at}
use Rattle.som_class_loaded.specs.Added.{HasClass, HasClasses}
use Rattle.som_class_table.specs.Loaded.{AreLoaded}
use Rattle.som_class_load_order.proofs.Choosing.{all_mem}
use Rattle.som_class_table.specs.Making.{IsNeedOf}
use Rattle.som_class_kernel.specs.Linked.{IsLinked, IsMadeIn, Linkage}
use Rattle.som_class_loaded.proofs.Marks.{within_marks}
use Rattle.som_class_kernel.proofs.Holding.{answers_above}

filter_mem : {A : Type 0} (test : A → Bool) (x : A) (xs : List A) → Mem x (filter test xs) → Mem x xs
filter_mem test x [] m = m
filter_mem test x (y ∷ ys) m = by (test y) (filter_mem test x ys) m
  where
    by : (b : Bool) → (Mem x (filter test ys) → Mem x ys) → Mem x (if b then y ∷ filter test ys else filter test ys) → Mem x (y ∷ ys)
    by true later (inl e) = inl e
    by true later (inr n) = inr (later n)
    by false later n = inr (later n)

-- a hook is an ancestor
hook_above : (cs : List Class) (m x : ClassKey) → Mem x (hooks cs m) → Mem x (ancestors cs m)
hook_above cs m x = by (is_a cs m before_after)
  where
    by : (b : Bool) → Mem x (if b then filter (is_hook cs) (ancestors cs m) else []) → Mem x (ancestors cs m)
    by true n = filter_mem (is_hook cs) x (ancestors cs m) n
    by false n = absurd n

module _ (l : Linkage) (linked : IsLinked l) (loaded : AreLoaded l.classes) where
  abbrev k : Numbering
  k = l.classes

  abbrev h : Hierarchy ClassKey
  h = hierarchy k.classes

  falls : Falls h
  falls = subst (λ (z : List Class). Falls (hierarchy z)) (sym loaded.is) (standing.falls loaded.others loaded.loads.faces.ordered)

  tells : Tells h
  tells = subst (λ (z : List Class). Tells (hierarchy z)) (sym loaded.is) (standing.tells loaded.others loaded.loads.faces.ordered)

  -- a class that is made has a number
  pub number : (n : ℕ) → IsMadeIn l n → IsNumbered k n
  number n made = (let lt = within_marks l.parts.made n made in omega (arith, lt, linked.are.marks))

  made_above : (x a : ClassKey) → Descends h x a → (n : ℕ) → IsMadeIn l n → key_at k n ≡ x → (m : ℕ) × IsMadeIn l m × (key_at k m ≡ a)
  made_above x a itself n made e = (n, made, e)
  made_above x a (by_parent p mem d) n made e =
      let above : Mem p (parents_of k.classes (key_at k n)) = subst (λ z. Mem p (parents_of k.classes z)) (sym e) (subst (λ z. Mem p z) (hierarchy_parents k.classes x) mem) in
      let there = (linked.numbered p).1 (parent (key_at k n) p ((linked.numbered (key_at k n)).0 (at_mem k.keys n (number n made))) above) in
      let r = mem_at k.keys p there in
      let need : IsNeedOf k n r.0 = (r.1, inl (subst (λ z. Mem z (parents_of k.classes (key_at k n))) (sym r.2) above)) in
      made_above p a d r.0 (linked.closed n r.0 made need) r.2

  -- an ancestor of a class that is made is made
  pub ancestor_made : (n a : ℕ) → IsMadeIn l n → IsNumbered k a → Descends h (key_at k n) (key_at k a) → IsMadeIn l a
  ancestor_made n a made num d =
      let r = made_above (key_at k n) (key_at k a) d n made refl in
      subst (IsMadeIn l) (loaded.apart r.0 a (number r.0 r.1) num r.2) r.1

  -- so are its parents
  pub parents_made : (n : ℕ) (ps : List ℕ) → map (key_at k) ps ≡ h.parents (key_at k n) → (p : ℕ) → Mem p ps → IsNumbered k p → IsMadeIn l n → IsMadeIn l p
  parents_made n ps e p m num made = ancestor_made n p made num (by_parent (key_at k p) (subst (λ z. Mem (key_at k p) z) e (mem_map (key_at k) p ps m)) itself)

  -- and the class that answers for a method
  pub answer_made : (n a : ℕ) (t : ℕ × ℕ) → IsMadeIn l n → IsNumbered k a → IsToken k t → implementation k.classes (key_at k n) (method_at k t) ≡ Some (key_at k a) → IsMadeIn l a
  answer_made n a t made num is e = ancestor_made n a made num (answers_above k loaded t is (key_at k n) (key_at k a) e)

  -- and the hooks of a metaclass
  pub hooks_made : (n : ℕ) (ns : List ℕ) → AreNumbered k ns → map (key_at k) ns ≡ hooks k.classes (key_at k n) → IsMadeIn l n → (a : ℕ) → Mem a ns → IsMadeIn l a
  hooks_made n ns nums e made a m =
      let among = hook_above k.classes (key_at k n) (key_at k a) (subst (λ z. Mem (key_at k a) z) e (mem_map (key_at k) a ns m)) in
      ancestor_made n a made (all_mem (IsNumbered k) ns a nums m) ((descents h tells falls (key_at k n) (key_at k a)).0 among)

  module _ (n : ℕ) (made : IsMadeIn l n) where
    abbrev has : HasClass k l.parts.names n
    has = (linked.are.whole n made).names

    listed : map (key_at k) (ancestors_at l.parts.names n) ≡ ancestors k.classes (key_at k n)
    listed = ap (λ o. map (key_at k) (option_map_or (λ (e : Named). e.ancestors) o [])) has.there ∙ has.ancestors

    has_above : (a : ℕ) → Mem a (ancestors_at l.parts.names n) → HasClass k l.parts.names a
    has_above a m =
        let number_a = all_mem (IsNumbered k) (ancestors_at l.parts.names n) a (linked.are.whole n made).above m in
        let among : Mem (key_at k a) (ancestors k.classes (key_at k n)) = subst (λ z. Mem (key_at k a) z) listed (mem_map (key_at k) a (ancestors_at l.parts.names n) m) in
        let r = made_above (key_at k n) (key_at k a) ((descents h tells falls (key_at k n) (key_at k a)).0 among) n made refl in
        let same : r.0 ≡ a = loaded.apart r.0 a (number r.0 r.1) number_a r.2 in
        subst (HasClass k l.parts.names) same (linked.are.whole r.0 r.1).names

    pub has_classes : HasClasses k l.parts.names n
    has_classes = record { own = has; above = has_above }
