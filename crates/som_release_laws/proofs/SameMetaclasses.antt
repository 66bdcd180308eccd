-- Classes that stand before others have among them the metaclasses that they have alone.
use Rattle.std.proofs.Common.{◌≡◌, ℕ, zero, suc, inl, inr, Bool, true, false, not, ◌&&◌, if◌then◌else◌, List, [], ◌∷◌, ◌++◌, map, Option, Some, refl, sym, ap, ◌∙◌, subst}
use Rattle.som_model.specs.declared.key.ClassKey.{ClassKey, out-ClassKey, out-roll-ClassKey}
use Rattle.som_model.specs.declared.key.ClassKey.TheOpen.{ClassKey-F}
use Rattle.som_model.specs.declared.key.ClassKey.TheVariants as keys
use Rattle.som_model.specs.declared.key.ClassKey.TheVariants.{rolls-Derived}
use Rattle.som_model.specs.Lists.{Mem, firsts, without}
use Rattle.som_model.specs.Keys.{same_key}
use Rattle.som_model.specs.Ancestors.{Descends, itself, by_parent}
use Rattle.som_model.specs.Class.{Class}
use Rattle.som_model.specs.Classes.{class_at, hierarchy, is_a, parents_of}
use Rattle.som_model.specs.Kernel.{kernel, som_class}
use Rattle.som_model.specs.Metaclass.{is_above, is_low, lowest, meta, meta_within}
use Rattle.som_model.specs.Loads.{IsOrdered}
use Rattle.som_model.proofs.NamedLaws.{hierarchy_parents}
use Rattle.som_model_laws.proofs.Lists.{map_mem, option_mem}
use Rattle.som_model_laws.proofs.Members.{both_or_none, firsts_mem, map_on, mem_left, mem_split, some_on, without_mem}
use Rattle.som_model_laws.proofs.Metas.{declared_in, kernel_low, low_kernel, made}
use Rattle.som_model_laws.proofs.Owners.{metaclass_known}
use Rattle.som_model_laws.proofs.Standing.{found, found_is, parents_derived, parents_known, stands}
use Rattle.som_release_laws.proofs.Facing.{tested, tests}
use Rattle.som_release_laws.proofs.Prefix.{descends_less, descends_more, height_same, known_more, ordered}

without_on : {A : Type 0} (f g : A → Bool) (xs : List A) → ((a : A) → Mem a xs → f a ≡ g a) → without f xs ≡ without g xs
without_on f g [] e = refl
without_on {A} f g (x ∷ xs) e =
    ap (λ (b : Bool). if b then without f xs else x ∷ without f xs) (e x (inl refl))
    ∙ ap (λ (zs : List A). if g x then zs else x ∷ zs) (without_on f g xs (λ a m. e a (inr m)))

module _ (xs ys : List Class) (o : IsOrdered (xs ++ ys)) where
  abbrev S : List Class
  S = kernel ++ xs

  abbrev L : List Class
  L = kernel ++ (xs ++ ys)

  abbrev os : IsOrdered xs
  os = ordered xs ys o

  -- what the class of a key descends from among all, it descends from alone
  abbrev GoesBack : ClassKey → Type 0
  GoesBack x = (y : ClassKey) → Descends (hierarchy L) x y → Descends (hierarchy S) x y

  known_back : (x : ClassKey) (c : Class) → class_at S x ≡ Some c → GoesBack x
  known_back x c e = λ y d. descends_less xs ys o x y c e d

  kernel_back : (c : Class) (k : ClassKey) → Mem c kernel → c.key ≡ k → GoesBack k
  kernel_back c k m e = known_back k c (found xs os c k (mem_left c kernel xs m) e)

  derived_by : (x : ClassKey) (ks : List ClassKey) → out-ClassKey x ≡ ClassKey-F.Derived ks → ((k : ClassKey) → Mem k ks → GoesBack k) → (y : ClassKey) → Descends (hierarchy L) x y → Descends (hierarchy S) x y
  derived_by x ks is g y itself = itself
  derived_by x ks is g y (by_parent p m d) =
      let here : Mem p ks = subst (λ z. Mem p z) (parents_derived (xs ++ ys) o x ks is) m in
      by_parent p (subst (λ z. Mem p z) (sym (parents_derived xs os x ks is)) here) (g p here y d)

  derived_back : (ks : List ClassKey) → ((k : ClassKey) → Mem k ks → GoesBack k) → GoesBack (keys.Derived ks)
  derived_back ks g = derived_by (keys.Derived ks) ks (ap out-ClassKey (sym (rolls-Derived ks)) ∙ out-roll-ClassKey (ClassKey-F.Derived ks)) g

  made_back : (ks : List ClassKey) → ((k : ClassKey) → Mem k ks → GoesBack k) → GoesBack (made ks)
  made_back [] g = derived_back [] g
  made_back (k ∷ []) g = g k (inl refl)
  made_back (k ∷ l ∷ ks) g = derived_back (k ∷ l ∷ ks) g

  is_a_same : (x k : ClassKey) → GoesBack x → is_a L x k ≡ is_a S x k
  is_a_same x k g = both_or_none (is_a L x k) (is_a S x k)
      (λ t. tests xs os x k (g k (tested (xs ++ ys) o x k t)))
      (λ t. tests (xs ++ ys) o x k (descends_more xs ys o x k (tested xs os x k t)))

  lowest_same : (ks : List ClassKey) → ((k : ClassKey) → Mem k ks → GoesBack k) → lowest L ks ≡ lowest S ks
  lowest_same ks g = without_on (is_above L ks) (is_above S ks) ks (λ k m.
      some_on (λ x. not (same_key x k) && is_a L x k) (λ x. not (same_key x k) && is_a S x k) ks (λ x n. ap (λ (b : Bool). not (same_key x k) && b) (is_a_same x k (g x n))))

  low_same : (k : ClassKey) (c : Class) → class_at S k ≡ Some c → is_low L k ≡ is_low S k
  low_same k c e = both_or_none (is_low L k) (is_low S k)
      (λ t. kernel_low xs os c k (low_kernel (xs ++ ys) o k c (known_more xs ys o k c e) t) (found_is xs os k c e).1)
      (λ t. kernel_low (xs ++ ys) o c k (low_kernel xs os k c e t) (found_is xs os k c e).1)

  -- what a metaclass is made of
  abbrev within : List Class → ℕ → ClassKey → List ClassKey
  within cs n k = firsts same_key (declared_in (class_at cs k) ++ map (meta_within cs n) (parents_of cs k))

  abbrev IsSame : ℕ → ClassKey → Type 0
  IsSame n k = (meta_within L n k ≡ meta_within S n k) × ((y : ClassKey) → Descends (hierarchy L) (meta_within S n k) y → Descends (hierarchy S) (meta_within S n k) y)

  either_back : (b : Bool) (x y : ClassKey) → GoesBack x → GoesBack y → GoesBack (if b then x else y)
  either_back true x y f g = f
  either_back false x y f g = g

  module _ (n : ℕ) (again : (p : ClassKey) (d : Class) → class_at S p ≡ Some d → IsSame n p) (k : ClassKey) (c : Class) (e : class_at S k ≡ Some c) where
    -- the declared metaclass and those of the parents
    abbrev low : List ClassKey
    low = firsts same_key (declared_in (Some c) ++ map (meta_within S n) c.decl.face.parents)

    one_list : (cs : List Class) → class_at cs k ≡ Some c → parents_of cs k ≡ c.decl.face.parents
        → map (meta_within cs n) c.decl.face.parents ≡ map (meta_within S n) c.decl.face.parents → within cs n k ≡ low
    one_list cs f g h =
        ap (λ (q : Option Class). firsts same_key (declared_in q ++ map (meta_within cs n) (parents_of cs k))) f
        ∙ ap (λ (ps : List ClassKey). firsts same_key (declared_in (Some c) ++ map (meta_within cs n) ps)) g
        ∙ ap (λ (ms : List ClassKey). firsts same_key (declared_in (Some c) ++ ms)) h

    of_parent : (p : ClassKey) → Mem p c.decl.face.parents → IsSame n p
    of_parent p m = let d = stands xs os k c p e m in again p d.0 d.1

    small : within S n k ≡ low
    small = one_list S e (sym (hierarchy_parents S k) ∙ parents_known xs os k c e) refl

    large : within L n k ≡ low
    large = one_list L (known_more xs ys o k c e) (sym (hierarchy_parents L k) ∙ parents_known (xs ++ ys) o k c (known_more xs ys o k c e))
        (map_on (meta_within L n) (meta_within S n) c.decl.face.parents (λ p m. (of_parent p m).0))

    low_back : (m : ClassKey) → Mem m low → GoesBack m
    low_back m i =
        elim (mem_split m (declared_in (Some c)) (map (meta_within S n) c.decl.face.parents) (firsts_mem same_key m (declared_in (Some c) ++ map (meta_within S n) c.decl.face.parents) i)) [
          | inl a ↦ (let d = metaclass_known xs os k c m e (option_mem c.decl.face.metaclass m a) in known_back m d.0 d.1)
          | inr b ↦ (let p = map_mem (meta_within S n) m c.decl.face.parents b in subst (λ (z : ClassKey). (y : ClassKey) → Descends (hierarchy L) z y → Descends (hierarchy S) z y) (sym p.2) (of_parent p.0 p.1).1)
        ]

    one_more : IsSame (suc n) k
    one_more = (
      ap (λ (b : Bool). if b then som_class else made (lowest L (within L n k))) (low_same k c e)
          ∙ ap (λ (ks : List ClassKey). if is_low S k then som_class else made (lowest L ks)) large
          ∙ ap (λ (ks : List ClassKey). if is_low S k then som_class else made ks) (lowest_same low low_back)
          ∙ ap (λ (ks : List ClassKey). if is_low S k then som_class else made (lowest S ks)) (sym small),
      either_back (is_low S k) som_class (made (lowest S (within S n k))) (kernel_back _ som_class (inr (inl refl)) refl)
          (made_back (lowest S (within S n k)) (λ m i. low_back m (subst (λ (z : List ClassKey). Mem m z) small (without_mem (is_above S (within S n k)) m (within S n k) i)))),
    )

  metas_same : (n : ℕ) (k : ClassKey) (c : Class) → class_at S k ≡ Some c → IsSame n k
  metas_same zero k c e = (refl, kernel_back _ som_class (inr (inl refl)) refl)
  metas_same (suc n) k c e = one_more n (λ p d f. metas_same n p d f) k c e

  pub meta_same : (k : ClassKey) (c : Class) → class_at S k ≡ Some c → meta L k ≡ meta S k
  meta_same k c e = ap (λ n. meta_within L n k) (height_same xs ys o k c e) ∙ (metas_same ((hierarchy S).height k) k c e).0
