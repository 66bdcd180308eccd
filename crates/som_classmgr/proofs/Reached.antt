-- Which classes are made after calls that reach for some.
use Rattle.std.proofs.Common.{◌≡◌, ◌↔◌, ◌⊎◌, ℕ, zero, suc, ◌<◌, inl, inr, List, [], ◌∷◌, ◌++◌, append-nil, OnErr, OnOk, Result, Ok, Err, Some, slice_get, refl, sym, ap, ◌∙◌, subst, arith}
use Rattle.som_model.specs.declared.key.ClassKey.{ClassKey}
use Rattle.som_model.specs.Lists.{Mem}
use Rattle.som_model.specs.Class.{Class}
use Rattle.som_model.specs.Classes.{parents_of}
use Rattle.som_model.specs.Kernel.{kernel}
use Rattle.som_model.specs.Loads.{keys_of}
use Rattle.som_model.specs.Made.{ComesOf, root, parent, metaclass}
use Rattle.som_model.specs.Made as made
use Rattle.som_model.specs.Metaclass.{meta}
use Rattle.som_model_laws.proofs.Members.{mem_left, mem_right, mem_split}
use Rattle.som_model_laws.proofs.Lists.{get_mem, map_mem, mem_get, mem_map}
use Rattle.som_model_laws.proofs.Metas.{in_four}
use Rattle.som_meta.specs.Numbering.{IsNumbered, Numbering, key_at}
use Rattle.som_class_ids.proofs.Declaring.{at_mem, mem_at}
use Rattle.som_class_table.specs.Loaded.{AreLoaded}
use Rattle.som_class_load_order.proofs.Closing.{comes_by}
use Rattle.som_class_table.specs.Making.{IsNeedOf}
use Rattle.som_class_loaded.specs.Made.{IsReached, KeepsMade}
use Rattle.som_class_kernel.specs.Linked.{IsLinked, IsMadeIn, Linkage}
use Rattle.som_classmgr.specs.Reached.{IsMadeBy}
use Rattle.som_class_loaded.proofs.Marks.{within_marks}

pub ok_then : {T E : Type 0} (r : Result T E) {A B : Type 0} → (A → B) → OnOk r A → OnOk r B
ok_then (Ok x) f a = f a
ok_then (Err e) f a = tt

pub err_then : {T E : Type 0} (r : Result T E) {B : Type 0} → B → OnErr r B
err_then (Ok x) b = tt
err_then (Err e) b = b

-- what comes of some classes and others comes of one of both
comes_split : (cs : List Class) (rs ss both : List ClassKey) → ((x : ClassKey) → Mem x both → Mem x rs ⊎ Mem x ss) → (x : ClassKey) → ComesOf cs both x → ComesOf cs rs x ⊎ ComesOf cs ss x
comes_split cs rs ss both f x (root y m) = elim (f y m) [ inl r ↦ inl (root y r) | inr s ↦ inr (root y s) ]
comes_split cs rs ss both f x (parent y p d m) = elim (comes_split cs rs ss both f y d) [ inl r ↦ inl (parent y p r m) | inr s ↦ inr (parent y p s m) ]
comes_split cs rs ss both f x (metaclass y d) = elim (comes_split cs rs ss both f y d) [ inl r ↦ inl (metaclass y r) | inr s ↦ inr (metaclass y s) ]

four_class : (n : ℕ) → n < 4 → (c : Class) × (slice_get kernel n ≡ Some c)
four_class zero lt = (_, refl)
four_class (suc zero) lt = (_, refl)
four_class (suc (suc zero)) lt = (_, refl)
four_class (suc (suc (suc zero))) lt = (_, refl)
four_class (suc (suc (suc (suc n)))) lt = absurd (omega (arith, lt))

module _ (l : Linkage) (linked : IsLinked l) where
  abbrev k : Numbering
  k = l.classes

  abbrev IsThere : ClassKey → Type 0
  IsThere x = (n : ℕ) × IsMadeIn l n × (key_at k n ≡ x)

  pub number : (n : ℕ) → IsMadeIn l n → IsNumbered k n
  number n im = (let lt = within_marks l.parts.made n im in omega (arith, lt, linked.are.marks))

  -- what a made class is made of has a number
  numbered : (n : ℕ) → IsMadeIn l n → (y : ClassKey) → ((x : ClassKey) → made.IsMade k.classes l.main x → x ≡ key_at k n → made.IsMade k.classes l.main y) → (m : ℕ) × IsNumbered k m × (key_at k m ≡ y)
  numbered n im y f = mem_at k.keys y ((linked.numbered y).1 (f (key_at k n) ((linked.numbered (key_at k n)).0 (at_mem k.keys n (number n im))) refl))

  -- what comes of made classes is made
  pub comes_there : (roots : List ClassKey) → ((x : ClassKey) → Mem x roots → IsThere x) → (x : ClassKey) → ComesOf k.classes roots x → IsThere x
  comes_there roots f x (root y m) = f y m
  comes_there roots f x (parent y p d m) =
      let t = comes_there roots f y d in
      let at : Mem p (parents_of k.classes (key_at k t.0)) = subst (λ z. Mem p (parents_of k.classes z)) (sym t.2) m in
      let r = numbered t.0 t.1 p (λ x g e. parent x p g (subst (λ z. Mem p (parents_of k.classes z)) (sym e) at)) in
      let need : IsNeedOf k t.0 r.0 = (r.1, inl (subst (λ z. Mem z (parents_of k.classes (key_at k t.0))) (sym r.2) at)) in
      (r.0, linked.closed t.0 r.0 t.1 need, r.2)
  comes_there roots f x (metaclass y d) =
      let t = comes_there roots f y d in
      let e : meta k.classes (key_at k t.0) ≡ meta k.classes y = ap (meta k.classes) t.2 in
      let r = numbered t.0 t.1 (meta k.classes y) (λ x g same. subst (made.IsMade k.classes l.main) (ap (meta k.classes) same ∙ e) (metaclass x g)) in
      let need : IsNeedOf k t.0 r.0 = (r.1, inr (r.2 ∙ sym e)) in
      (r.0, linked.closed t.0 r.0 t.1 need, r.2)

  module _ (loaded : AreLoaded l.classes) where
    -- the kernel's classes have the first numbers
    kernel_at : (x : ClassKey) → Mem x (keys_of kernel) → (n : ℕ) × (n < 4) × (key_at k n ≡ x)
    kernel_at x m =
        let c = map_mem (λ (z : Class). z.key) x kernel m in
        let i = mem_get kernel c.0 c.1 in
        let at = in_four loaded.others i.0 c.0 i.1 in
        let there : slice_get k.classes i.0 ≡ Some c.0 = ap (λ (z : List Class). slice_get z i.0) loaded.is ∙ at.1 in
        (i.0, at.0, loaded.first.key i.0 c.0 there ∙ sym c.2)

    kernel_key : (n : ℕ) → n < 4 → Mem (key_at k n) (keys_of kernel)
    kernel_key n lt =
        let c = four_class n lt in
        let at = in_four loaded.others n c.0 c.1 in
        let there : slice_get k.classes n ≡ Some c.0 = ap (λ (z : List Class). slice_get z n) loaded.is ∙ at.1 in
        subst (λ z. Mem z (keys_of kernel)) (sym (loaded.first.key n c.0 there)) (mem_map (λ (z : Class). z.key) c.0 kernel (get_mem kernel n c.0 c.1))

    -- where the kernel's classes alone are made, no other was reached for
    pub first_made : ((n : ℕ) → IsMadeIn l n ↔ (n < 4)) → IsMadeBy [] [] l
    first_made four = record {
      all = λ n num d. (
          let r = comes_there (keys_of kernel ++ []) (λ x m. let a = kernel_at x (subst (λ z. Mem x z) (append-nil (keys_of kernel)) m) in (a.0, (four a.0).1 a.1, a.2)) (key_at k n) d in
          subst (IsMadeIn l) (loaded.apart r.0 n (number r.0 r.1) num r.2) r.1);
      only = λ n im. root (key_at k n) (mem_left (key_at k n) (keys_of kernel) ([] ++ []) (kernel_key n ((four n).0 im)));
    }

-- made are those made before, and those that the next class needs
module _ (old new : Linkage) (same : new.classes ≡ old.classes) (class : ℕ) (reached tried : List ClassKey) (by : IsMadeBy reached tried old) where
  abbrev x : ClassKey
  x = key_at old.classes class

  abbrev OnlyReached : Type 0
  OnlyReached = (n : ℕ) → IsMadeIn new n → IsReached old.classes old.parts.made class n

  abbrev Comes : List ClassKey → ℕ → Type 0
  Comes roots n = ComesOf old.classes.classes roots (key_at old.classes n)

  moved : (P : Numbering → Type 0) → P old.classes → P new.classes
  moved P p = subst P (sym same) p

  -- all that was made, or comes of the next class, comes of more
  comes : (roots : List ClassKey) → ((y : ClassKey) → Mem y (keys_of kernel ++ reached ++ tried) → Mem y roots) → Mem x roots → OnlyReached → (n : ℕ) → IsMadeIn new n → Comes roots n
  comes roots f here only n im = elim (only n im) [
    | inl o ↦ comes_by old.classes.classes (keys_of kernel ++ reached ++ tried) roots f (key_at old.classes n) (by.only n o)
    | inr r ↦ comes_by old.classes.classes (x ∷ []) roots (λ y m. elim m [ inl e ↦ subst (λ z. Mem z roots) (sym e) here | inr z ↦ absurd z ]) (key_at old.classes n) r.1
  ]

  -- where all of that was made, it was reached for
  pub reached_more : KeepsMade old.parts new.parts → ((n : ℕ) → IsReached old.classes old.parts.made class n → IsMadeIn new n) → OnlyReached → IsMadeBy (x ∷ reached) tried new
  reached_more keeps all only = record {
    all = moved (λ (k : Numbering). (n : ℕ) → IsNumbered k n → ComesOf k.classes (keys_of kernel ++ x ∷ reached) (key_at k n) → IsMadeIn new n)
        (λ n num d. elim (comes_split old.classes.classes (keys_of kernel ++ reached) (x ∷ []) (keys_of kernel ++ x ∷ reached) apart (key_at old.classes n) d) [
          | inl o ↦ keeps.made n (by.all n num o)
          | inr h ↦ all n (inr (num, h))
        ]);
    only = moved (λ (k : Numbering). (n : ℕ) → IsMadeIn new n → ComesOf k.classes (keys_of kernel ++ (x ∷ reached) ++ tried) (key_at k n))
        (comes (keys_of kernel ++ (x ∷ reached) ++ tried) within (mem_right x (keys_of kernel) ((x ∷ reached) ++ tried) (inl refl)) only);
  }
    where
      apart : (y : ClassKey) → Mem y (keys_of kernel ++ x ∷ reached) → Mem y (keys_of kernel ++ reached) ⊎ Mem y (x ∷ [])
      apart y m = elim (mem_split y (keys_of kernel) (x ∷ reached) m) [
        | inl o ↦ inl (mem_left y (keys_of kernel) reached o)
        | inr h ↦ elim h [ inl e ↦ inr (inl e) | inr r ↦ inl (mem_right y (keys_of kernel) reached r) ]
      ]

      within : (y : ClassKey) → Mem y (keys_of kernel ++ reached ++ tried) → Mem y (keys_of kernel ++ (x ∷ reached) ++ tried)
      within y m = elim (mem_split y (keys_of kernel) (reached ++ tried) m) [
        | inl o ↦ mem_left y (keys_of kernel) ((x ∷ reached) ++ tried) o
        | inr h ↦ mem_right y (keys_of kernel) ((x ∷ reached) ++ tried) (inr h)
      ]

  -- and where memory ran out, it was tried
  pub tried_more : KeepsMade old.parts new.parts → OnlyReached → IsMadeBy reached (x ∷ tried) new
  tried_more keeps only = record {
    all = moved (λ (k : Numbering). (n : ℕ) → IsNumbered k n → ComesOf k.classes (keys_of kernel ++ reached) (key_at k n) → IsMadeIn new n) (λ n num d. keeps.made n (by.all n num d));
    only = moved (λ (k : Numbering). (n : ℕ) → IsMadeIn new n → ComesOf k.classes (keys_of kernel ++ reached ++ x ∷ tried) (key_at k n))
        (comes (keys_of kernel ++ reached ++ x ∷ tried) within (mem_right x (keys_of kernel) (reached ++ x ∷ tried) (mem_right x reached (x ∷ tried) (inl refl))) only);
  }
    where
      within : (y : ClassKey) → Mem y (keys_of kernel ++ reached ++ tried) → Mem y (keys_of kernel ++ reached ++ x ∷ tried)
      within y m = elim (mem_split y (keys_of kernel) (reached ++ tried) m) [
        | inl o ↦ mem_left y (keys_of kernel) (reached ++ x ∷ tried) o
        | inr h ↦ mem_right y (keys_of kernel) (reached ++ x ∷ tried) (elim (mem_split y reached tried h) [ inl r ↦ mem_left y reached (x ∷ tried) r | inr t ↦ mem_right y reached (x ∷ tried) (inr t) ])
      ]
