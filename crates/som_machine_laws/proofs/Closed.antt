-- Classes that have with each its parents and its metaclass have with each its hooks, and the classes that answer for it.
use Rattle.std.proofs.Common.{◌≡◌, ℕ, inl, inr, Bool, true, false, if◌then◌else◌, List, [], ◌∷◌, ◌++◌, Option, Some, None, slice_get, refl, sym, ap, ◌∙◌, subst}
use Rattle.std.specs.Option.{option_and_then}
use Rattle.som_model.specs.declared.key.ClassKey.{ClassKey}
use Rattle.som_model.specs.declared.key.MethodRef.{MethodRef}
use Rattle.som_model.specs.declared.class.Select.{Select}
use Rattle.som_model.specs.declared.syntax.Block.{Block}
use Rattle.som_model.specs.Lists.{Mem}
use Rattle.som_model.specs.Keys.{same_method}
use Rattle.som_model.specs.Hierarchy.{Hierarchy}
use Rattle.som_model.specs.Ancestors.{Descends, itself, by_parent}
use Rattle.som_model.specs.Resolution.{Chooses}
use Rattle.som_model.specs.Class.{Class}
use Rattle.som_model.specs.Kernel.{kernel, som_object, som_class_mgr}
use Rattle.som_model.specs.Classes.{class_at, hierarchy, is_a}
use Rattle.som_model.specs.Owner.{owner}
use Rattle.som_model.specs.Implementation.{has_body, select_of, selected_in, selected}
use Rattle.som_model.specs.Rules.{is_parent_below}
use Rattle.som_semantics.specs.World.{World, world, answers_of}
use Rattle.som_semantics.proofs.WorldLaws.{answers_are}
use Rattle.som_model.specs.Loads.{IsOrdered, Loads}
use Rattle.som_model_laws.proofs.Members.{mem_split}
use Rattle.som_model_laws.proofs.Laws.{implementation_above}
use Rattle.som_model_laws.proofs.Lists.{get_mem}
use Rattle.som_model_laws.proofs.Standing.{found_is, parents_known}
use Rattle.som_release_laws.proofs.Facing.{tested}
use Rattle.som_release_laws.proofs.Inheriting.{s10_says}
use Rattle.som_type_soundness.proofs.Facts.{IsSound}
use Rattle.som_type_soundness.proofs.Fitting.{known_in}
use Rattle.som_type_soundness.proofs.Methods.{one_method}
use Rattle.som_type_soundness.proofs.Loading.{sound_world}
use Rattle.som_machine_laws.specs.Needs.{AreClosed}

-- it has the parents and the metaclass of each of its classes, and SOMObject and SOMClassMgr
pub record AreUpwards (w : World) (made : ClassKey → Bool) : Type 0 where
  pub object : made som_object ≡ true
  pub manager : made som_class_mgr ≡ true
  pub parents : (k p : ClassKey) → made k ≡ true → Mem p (w.parents k) → made p ≡ true
  pub meta : (k : ClassKey) → made k ≡ true → made (w.meta k) ≡ true

module _ (cs : List Class) (main : Block) (l : Loads cs main) where
  abbrev all : List Class
  all = kernel ++ cs

  abbrev h : Hierarchy ClassKey
  h = hierarchy all

  abbrev o : IsOrdered cs
  o = l.faces.ordered

  kernel_selects : (c : Class) → Mem c kernel → c.decl.selects ≡ []
  kernel_selects c (inl e) = ap (λ (z : Class). z.decl.selects) e
  kernel_selects c (inr (inl e)) = ap (λ (z : Class). z.decl.selects) e
  kernel_selects c (inr (inr (inl e))) = ap (λ (z : Class). z.decl.selects) e
  kernel_selects c (inr (inr (inr (inl e)))) = ap (λ (z : Class). z.decl.selects) e
  kernel_selects c (inr (inr (inr (inr m)))) = absurd m

  first_select : (r : MethodRef) (ss : List Select) (n : ℕ) → select_of all r ss ≡ Some n → (s : Select) × Mem s ss × (owner all s.method ≡ r) × (s.parent ≡ n)
  first_select r [] n e = absurd (let z = e in cc)
  first_select r (s ∷ ss) n e = by (same_method (owner all s.method) r) refl e (first_select r ss n)
    where
      by : (b : Bool) → same_method (owner all s.method) r ≡ b → (if b then Some s.parent else select_of all r ss) ≡ Some n → (select_of all r ss ≡ Some n → (x : Select) × Mem x ss × (owner all x.method ≡ r) × (x.parent ≡ n))
          → (x : Select) × Mem x (s ∷ ss) × (owner all x.method ≡ r) × (x.parent ≡ n)
      by true t g further = (s, inl refl, one_method (owner all s.method) r t, let z = g in cc)
      by false t g further = let x = further g in (x.0, inr x.1, x.2, x.3)

  parent_is : (q : Option ClassKey) (a p : ClassKey) → q ≡ Some p → is_parent_below all a q ≡ true → is_a all p a ≡ true
  parent_is q a p e f = subst (λ z. is_parent_below all a z ≡ true) e f

  -- a parent that is selected is one of the class's, and descends from the method's class
  selects_well : (r : MethodRef) (x p : ClassKey) (q : Option Class) → class_at all x ≡ q → selected_in all r q ≡ Some p → Mem p (h.parents x) × Descends h p r.class
  selects_well r x p None e g = absurd (let z = g in cc)
  selects_well r x p (Some c) e g = by (select_of all r c.decl.selects) refl g
    where
      by : (n : Option ℕ) → select_of all r c.decl.selects ≡ n → option_and_then (slice_get c.decl.face.parents) n ≡ Some p → Mem p (h.parents x) × Descends h p r.class
      by None t k = absurd (let z = k in cc)
      by (Some n) t k =
          let s = first_select r c.decl.selects n t in
          elim (mem_split c kernel cs (found_is cs o x c e).0) [
            | inl m ↦ absurd (subst (λ z. Mem s.0 z) (kernel_selects c m) s.1)
            | inr m ↦ (
                let fine = (s10_says all c (l.inherited c m)).selects.0 s.0 s.1 in
                let below = parent_is (slice_get c.decl.face.parents s.0.parent) (owner all s.0.method).class p (ap (slice_get c.decl.face.parents) s.3 ∙ k) fine.2 in
                (subst (λ z. Mem p z) (sym (parents_known cs o x c e)) (get_mem c.decl.face.parents n p k), tested cs o p r.class (subst (λ (z : MethodRef). is_a all p z.class ≡ true) s.2 below)))
          ]

  chooses : (r : MethodRef) → Chooses h (selected all r) r.class
  chooses r = record { parent = λ x p e. (selects_well r x p (class_at all x) refl e).0; below = λ x p e. (selects_well r x p (class_at all x) refl e).1 }

  made_below : (made : ClassKey → Bool) → ((k p : ClassKey) → made k ≡ true → Mem p (h.parents k) → made p ≡ true) → (x a : ClassKey) → Descends h x a → made x ≡ true → made a ≡ true
  made_below made up x a itself m = m
  made_below made up x a (by_parent p n d) m = made_below made up p a d (up x p m n)

  plain_sound : IsSound (answers_of all) (known_in all)
  plain_sound = subst (λ w. IsSound w (known_in all)) (sym (answers_are all)) (sound_world cs main l)

  plain_closed : (made : ClassKey → Bool) → AreUpwards (answers_of all) made → AreClosed (answers_of all) made
  unfolding hierarchy
  plain_closed made up = record {
    object = up.object;
    manager = up.manager;
    parents = up.parents;
    meta = up.meta;
    hooks = λ m k p e. made_below made up.parents m k (tested cs o m k (plain_sound.hooks m k e)) p;
    impl = λ x y r p e. made_below made up.parents x y (implementation_above h (has_body all r) (selected all r) r.class (chooses r) x y e) p;
  }

  pub closed : (made : ClassKey → Bool) → AreUpwards (world all) made → AreClosed (world all) made
  closed made up = subst (λ w. AreClosed w made) (answers_are all) (plain_closed made (subst (λ w. AreUpwards w made) (sym (answers_are all)) up))
