-- The rule S10 of selects, and what it says of the parents that they name.
use Rattle.std.proofs.Common.{◌≡◌, inl, inr, true, false, not, List, [], ◌∷◌, ◌++◌, map, flat_map, slice_get, Option, Some, None, refl, sym, ap, ◌∙◌, subst, true≢false}
use Rattle.som_model.specs.Lists.{Mem, first, some}
use Rattle.som_model.specs.Keys.{same_method}
use Rattle.som_model.specs.Class.{Class}
use Rattle.som_model.specs.Classes.{is_a}
use Rattle.som_model.specs.Owner.{owner}
use Rattle.som_model.specs.Rules.{demand_of, is_parent_below, s10}
use Rattle.som_model.specs.declared.key.ClassKey.{ClassKey}
use Rattle.som_model.specs.declared.key.MethodRef.{MethodRef}
use Rattle.som_model.specs.declared.class.Select.{Select}
use Rattle.som_model.proofs.KeyLaws.{both}
use Rattle.som_model_laws.proofs.Members.{mem_left, mem_right, mem_split, mem_some, some_mem, not_true, Apart}
use Rattle.som_verify_classes.specs.Modules.{AreDeclared}
use Rattle.som_verify_classes.specs.Places.{with_kernel}
use Rattle.som_verify_classes.specs.Inherited.{inherits, may_override, may_select, overridden, overrides_from, selects_from}
use Rattle.som_verify_classes.specs.Plainly.{NamesApart, ParentsBefore, EntriesDiffer, OverridesInherited, SelectsInherited, TakesFrom}
use Rattle.som_verify_classes.proofs.Before.{none_both, both_none}
use Rattle.som_verify_classes.proofs.Owners.{demanded_of}
use Rattle.som_verify_classes.proofs.PlainLists.{mem_map, each_says, says_each, apart_differ, differ_apart}
use Rattle.som_verify_classes.proofs.PlainMembers.{demand_of_none, both_true}
use Rattle.som_verify_classes.proofs.PlainMoves.{exact_methods, own, says_overrides, descent, inherits_says, says_inherits}

abbrev pub chosen : List Class → Select → MethodRef
chosen cs s = owner cs s.method

-- whether a select is of an inherited method and of a parent that has it
abbrev pub Takes : List Class → ClassKey → Class → Select → Type 0
Takes cs k c s = (inherits cs k (chosen cs s).class (chosen cs s).name ≡ true) × (is_parent_below cs (chosen cs s).class (slice_get c.decl.face.parents s.parent) ≡ true)

abbrev pub AllTake : List Class → ClassKey → Class → List MethodRef → List Select → Type 0
AllTake cs k c before ss = ((s : Select) → Mem s ss → Takes cs k c s) × Apart (map (chosen cs) ss) × ((r : MethodRef) → Mem r before → Mem r (map (chosen cs) ss) → ⊥)

selects_says : (cs : List Class) (k : ClassKey) (c : Class) (before : List MethodRef) (ss : List Select) → first (selects_from cs k c before ss) ≡ None → AllTake cs k c before ss
selects_says cs k c before [] e = (λ s m. absurd m, tt, λ r m n. n)
selects_says cs k c before (s ∷ ss) e =
    let r = chosen cs s in
    let parent = slice_get c.decl.face.parents s.parent in
    let parts = none_both (demand_of 10 c s.method.name (may_select cs k before r parent)) (selects_from cs k c (before ++ r ∷ []) ss) e in
    let may = both (may_override cs k before r) (is_parent_below cs r.class parent) (demanded_of 10 c s.method.name (may_select cs k before r parent) parts.0) in
    let new = both (inherits cs k r.class r.name) (not (some (same_method r) before)) may.0 in
    let rest = selects_says cs k c (before ++ r ∷ []) ss parts.1 in (
      (λ x m. elim m [ inl is ↦ subst (Takes cs k c) (sym is) (new.0, may.1) | inr n ↦ rest.0 x n ]),
      ((λ m. rest.2 r (mem_right r before (r ∷ []) (inl refl)) m), rest.1),
      (λ q m n. elim n [
        | inl is ↦ true≢false (sym new.1 ∙ ap not (mem_some (same_method r) q before m (ap (same_method r) is ∙ exact_methods.one r)))
        | inr z ↦ rest.2 q (mem_left q before (r ∷ []) m) z
      ]),
    )

pub says_selects : (cs : List Class) (k : ClassKey) (c : Class) (before : List MethodRef) (ss : List Select) → AllTake cs k c before ss → first (selects_from cs k c before ss) ≡ None
says_selects cs k c before [] a = refl
says_selects cs k c before (s ∷ ss) a =
    let r = chosen cs s in
    let parent = slice_get c.decl.face.parents s.parent in
    let new : some (same_method r) before ≡ false = not_true (some (same_method r) before) (λ t.
    let f = some_mem (same_method r) before t in a.2 f.0 f.1 (inl (sym (exact_methods.two r f.0 f.2)))) in
    let may = both_true (inherits cs k r.class r.name) (not (some (same_method r) before)) (a.0 s (inl refl)).0 (ap not new) in
    both_none (demand_of 10 c s.method.name (may_select cs k before r parent)) (selects_from cs k c (before ++ r ∷ []) ss)
    (demand_of_none 10 c s.method.name (may_select cs k before r parent) (both_true (may_override cs k before r) (is_parent_below cs r.class parent) may (a.0 s (inl refl)).1))
    (says_selects cs k c (before ++ r ∷ []) ss (
      (λ x m. a.0 x (inr m)),
      a.1.1,
      (λ q m n. elim (mem_split q before (r ∷ []) m) [
        | inl b ↦ a.2 q b (inr n)
        | inr b ↦ elim b [ inl is ↦ a.1.0 (subst (λ z. Mem z (map (chosen cs) ss)) is n) | inr z ↦ z ]
      ]),
    ))

mapped : {A B : Type 0} (f : A → B) (b : B) (xs : List A) → Mem b (map f xs) → (x : A) × Mem x xs × (b ≡ f x)
mapped f b [] m = absurd m
mapped f b (x ∷ xs) (inl e) = (x, inl refl, e)
mapped f b (x ∷ xs) (inr m) = let r = mapped f b xs m in (r.0, inr r.1, r.2)

parent_there : (cs : List Class) (a : ClassKey) (o : Option ClassKey) → is_parent_below cs a o ≡ true → (p : ClassKey) × (o ≡ Some p) × (is_a cs p a ≡ true)
parent_there cs a None e = absurd (true≢false (sym e))
parent_there cs a (Some p) e = (p, refl, e)

module _ (cs : List Class) (declared : AreDeclared cs) (differ : NamesApart cs) (stand : ParentsBefore cs) where
  takes_says : (c : Class) (s : Select) → Takes (with_kernel cs) c.key c s → TakesFrom cs c s.parent (chosen (with_kernel cs) s).class
  takes_says c s t =
      let r = parent_there (with_kernel cs) (chosen (with_kernel cs) s).class (slice_get c.decl.face.parents s.parent) t.1 in
      record { parent = r.0; there = r.1; above = (descent cs declared differ stand r.0 (chosen (with_kernel cs) s).class).0 r.2 }

  says_takes : (c : Class) (s : Select) → TakesFrom cs c s.parent (chosen (with_kernel cs) s).class → is_parent_below (with_kernel cs) (chosen (with_kernel cs) s).class (slice_get c.decl.face.parents s.parent) ≡ true
  says_takes c s t =
      ap (is_parent_below (with_kernel cs) (chosen (with_kernel cs) s).class) t.there
      ∙ (descent cs declared differ stand t.parent (chosen (with_kernel cs) s).class).1 t.above

  pub selects_say : first (flat_map (s10 (with_kernel cs)) cs) ≡ None → SelectsInherited cs
  selects_say e =
      let all = with_kernel cs in
      let at = λ (c : Class) (m : Mem c cs). selects_says all c.key c (overridden all c.decl.overrides) c.decl.selects
      (none_both (overrides_from all c.key c [] c.decl.overrides) (selects_from all c.key c (overridden all c.decl.overrides) c.decl.selects) (each_says (s10 all) cs e c m)).1 in
      record {
        above = λ c s m n. (inherits_says cs declared differ stand c (chosen all s).class (chosen all s).name ((at c m).0 s n).0).0;
        introduced = λ c s m n. (inherits_says cs declared differ stand c (chosen all s).class (chosen all s).name ((at c m).0 s n).0).1;
        parent = λ c s m n. takes_says c s ((at c m).0 s n);
        once = λ c m. apart_differ (chosen all) c.decl.selects (at c m).1;
        apart = λ c o s m n p is. (at c m).2 (own all o) (mem_map (own all) o c.decl.overrides n) (subst (λ z. Mem z (map (chosen all) c.decl.selects)) (sym is) (mem_map (chosen all) s c.decl.selects p));
      }

  pub say_replaced : EntriesDiffer cs → OverridesInherited cs → SelectsInherited cs → first (flat_map (s10 (with_kernel cs)) cs) ≡ None
  say_replaced rule over selects = let all = with_kernel cs in says_each (s10 all) cs (λ c m.
      both_none (overrides_from all c.key c [] c.decl.overrides) (selects_from all c.key c (overridden all c.decl.overrides) c.decl.selects)
      (says_overrides all c.key c [] c.decl.overrides (
        (λ o n. says_inherits cs declared differ stand rule c (own all o).class (own all o).name (over.above c o m n) (over.introduced c o m n)),
        differ_apart (own all) c.decl.overrides (over.once c m),
        (λ r n k. n),
      ))
      (says_selects all c.key c (overridden all c.decl.overrides) c.decl.selects (
        (λ s n. (says_inherits cs declared differ stand rule c (chosen all s).class (chosen all s).name (selects.above c s m n) (selects.introduced c s m n), says_takes c s (selects.parent c s m n))),
        differ_apart (chosen all) c.decl.selects (selects.once c m),
        (λ r n k. let o = mapped (own all) r c.decl.overrides n in let s = mapped (chosen all) r c.decl.selects k in selects.apart c o.0 s.0 m o.1 s.1 (sym o.2 ∙ s.2)),
      )))
