-- A base that conforms, and the classes after it.
use Rattle.std.proofs.Common.{◌≡◌, ℕ, Bool, true, false, not, ◌&&◌, if◌then◌else◌, List, [], ◌∷◌, ◌++◌, flat_map, Option, Some, None, refl, sym, ap, ◌∙◌, subst, append_assoc, true≢false}
use Rattle.som_model.specs.Lists.{Mem, find, first, or_else}
use Rattle.som_model.specs.Hierarchy.{Falls, Tells}
use Rattle.som_model.specs.Ancestors.{Descends, by_parent, itself}
use Rattle.som_model.specs.Keys.{same_key}
use Rattle.som_model.specs.Class.{Class}
use Rattle.som_model.specs.Classes.{class_at, hierarchy, is_a, parents_by, parents_in}
use Rattle.som_model.specs.Conforming.{each_after, first_of_members, first_of_names}
use Rattle.som_model.specs.Kernel.{kernel}
use Rattle.som_model.specs.Owner.{introduces}
use Rattle.som_model.specs.Rules.{RuleBreach, s1, s2, s3, s4, s5, s6, s7, s8, s9, s10}
use Rattle.som_model.specs.declared.key.ClassKey.{ClassKey, out-ClassKey}
use Rattle.som_model.specs.declared.key.ClassKey.TheOpen.{ClassKey-F}
use Rattle.som_model.specs.declared.class.Entry.{Entry}
use Rattle.som_model.specs.declared.class.Entry.TheVariants as entries
use Rattle.som_model.proofs.KeyLaws.{both, exact_keys}
use Rattle.som_model.proofs.NamedLaws.{hierarchy_parents, hierarchy_same}
use Rattle.som_model_laws.proofs.Laws.{descends_test}
use Rattle.som_verify_classes.specs.Faces.{faces_breach}
use Rattle.som_verify_classes.specs.Inherited.{inherits, moved_entry}
use Rattle.som_verify_classes.specs.Places.{with_kernel}
use Rattle.som_verify_classes.proofs.Owners.{demanded_of, flat_none}
use Rattle.som_verify_classes.proofs.Conformity.{or_none}
use Rattle.som_verify_classes.proofs.PlainLists.{each_says, none_flat, says_each}
use Rattle.som_verify_classes.proofs.PlainMembers.{both_true, demand_of_none}

-- a rule that looks at the classes before each, at two lists
pub each_both : (rule : List Class → Class → List RuleBreach) (k xs ys : List Class) → each_after rule k (xs ++ ys) ≡ each_after rule k xs ++ each_after rule (k ++ xs) ys
each_both rule k [] ys = ap (λ z. each_after rule z ys) (nil k)
  where
    nil : (k : List Class) → k ≡ k ++ []
    nil [] = refl
    nil (x ∷ k) = ap (λ z. x ∷ z) (nil k)
each_both rule k (x ∷ xs) ys =
    ap (λ z. rule k x ++ z) (each_both rule (k ++ x ∷ []) xs ys ∙ ap (λ z. each_after rule (k ++ x ∷ []) xs ++ each_after rule z ys) (append_assoc k (x ∷ []) xs))
    ∙ sym (append_assoc (rule k x) (each_after rule (k ++ x ∷ []) xs) (each_after rule (k ++ x ∷ xs) ys))

first_after : {A : Type 0} (xs ys : List A) → first xs ≡ None → first (xs ++ ys) ≡ first ys
first_after [] ys e = refl
first_after (x ∷ xs) ys e = absurd (cc)

-- where the first classes break no such rule, the first breach is that of the others
pub own_first : (rule : List Class → Class → List RuleBreach) (k xs ys : List Class) → first (each_after rule k xs) ≡ None → first (each_after rule k (xs ++ ys)) ≡ first (each_after rule (k ++ xs) ys)
own_first rule k xs ys e = ap first (each_both rule k xs ys) ∙ first_after (each_after rule k xs) (each_after rule (k ++ xs) ys) e

-- rules that a base keeps

pub base_names : (bs : List Class) → faces_breach bs ≡ None → first (each_after s1 kernel bs) ≡ None
base_names bs e =
    let a = or_none (first_of_names kernel bs) (or_else (first (flat_map (s5 (kernel ++ bs)) bs)) (first_of_members kernel bs)) e in
    (or_none (first (each_after s1 kernel bs)) (or_else (first (each_after s2 kernel bs)) (or_else (first (flat_map s3 bs)) (first (flat_map (s4 (kernel ++ bs)) bs)))) a.0).0

pub base_stands : (bs : List Class) → faces_breach bs ≡ None → first (each_after s2 kernel bs) ≡ None
base_stands bs e =
    let a = or_none (first_of_names kernel bs) (or_else (first (flat_map (s5 (kernel ++ bs)) bs)) (first_of_members kernel bs)) e in
    let b = or_none (first (each_after s1 kernel bs)) (or_else (first (each_after s2 kernel bs)) (or_else (first (flat_map s3 bs)) (first (flat_map (s4 (kernel ++ bs)) bs)))) a.0 in
    (or_none (first (each_after s2 kernel bs)) (or_else (first (flat_map s3 bs)) (first (flat_map (s4 (kernel ++ bs)) bs))) b.1).0

pub base_moves : (bs : List Class) → faces_breach bs ≡ None → first (flat_map (s9 (with_kernel bs)) bs) ≡ None
base_moves bs e =
    let all = with_kernel bs in
    let a = or_none (first_of_names kernel bs) (or_else (first (flat_map (s5 (kernel ++ bs)) bs)) (first_of_members kernel bs)) e in
    let b = or_none (first (flat_map (s5 (kernel ++ bs)) bs)) (first_of_members kernel bs) a.1 in
    let r6 = or_none (first (flat_map s6 bs)) (or_else (first (flat_map s7 bs)) (or_else (first (flat_map (s8 all) bs)) (or_else (first (flat_map (s9 all) bs)) (first (flat_map (s10 all) bs))))) b.1 in
    let r7 = or_none (first (flat_map s7 bs)) (or_else (first (flat_map (s8 all) bs)) (or_else (first (flat_map (s9 all) bs)) (first (flat_map (s10 all) bs)))) r6.1 in
    let r8 = or_none (first (flat_map (s8 all) bs)) (or_else (first (flat_map (s9 all) bs)) (first (flat_map (s10 all) bs))) r7.1 in
    (or_none (first (flat_map (s9 all) bs)) (first (flat_map (s10 all) bs)) r8.1).0

find_more : {A : Type 0} (test : A → Bool) (xs ys : List A) (a : A) → find test xs ≡ Some a → find test (xs ++ ys) ≡ Some a
find_more test [] ys a e = absurd (cc)
find_more test (x ∷ xs) ys a e = by (test x) (find_more test xs ys a) e
  where
    by : (b : Bool) → (find test xs ≡ Some a → find test (xs ++ ys) ≡ Some a) → (if b then Some x else find test xs) ≡ Some a → (if b then Some x else find test (xs ++ ys)) ≡ Some a
    by true f e = e
    by false f e = f e

tells : (cs : List Class) → Tells (hierarchy cs)
tells cs = record {
  one = λ x. hierarchy_same cs x x ∙ exact_keys.one x;
  two = λ x y e. exact_keys.two x y (sym (hierarchy_same cs x y) ∙ e);
}

-- with more classes each class has the ancestors that it had
module _ (fs ys : List Class) (low : Falls (hierarchy fs)) (lower_all : Falls (hierarchy (fs ++ ys))) where
  parents_in_more : (k q : ClassKey) (o : Option Class) → class_at fs k ≡ o → Mem q (parents_in o) → Mem q (parents_in (class_at (fs ++ ys) k))
  parents_in_more k q None e m = absurd m
  parents_in_more k q (Some c) e m = rw (find_more (λ (c : Class). same_key c.key k) fs ys c e) m

  parents_by_more : (k q : ClassKey) (o : ClassKey-F ClassKey) → Mem q (parents_by fs o k) → Mem q (parents_by (fs ++ ys) o k)
  parents_by_more k q (ClassKey-F.Named n name) m = parents_in_more k q (class_at fs k) refl m
  parents_by_more k q (ClassKey-F.Derived ks) m = m
  parents_by_more k q (ClassKey-F.Proxy of) m = m

  parents_more : (k q : ClassKey) → Mem q ((hierarchy fs).parents k) → Mem q ((hierarchy (fs ++ ys)).parents k)
  parents_more k q m =
      subst (λ (z : List ClassKey). Mem q z) (sym (hierarchy_parents (fs ++ ys) k))
      (parents_by_more k q (out-ClassKey k) (subst (λ (z : List ClassKey). Mem q z) (hierarchy_parents fs k) m))

  descends_more : {x a : ClassKey} → Descends (hierarchy fs) x a → Descends (hierarchy (fs ++ ys)) x a
  descends_more itself = itself
  descends_more {x} (by_parent p m d) = by_parent p (parents_more x p m) (descends_more d)

  is_a_more : (x a : ClassKey) → is_a fs x a ≡ true → is_a (fs ++ ys) x a ≡ true
  is_a_more x a e = (descends_test (hierarchy (fs ++ ys)) (tells (fs ++ ys)) lower_all x a).1 (descends_more ((descends_test (hierarchy fs) (tells fs) low x a).0 e))

  introduces_at : (k : ClassKey) (name : List ℕ) (o : Option Class) → class_at fs k ≡ o → introduces fs name k ≡ true → introduces (fs ++ ys) name k ≡ true
  introduces_at k name None e i = absurd (let no : introduces fs name k ≡ false = rw e refl in true≢false (sym i ∙ no))
  introduces_at k name (Some c) e i = let more = find_more (λ (c : Class). same_key c.key k) fs ys c e in let here : introduces fs name k ≡ introduces (fs ++ ys) name k = rw (e, more) refl in sym here ∙ i

  inherits_more : (k from : ClassKey) (name : List ℕ) → inherits fs k from name ≡ true → inherits (fs ++ ys) k from name ≡ true
  inherits_more k from name e =
      let p = both (not (same_key from k) && is_a fs k from) (introduces fs name from) e in
      let q = both (not (same_key from k)) (is_a fs k from) p.0 in
      both_true (not (same_key from k) && is_a (fs ++ ys) k from) (introduces (fs ++ ys) name from)
      (both_true (not (same_key from k)) (is_a (fs ++ ys) k from) q.0 (is_a_more k from q.1))
      (introduces_at from name (class_at fs from) refl p.1)

  entry_more : (c : Class) (e : Entry) → first (moved_entry fs c.key c e) ≡ None → first (moved_entry (fs ++ ys) c.key c e) ≡ None
  entry_more c (entries.Introduced name sig way) f = refl
  entry_more c (entries.Moved name to) f = demand_of_none 9 c name (inherits (fs ++ ys) c.key to name) (inherits_more c.key to name (demanded_of 9 c name (inherits fs c.key to name) f))

  pub moves_more : (cs : List Class) → first (flat_map (s9 fs) cs) ≡ None → first (flat_map (s9 (fs ++ ys)) cs) ≡ None
  moves_more cs f = says_each (s9 (fs ++ ys)) cs (λ c m.
      none_flat (moved_entry (fs ++ ys) c.key c) c.decl.face.entries (λ e n. entry_more c e (flat_none (moved_entry fs c.key c) c.decl.face.entries e (each_says (s9 fs) cs f c m) n)))
