-- Classes without their members: which of them descend from which, and which are known, stays as it was.
use Rattle.std.proofs.Common.{◌≡◌, ℕ, suc, Bool, true, false, not, if◌then◌else◌, List, [], ◌∷◌, ◌++◌, map, flat_map, Option, Some, None, is_some, refl, sym, ap, ◌∙◌}
use Rattle.std.proofs.Math.Path.{fun_ext}
use Rattle.std.specs.Prelude.{unwrap_or}
use Rattle.som_model.specs.declared.key.ClassKey.{ClassKey, out-ClassKey, fold-ClassKey}
use Rattle.som_model.specs.declared.key.ClassKey.TheVariants as keys
use Rattle.som_model.specs.declared.key.ClassKey.TheOpen.{ClassKey-F}
use Rattle.som_model.specs.Lists.{among, every, option_list, place_from}
use Rattle.som_model.specs.Keys.{same_key}
use Rattle.som_model.specs.Hierarchy.{Hierarchy}
use Rattle.som_model.specs.Ancestors.{descends}
use Rattle.som_model.specs.Class.{Class, bare}
use Rattle.som_model.specs.Classes.{class_at, parents_in, parents_by, parents_of, height_step, hierarchy, is_a}
use Rattle.som_model.specs.Conforming.{each_after}
use Rattle.som_model.specs.Rules.{RuleBreach, demand, name_of, s1, s2, s3}

-- a class of which its name, its parents and its metaclass are left
abbrev pub outline : Class → Class
outline c = record { key = c.key; decl = bare (record c.decl.face { entries = [] }) }

abbrev outlined : Option Class → Option Class
outlined None = None
outlined (Some c) = Some (outline c)

outline_at : (cs : List Class) (k : ClassKey) → class_at (map outline cs) k ≡ outlined (class_at cs k)
outline_at [] k = refl
outline_at (c ∷ cs) k = by (same_key c.key k) (class_at (map outline cs) k) (class_at cs k) (outline_at cs k)
  where
    by : (b : Bool) (o p : Option Class) → o ≡ outlined p → (if b then Some (outline c) else o) ≡ outlined (if b then Some c else p)
    by true o p e = refl
    by false o p e = e

outline_placed : (n : ℕ) (cs : List Class) (k : ClassKey) → place_from n (λ (c : Class). same_key c.key k) (map outline cs) ≡ place_from n (λ (c : Class). same_key c.key k) cs
outline_placed n [] k = refl
outline_placed n (c ∷ cs) k = ap (λ (o : Option ℕ). if same_key c.key k then Some n else o) (outline_placed (suc n) cs k)

parents_same : (o : Option Class) → parents_in (outlined o) ≡ parents_in o
parents_same None = refl
parents_same (Some c) = refl

parents_by_same : (cs : List Class) (l : ClassKey-F ClassKey) (k : ClassKey) → parents_by (map outline cs) l k ≡ parents_by cs l k
parents_by_same cs (ClassKey-F.Named m name) k = ap parents_in (outline_at cs k) ∙ parents_same (class_at cs k)
parents_by_same cs (ClassKey-F.Derived ks) k = refl
parents_by_same cs (ClassKey-F.Proxy of) k = refl

height_same : (cs : List Class) (l : ClassKey-F ℕ) → height_step (map outline cs) l ≡ height_step cs l
height_same cs (ClassKey-F.Named m name) = ap (λ (o : Option ℕ). unwrap_or o 0) (outline_placed 1 cs (keys.Named m name))
height_same cs (ClassKey-F.Derived hs) = refl
height_same cs (ClassKey-F.Proxy height) = refl

pub hierarchy_outline : (cs : List Class) → hierarchy (map outline cs) ≡ hierarchy cs
unfolding hierarchy
hierarchy_outline cs =
    ap (λ (f : ClassKey → List ClassKey). record { parents = f; height = fold-ClassKey ℕ (height_step (map outline cs)); same = same_key }) (fun_ext (λ k. parents_by_same cs (out-ClassKey k) k))
    ∙ ap (λ (f : ClassKey-F ℕ → ℕ). record { parents = parents_of cs; height = fold-ClassKey ℕ f; same = same_key }) (fun_ext (height_same cs))

known_outline : (cs : List Class) (k : ClassKey) → is_some (class_at (map outline cs) k) ≡ is_some (class_at cs k)
known_outline cs k = ap is_some (outline_at cs k) ∙ same (class_at cs k)
  where
    same : (o : Option Class) → is_some (outlined o) ≡ is_some o
    same None = refl
    same (Some c) = refl

names_outline : (cs : List Class) → map name_of (map outline cs) ≡ map name_of cs
names_outline [] = refl
names_outline (c ∷ cs) = ap (λ z. name_of c ∷ z) (names_outline cs)

-- rules that look at the classes before each

outline_more : (before : List Class) (c : Class) → map outline before ++ outline c ∷ [] ≡ map outline (before ++ c ∷ [])
outline_more [] c = refl
outline_more (x ∷ before) c = ap (λ z. outline x ∷ z) (outline_more before c)

each_outline : (rule : List Class → Class → List RuleBreach) → ((before : List Class) (c : Class) → rule (map outline before) (outline c) ≡ rule before c)
    → (before cs : List Class) → each_after rule (map outline before) (map outline cs) ≡ each_after rule before cs
each_outline rule same before [] = refl
each_outline rule same before (c ∷ cs) =
    ap (λ z. rule (map outline before) (outline c) ++ each_after rule z (map outline cs)) (outline_more before c)
    ∙ ap (λ z. z ++ each_after rule (map outline (before ++ c ∷ [])) (map outline cs)) (same before c)
    ∙ ap (λ z. rule before c ++ z) (each_outline rule same (before ++ c ∷ []) cs)

s1_outline : (before : List Class) (c : Class) → s1 (map outline before) (outline c) ≡ s1 before c
s1_outline before c = ap (λ names. demand 1 c (not (among (name_of c) names))) (names_outline before)

s2_outline : (before : List Class) (c : Class) → s2 (map outline before) (outline c) ≡ s2 before c
s2_outline before c = ap (λ (known : ClassKey → Bool). demand 2 c (every known (c.decl.face.parents ++ option_list c.decl.face.metaclass))) (fun_ext (known_outline before))

s3_outline : (cs : List Class) → flat_map s3 (map outline cs) ≡ flat_map s3 cs
s3_outline [] = refl
s3_outline (c ∷ cs) = ap (λ z. s3 c ++ z) (s3_outline cs)

-- classes with the same outlines
module _ (xs ys : List Class) (same : map outline xs ≡ map outline ys) where
  pub same_names : (before : List Class) → each_after s1 before xs ≡ each_after s1 before ys
  same_names before = sym (each_outline s1 s1_outline before xs) ∙ ap (each_after s1 (map outline before)) same ∙ each_outline s1 s1_outline before ys

  pub same_bases : (before : List Class) → each_after s2 before xs ≡ each_after s2 before ys
  same_bases before = sym (each_outline s2 s2_outline before xs) ∙ ap (each_after s2 (map outline before)) same ∙ each_outline s2 s2_outline before ys

  pub same_parents : flat_map s3 xs ≡ flat_map s3 ys
  same_parents = sym (s3_outline xs) ∙ ap (flat_map s3) same ∙ s3_outline ys

  pub same_hierarchy : hierarchy xs ≡ hierarchy ys
  same_hierarchy = sym (hierarchy_outline xs) ∙ ap hierarchy same ∙ hierarchy_outline ys

  pub same_descent : (k a : ClassKey) → is_a xs k a ≡ is_a ys k a
  same_descent k a = ap (λ (h : Hierarchy ClassKey). descends h k a) same_hierarchy

  pub same_known : (k : ClassKey) → is_some (class_at xs k) ≡ is_some (class_at ys k)
  same_known k = sym (known_outline xs k) ∙ ap (λ (z : List Class). is_some (class_at z k)) same ∙ known_outline ys k
