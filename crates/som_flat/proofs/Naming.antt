-- Classes of one name: the names that were noted so far, and the level of a class of a name.
use Rattle.std.proofs.Common.{◌≡◌, ℕ, zero, suc, ◌+◌, ◌<◌, ◌≤◌, inl, inr, Bool, true, false, not, if◌then◌else◌, List, [], ◌∷◌, ◌++◌, map, length, take, drop, Some, None, slice_index_or, codes, refl, sym, ap, ◌∙◌, subst, arith, true≢false}
use Rattle.std.proofs.lemmas.List.{map-append}
use Rattle.std.specs.Str.{bytes_eq}
use Rattle.som_model.specs.Lists.{Mem, among, first, or_else}
use Rattle.som_model.specs.Class.{Class, bare}
use Rattle.som_model.specs.Rules.{breach, name_of, s1}
use Rattle.som_model.proofs.KeyLaws.{exact_bytes}
use Rattle.som_verify_classes.specs.Modules.{module_of}
use Rattle.som_verify_classes.specs.Places.{class_of_place, nobody}
use Rattle.som_verify_classes.proofs.ClassTable.{front_more}
use Rattle.som_verify_classes.proofs.DeclaredClasses.{module_there}
use Rattle.som_verify_classes.proofs.Passes.{first_both}
use Rattle.som_compat_levels.specs.declared.classes.PlacedClass.{PlacedClass}
use Rattle.som_compat_levels.specs.Standing.{class_of, classes_of}
use Rattle.som_compat_levels.specs.Told.{level_of}
use Rattle.som_compat_levels.proofs.Keyed.{class_here, long_classes}
use Rattle.som_compat_levels.proofs.Lists.{drop_at, drop_end}
use Rattle.som_flat.specs.Breaches.{at_level, named_again}
use Rattle.som_flat.specs.Told.{IsLevelOf}

-- the names noted are those of the first i classes, none of which has the name of one before it
pub record NamedSoFar (cs : List Class) (i : ℕ) (names : List (List ℕ)) : Type 0 where
  pub are : names ≡ map name_of (take i cs)
  pub same : first (named_again (take i cs) (drop i cs)) ≡ first (named_again [] cs)

taken : (before : List Class) (c : Class) → among (name_of c) (map name_of before) ≡ true → s1 before c ≡ breach 1 c (codes "-") ∷ []
taken before c e = rw e refl

fresh : (before : List Class) (c : Class) → among (name_of c) (map name_of before) ≡ false → s1 before c ≡ []
fresh before c e = rw e refl

module _ (cs : List Class) (i : ℕ) (names : List (List ℕ)) (lt : i < length cs) (so : NamedSoFar cs i names) where
  abbrev here : Class
  here = class_of_place cs i

  split : first (named_again (take i cs) (drop i cs)) ≡ or_else (first (at_level here (s1 (take i cs) here))) (first (named_again (take (i + 1) cs) (drop (i + 1) cs)))
  split =
      ap (λ z. first (named_again (take i cs) z)) (drop_at cs i nobody lt)
      ∙ first_both (at_level here (s1 (take i cs) here)) (named_again (take i cs ++ here ∷ []) (drop (i + 1) cs))
      ∙ ap (λ z. or_else (first (at_level here (s1 (take i cs) here))) (first (named_again z (drop (i + 1) cs)))) (sym (front_more [] cs i nobody lt))

  is_known : (b : Bool) → among (name_of here) names ≡ b → among (name_of here) (map name_of (take i cs)) ≡ b
  is_known b e = ap (among (name_of here)) (sym so.are) ∙ e

  pub name_again : among (name_of here) names ≡ true → first (named_again [] cs) ≡ Some (level_of (module_of here), breach 1 here (codes "-"))
  name_again e =
      sym so.same ∙ split
      ∙ ap (λ z. or_else (first (at_level here z)) (first (named_again (take (i + 1) cs) (drop (i + 1) cs)))) (taken (take i cs) here (is_known true e))

  pub name_new : among (name_of here) names ≡ false → NamedSoFar cs (i + 1) (names ++ name_of here ∷ [])
  name_new e = record {
    are = ap (λ z. z ++ name_of here ∷ []) so.are ∙ sym (map-append name_of (take i cs) (here ∷ [])) ∙ ap (map name_of) (sym (front_more [] cs i nobody lt));
    same =
        sym (split ∙ ap (λ z. or_else (first (at_level here z)) (first (named_again (take (i + 1) cs) (drop (i + 1) cs)))) (fresh (take i cs) here (is_known false e)))
        ∙ so.same;
  }

-- what noting a name answers
new_or : (b a : Bool) → b ≡ not a → b ≡ true → a ≡ false
new_or true true e f = cc
new_or true false e f = refl
new_or false a e f = cc

old_or : (b a : Bool) → b ≡ not a → b ≡ false → a ≡ true
old_or true a e f = cc
old_or false true e f = refl
old_or false false e f = cc

kept_or : (b : Bool) (before seen : List (List ℕ)) (x : List ℕ) → seen ≡ (if b then before ++ x ∷ [] else before) → b ≡ true → seen ≡ before ++ x ∷ []
kept_or true before seen x e f = e
kept_or false before seen x e f = cc

module _ (ps : List PlacedClass) (i : ℕ) (p : PlacedClass) (lt : i < length ps) (is : p ≡ slice_index_or ps i p) where
  pub placed_here : class_of_place (classes_of ps) i ≡ class_of p
  placed_here = class_here ps i p lt ∙ ap class_of (sym is)

  within : i < length (classes_of ps)
  within = let long = long_classes ps in omega (arith, long, lt)

  -- its name was noted
  pub next_named : (names seen : List (List ℕ)) (is_new : Bool) → is_new ≡ true → is_new ≡ not (among p.face.now.name names)
      → seen ≡ (if is_new then names ++ p.face.now.name ∷ [] else names) → NamedSoFar (classes_of ps) i names → NamedSoFar (classes_of ps) (i + 1) seen
  next_named names seen is_new yes_ new kept so =
      let at : name_of (class_of_place (classes_of ps) i) ≡ p.face.now.name = ap name_of placed_here in
      let fresh = new_or is_new (among p.face.now.name names) new yes_ in
      subst (NamedSoFar (classes_of ps) (i + 1)) (ap (λ z. names ++ z ∷ []) at ∙ sym (kept_or is_new names seen p.face.now.name kept yes_))
      (name_new (classes_of ps) i names within so (ap (λ z. among z names) at ∙ fresh))

  -- a class before it has its name
  pub named_before : (names : List (List ℕ)) (is_new : Bool) → is_new ≡ false → is_new ≡ not (among p.face.now.name names)
      → NamedSoFar (classes_of ps) i names → first (named_again [] (classes_of ps)) ≡ Some (level_of p.module, breach 1 (class_of p) (codes "-"))
  named_before names is_new no_ new so =
      let at : name_of (class_of_place (classes_of ps) i) ≡ p.face.now.name = ap name_of placed_here in
      let old = old_or is_new (among p.face.now.name names) new no_ in
      name_again (classes_of ps) i names within so (ap (λ z. among z names) at ∙ old)
      ∙ ap (λ (c : Class). Some (level_of (module_of c), breach 1 c (codes "-"))) placed_here
      ∙ ap (λ z. Some (level_of z, breach 1 (class_of p) (codes "-"))) (module_there p.module (bare p.face.now))

  -- the level of a class of the name
  pub level_found : (name : List ℕ) (level : ℕ) → bytes_eq p.face.now.name name ≡ true → level ≡ level_of p.module → IsLevelOf (classes_of ps) name level
  level_found name level t e = record {
    class = class_of p;
    among = subst (λ z. Mem z (classes_of ps)) placed_here (mem_place (classes_of ps) i within);
    named = exact_bytes.two p.face.now.name name t;
    level_is = e ∙ ap level_of (sym (module_there p.module (bare p.face.now)));
  }
    where
      mem_place : (cs : List Class) (j : ℕ) → j < length cs → Mem (class_of_place cs j) cs
      mem_place [] j less = absurd (omega arith)
      mem_place (c ∷ cs) zero less = inl refl
      mem_place (c ∷ cs) (suc j) less = inr (mem_place cs j (omega arith))

  -- it stands further on
  pub name_later : (name : List ℕ) → bytes_eq p.face.now.name name ≡ false → Mem name (map name_of (drop i (classes_of ps))) → Mem name (map name_of (drop (i + 1) (classes_of ps)))
  name_later name t m = elim (subst (λ z. Mem name (map name_of z)) (drop_at (classes_of ps) i nobody within) m) [
    | inl e ↦ absurd (true≢false (sym (exact_bytes.one name) ∙ ap (λ z. bytes_eq z name) (e ∙ ap name_of placed_here) ∙ t))
    | inr n ↦ n
  ]

pub named_all : (ps : List PlacedClass) (i : ℕ) (names : List (List ℕ)) → length ps ≤ i → NamedSoFar (classes_of ps) i names → first (named_again [] (classes_of ps)) ≡ None
named_all ps i names le so = let long = long_classes ps in sym so.same ∙ ap (λ z. first (named_again (take i (classes_of ps)) z)) (drop_end (classes_of ps) i (omega (arith, long, le)))

pub name_nowhere : (ps : List PlacedClass) (i : ℕ) (name : List ℕ) → length ps ≤ i → Mem name (map name_of (drop i (classes_of ps))) → ⊥
name_nowhere ps i name le m = let long = long_classes ps in subst (λ z. Mem name (map name_of z)) (drop_end (classes_of ps) i (omega (arith, long, le))) m
