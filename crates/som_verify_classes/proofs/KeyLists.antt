-- The ancestors of a key are the keys of the ancestors of its place.
use Rattle.std.proofs.Common.{◌≡◌, ℕ, zero, suc, ◌+◌, ◌<◌, ◌≤◌, ◌==◌, inl, inr, Bool, true, false, List, [], ◌∷◌, length, map, Some, refl, sym, ap, ◌∙◌, subst, arith, true≢false}
use Rattle.std.proofs.lemmas.Bool.{eqb-true, eqb-false, cases_lt}
use Rattle.std.proofs.lemmas.List.{get_or_past}
use Rattle.std.specs.Prelude.{unwrap_or}
use Rattle.som_model.specs.Lists.{place_from}
use Rattle.som_model.specs.Keys.{same_key}
use Rattle.som_model.specs.Class.{Class}
use Rattle.som_model.specs.Classes.{hierarchy, class_at, place_of, parents_of, parents_in}
use Rattle.som_model.specs.Rules.{name_of}
use Rattle.som_model.specs.declared.key.ClassKey.{ClassKey}
use Rattle.som_model.proofs.KeyLaws.{exact_keys}
use Rattle.som_model.proofs.NamedLaws.{height_named, hierarchy_parents, hierarchy_same, parents_named}
use Rattle.som_order.specs.Names.{name_at}
use Rattle.som_verify_classes.specs.Places.{with_kernel, class_of_place, key_at, face_at, module_at, IsTable, IsRows}
use Rattle.som_model_laws.specs.Rows.{rows_of, AreAncestors}
use Rattle.som_verify_classes.specs.Walk.{AreLists}
use Rattle.som_verify_classes.proofs.Finding.{key_named, named_there}
use Rattle.som_verify_classes.proofs.Numbering.{numbered}
use Rattle.som_model_laws.proofs.Listed.{known_low}

class_first : (cs : List Class) (k : ClassKey) (a : ℕ) → a < length cs → ((j : ℕ) → j < a → same_key (key_at cs j) k ≡ false) → same_key (key_at cs a) k ≡ true → class_at cs k ≡ Some (class_of_place cs a)
class_first [] k a lt f e = absurd (omega arith)
class_first (c ∷ cs) k zero lt f e = rw e refl
class_first (c ∷ cs) k (suc a) lt f e = let fails : same_key c.key k ≡ false = f 0 (omega arith) in rw fails (class_first cs k a (omega arith) (λ j l. f (suc j) (omega (arith, l))) e)

place_first : (n : ℕ) (cs : List Class) (k : ClassKey) (a : ℕ) → a < length cs → ((j : ℕ) → j < a → same_key (key_at cs j) k ≡ false) → same_key (key_at cs a) k ≡ true
    → place_from n (λ (c : Class). same_key c.key k) cs ≡ Some (a + n)
place_first n [] k a lt f e = absurd (omega arith)
place_first n (c ∷ cs) k zero lt f e = let start : n ≡ 0 + n = omega arith in rw e (ap (λ z. Some z) start)
place_first n (c ∷ cs) k (suc a) lt f e =
    let fails : same_key c.key k ≡ false = f 0 (omega arith) in
    let sum : a + suc n ≡ suc a + n = omega arith in
    rw fails (place_first (suc n) cs k a (omega arith) (λ j l. f (suc j) (omega (arith, l))) e ∙ ap (λ z. Some z) sum)

-- places are one exactly where their keys are, if no key stands twice
pub alike : (cs : List Class) → ((i j : ℕ) → i < length cs → j < length cs → key_at cs i ≡ key_at cs j → i ≡ j) → (a b : ℕ) → a < length cs → b < length cs
    → (x y : Bool) → (a == b) ≡ x → same_key (key_at cs a) (key_at cs b) ≡ y → x ≡ y
alike cs once a b la lb true true e f = refl
alike cs once a b la lb false false e f = refl
alike cs once a b la lb true false e f = absurd (true≢false (sym (exact_keys.one (key_at cs a)) ∙ ap (λ z. same_key (key_at cs a) (key_at cs z)) (eqb-true a b e) ∙ f))
alike cs once a b la lb false true e f = absurd (eqb-false a b e (once a b la lb (exact_keys.two _ _ f)))

module _ (cs : List Class) (names : List (List ℕ)) (t : IsTable cs names) where
  -- no key stands twice
  pub keys_once : (i j : ℕ) → i < length (with_kernel cs) → j < length (with_kernel cs) → key_at (with_kernel cs) i ≡ key_at (with_kernel cs) j → i ≡ j
  keys_once i j li lj e =
      let all = map name_of (with_kernel cs) in
      let r = named_there cs names t (module_at (with_kernel cs) j) (name_at all j) i li (e ∙ key_named cs t.declared j lj) in
      let s = named_there cs names t (module_at (with_kernel cs) j) (name_at all j) j lj (key_named cs t.declared j lj) in
      t.once.by i j r.0 s.0 (r.2 ∙ sym s.2)

  earlier : (a : ℕ) → a < length (with_kernel cs) → (j : ℕ) → j < a → same_key (key_at (with_kernel cs) j) (key_at (with_kernel cs) a) ≡ false
  earlier a lt j l = differ (same_key (key_at (with_kernel cs) j) (key_at (with_kernel cs) a)) refl
    where
      differ : (b : Bool) → same_key (key_at (with_kernel cs) j) (key_at (with_kernel cs) a) ≡ b → b ≡ false
      differ true e = absurd (let same = keys_once j a (omega arith) lt (exact_keys.two _ _ e) in omega (arith, same, l))
      differ false e = refl

  -- the class of the key at a place
  pub class_there : (a : ℕ) → a < length (with_kernel cs) → class_at (with_kernel cs) (key_at (with_kernel cs) a) ≡ Some (class_of_place (with_kernel cs) a)
  class_there a lt = class_first (with_kernel cs) (key_at (with_kernel cs) a) a lt (earlier a lt) (exact_keys.one (key_at (with_kernel cs) a))

  place_there : (a : ℕ) → a < length (with_kernel cs) → place_of 1 (with_kernel cs) (key_at (with_kernel cs) a) ≡ suc a
  place_there a lt =
      let sum : a + 1 ≡ suc a = omega arith in
      ap (λ o. unwrap_or o 0) (place_first 1 (with_kernel cs) (key_at (with_kernel cs) a) a lt (earlier a lt) (exact_keys.one (key_at (with_kernel cs) a))) ∙ sum

  pub height_there : (a : ℕ) → a < length (with_kernel cs) → suc a ≡ (hierarchy (with_kernel cs)).height (key_at (with_kernel cs) a)
  height_there a lt =
      let name = name_at (map name_of (with_kernel cs)) a in
      sym (
      ap (hierarchy (with_kernel cs)).height (key_named cs t.declared a lt)
      ∙ height_named (with_kernel cs) (module_at (with_kernel cs) a) name
      ∙ ap (place_of 1 (with_kernel cs)) (sym (key_named cs t.declared a lt))
      ∙ place_there a lt
      )

  parents_there : (a : ℕ) → a < length (with_kernel cs) → (hierarchy (with_kernel cs)).parents (key_at (with_kernel cs) a) ≡ (face_at (with_kernel cs) a).parents
  parents_there a lt =
      let name = name_at (map name_of (with_kernel cs)) a in
      hierarchy_parents (with_kernel cs) (key_at (with_kernel cs) a)
      ∙ ap (parents_of (with_kernel cs)) (key_named cs t.declared a lt)
      ∙ parents_named (with_kernel cs) (module_at (with_kernel cs) a) name
      ∙ ap (λ k. parents_in (class_at (with_kernel cs) k)) (sym (key_named cs t.declared a lt))
      ∙ ap parents_in (class_there a lt)

  pub are_lists : (rows all : List (List ℕ)) → IsRows (with_kernel cs) (length (with_kernel cs)) rows → AreAncestors rows (length rows) all → AreLists (with_kernel cs) all
  are_lists rows all table lists = record {
    long = lists.long ∙ table.long;
    low = λ i a m. elim (cases_lt i (length rows)) [
      | inl lt ↦ (let l = known_low rows (length rows) all table.low lists i a m in omega (arith, l, lt, table.long))
      | inr ge ↦ (let w : length all ≤ i = omega (arith, lists.long) in absurd (rw (get_or_past all i [] w) at m))
    ];
    once = keys_once;
    found = class_there;
    by = λ i lt. (let l : i < length rows = omega (arith, table.long) in
        ap (map (key_at (with_kernel cs))) (lists.by i l)
        ∙ numbered (rows_of rows) (hierarchy (with_kernel cs)) (key_at (with_kernel cs)) (λ k. k < length (with_kernel cs))
        (λ a p g m. let q = table.low a p m in omega (arith, g, q))
        (λ a g. table.by a g ∙ sym (parents_there a g))
        (λ a b g k. alike (with_kernel cs) keys_once a b g k (a == b) (same_key (key_at (with_kernel cs) a) (key_at (with_kernel cs) b)) refl refl ∙ sym (hierarchy_same (with_kernel cs) (key_at (with_kernel cs) a) (key_at (with_kernel cs) b)))
        height_there i lt);
  }

-- borrowed lists, which are the ancestors of borrowed rows, are the lists of all classes
pub lists_of : (cs : List Class) (names : List (List ℕ)) → IsTable cs names → (rows shown all lent : List (List ℕ)) → IsRows (with_kernel cs) (length (with_kernel cs)) rows
    → shown ≡ rows → AreAncestors shown (length shown) all → lent ≡ all → AreLists (with_kernel cs) lent
lists_of cs names t rows shown all lent table e lists f =
    rw f (are_lists cs names t rows all table (subst (λ (z : List (List ℕ)). AreAncestors z (length z) all) e lists))
