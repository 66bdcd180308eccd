-- Rows of parents, lists of ancestors and places of metaclasses.
use Rattle.std.proofs.Common.{◌≡◌, ◌==◌, ℕ, ◌+◌, ◌<◌, ◌≤◌, inl, inr, List, [], ◌∷◌, ◌++◌, map, length, take, Option, Some, None, slice_index_or, refl, sym, ap, ◌∙◌, subst, arith}
use Rattle.std.proofs.lemmas.Bool.{cases_lt}
use Rattle.std.proofs.lemmas.List.{get_or_past, map-append}
use Rattle.som_model.specs.declared.key.ClassKey.{ClassKey}
use Rattle.som_model.specs.Lists.{Mem}
use Rattle.som_model.specs.Keys.{same_key}
use Rattle.som_model.specs.Class.{Class}
use Rattle.som_model.specs.Classes.{hierarchy}
use Rattle.som_model.proofs.NamedLaws.{hierarchy_same}
use Rattle.som_model_laws.specs.Rows.{rows_of, AreAncestors}
use Rattle.som_model_laws.proofs.Listed.{known_low}
use Rattle.som_model_laws.proofs.Members.{mem_split}
use Rattle.som_verify_classes.specs.Places.{class_of_place, face_at, key_at, IsRows}
use Rattle.som_verify_classes.specs.Plainly.{IsAmong}
use Rattle.som_verify_classes.specs.Walk.{AreLists}
use Rattle.som_verify_classes.proofs.Finding.{mem_place}
use Rattle.som_verify_classes.proofs.KeyLists.{alike}
use Rattle.som_verify_classes.proofs.Numbering.{numbered}
use Rattle.som_verify_classes.proofs.PlainLists.{mem_map}
use Rattle.som_compat.proofs.Filled.{next_take}
use Rattle.som_compat_levels.specs.Tables.{IsPlaceOf}
use Rattle.som_compat_levels.proofs.Known.{AreKnown}
use Rattle.som_compat_levels.proofs.Lists.{each_last, long_last}

pub among_at : (cs : List Class) (p : ℕ) → p < length cs → IsAmong cs (key_at cs p)
among_at cs p lt = record { class = class_of_place cs p; there = mem_place cs p lt; named = refl }

-- one more place of a row
pub row_more : (cs : List Class) (row : List ℕ) (ks : List ClassKey) (i p : ℕ) (k : ClassKey) → i < length ks → k ≡ slice_index_or ks i k → key_at cs p ≡ k
    → map (key_at cs) row ≡ take i ks → map (key_at cs) (row ++ p ∷ []) ≡ take (i + 1) ks
row_more cs row ks i p k lt is at so = map-append (key_at cs) row (p ∷ []) ∙ ap (λ z. z ++ key_at cs p ∷ []) so ∙ ap (λ z. take i ks ++ z ∷ []) at ∙ sym (next_take ks i k lt is)

pub within_more : (n p : ℕ) (row : List ℕ) → p < n → ((q : ℕ) → Mem q row → q < n) → (q : ℕ) → Mem q (row ++ p ∷ []) → q < n
within_more n p row lt f q m = elim (mem_split q row (p ∷ []) m) [
  | inl k ↦ f q k
  | inr k ↦ elim k [ inl e ↦ omega (arith, e, lt) | inr z ↦ absurd z ]
]

module _ (cs : List Class) (known : AreKnown cs) where
  pub parent_among : (p : ℕ) (k : ClassKey) → p < length cs → Mem k (face_at cs p).parents → IsAmong cs k
  parent_among p k lt m = let r = known.stand p k lt m in let low = r.1 in subst (IsAmong cs) r.2 (among_at cs r.0 (omega (arith, lt, low)))

  pub metaclass_among : (p : ℕ) (k : ClassKey) → p < length cs → (face_at cs p).metaclass ≡ Some k → IsAmong cs k
  metaclass_among p k lt m = let r = known.metaclass p k lt m in let low = r.1 in subst (IsAmong cs) r.2 (among_at cs r.0 (omega (arith, lt, low)))

  -- the places of parents stand before the class
  row_low : (i p : ℕ) (row : List ℕ) → i < length cs → map (key_at cs) row ≡ (face_at cs i).parents → ((q : ℕ) → Mem q row → q < length cs) → Mem p row → p < i
  row_low i p row lt keys within m =
      let r = known.stand i (key_at cs p) lt (subst (λ z. Mem (key_at cs p) z) keys (mem_map (key_at cs) p row m)) in
      let low = r.1 in
      let same = known.once r.0 p (omega (arith, low, lt)) (within p m) r.2 in
      omega (arith, same, low)

  -- the rows of the first n classes
  pub next_row : (n : ℕ) (rows : List (List ℕ)) (row : List ℕ) → n < length cs → map (key_at cs) row ≡ (face_at cs n).parents → ((q : ℕ) → Mem q row → q < length cs) → IsRows cs n rows → IsRows cs (n + 1) (rows ++ row ∷ [])
  next_row n rows row lt keys within so =
      let long = so.long in
      let same : n ≡ length rows = sym long in
      record {
        long = long_last rows row ∙ ap (λ z. z + 1) long;
        low = λ i p m. elim (cases_lt i (length rows + 1)) [
          | inl less ↦ each_last (λ j r. (q : ℕ) → Mem q r → q < j) rows row [] (λ j _ q k. so.low j q k)
              (λ q k. let l = row_low n q row lt keys within k in omega (arith, l, long)) i less p m
          | inr ge ↦ (let w : length (rows ++ row ∷ []) ≤ i = omega (arith, long_last rows row, ge) in absurd (rw (get_or_past (rows ++ row ∷ []) i [] w) at m))
        ];
        by = λ i less. each_last (λ j r. map (key_at cs) r ≡ (face_at cs j).parents) rows row [] (λ j l. so.by j (omega (arith, l, long))) (rw long keys) i (omega (arith, less, long));
      }

  pub are_lists : (rows all : List (List ℕ)) → IsRows cs (length cs) rows → AreAncestors rows (length rows) all → AreLists cs all
  are_lists rows all table lists = record {
    long = lists.long ∙ table.long;
    low = λ i a m. elim (cases_lt i (length rows)) [
      | inl lt ↦ (let l = known_low rows (length rows) all table.low lists i a m in omega (arith, l, lt, table.long))
      | inr ge ↦ (let w : length all ≤ i = omega (arith, lists.long, ge) in absurd (rw (get_or_past all i [] w) at m))
    ];
    once = known.once;
    found = known.found;
    by = λ i lt. (let l : i < length rows = omega (arith, table.long, lt) in
        ap (map (key_at cs)) (lists.by i l)
        ∙ numbered (rows_of rows) (hierarchy cs) (key_at cs) (λ k. k < length cs)
        (λ a p g m. let q = table.low a p m in omega (arith, g, q))
        (λ a g. table.by a g ∙ sym (known.parents a g))
        (λ a b g k. alike cs known.once a b g k (a == b) (same_key (key_at cs a) (key_at cs b)) refl refl ∙ sym (hierarchy_same cs (key_at cs a) (key_at cs b)))
        (λ a g. sym (known.height a g)) i lt);
  }

-- the metaclasses of the first n classes
pub record MetaclassesTo (cs : List Class) (n : ℕ) (ms : List (Option ℕ)) : Type 0 where
  pub long : length ms ≡ n
  pub by : (p : ℕ) → p < n → IsPlaceOf cs (face_at cs p).metaclass (slice_index_or ms p None)

pub next_metaclass : (cs : List Class) (n : ℕ) (ms : List (Option ℕ)) (m : Option ℕ) → IsPlaceOf cs (face_at cs n).metaclass m → MetaclassesTo cs n ms → MetaclassesTo cs (n + 1) (ms ++ m ∷ [])
next_metaclass cs n ms m is so =
    let long = so.long in
    record {
      long = long_last ms m ∙ ap (λ z. z + 1) long;
      by = λ p lt. each_last (λ j o. IsPlaceOf cs (face_at cs j).metaclass o) ms m None (λ j l. so.by j (omega (arith, l, long))) (rw long is) p (omega (arith, lt, long));
    }
