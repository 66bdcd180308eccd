-- What the code's functions answer, by the facts on classes.
use Rattle.std.proofs.Common.{◌≡◌, ◌≢◌, ◌⊎◌, ℕ, zero, suc, ◌+◌, ◌-◌, ◌<◌, ◌≤◌, inl, inr, if◌then◌else◌, Bool, true, false, List, [], ◌∷◌, ◌++◌, length, map, take, drop, get_or, Option, Some, None, Result, Ok, Err, IfOk, slice_get, slice_set, refl, sym, ap, ◌∙◌, subst, arith, length-append}
use Rattle.std.proofs.lemmas.Option.{slice_get_within}
use Rattle.som_model.specs.declared.key.ClassKey.TheVariants as keys
use Rattle.som_model.specs.Lists.{Mem}
use Rattle.som_model.specs.Class.{Class}
use Rattle.som_model.specs.Classes.{hierarchy}
use Rattle.som_model.specs.Implementation.{is_kernel}
use Rattle.som_tables.specs.Rows.{Added, AreDistinct, AreInherited, GivesTokens, HasRow, IsDeclared, KeepsOtherRows, class_with, row_at}
use Rattle.som_tables.proofs.LateRows.{Filled-set, HasRow-set_same}
use Rattle.som_tables.specs.Layout.{Extends}
use Rattle.som_tables.proofs.Options.{Extends-append, take-Extends}
use Rattle.som_meta.specs.Numbering.{IsNumbered, Numbering, key_at, tokens_of}
use Rattle.som_meta.proofs.Once.{step_is}
use Rattle.som_class_ids.specs.Numbers.{IsProxy}
use Rattle.som_class_methods.specs.Members.{HaveTokens, override_method}
use Rattle.som_class_table.specs.Loaded.{AreLoaded}
use Rattle.som_class_bodies.specs.declared.adding.Way.{Way}
use Rattle.som_class_bodies.specs.declared.adding.Way.TheVariants as ways
use Rattle.som_class_bodies.specs.declared.bodies.Draft.{Draft}
use Rattle.som_class_bodies.specs.declared.body.BodyAt.{BodyAt}
use Rattle.som_class_bodies.specs.Bodies.{AreBodies, rows_with}
use Rattle.som_class_bodies.specs.Adding.{AreChosen, AreForwarded, AreOthers, AreOwn, AreSelected, IsChosenCell, bodies_from, cells_from, life, numbers_from, own_way_of}
use Rattle.som_class_bodies.specs.Filling.{IsFilling, row_of}
use Rattle.som_class_bodies.proofs.Facts.{AreSelecting, are_selected, overrides, owns, proxies}
use Rattle.som_class_bodies.proofs.Rows.{more_bodies}

if_ok : {A E : Type 0} {P Q : A → Type 0} (r : Result A E) → IfOk r P → ((x : A) → P x → Q x) → IfOk r Q
if_ok (Ok x) h f = f x h
if_ok (Err e) h f = tt

-- ---- the bodies of a class

pub not_overriding : (k : Numbering) (n : ℕ) (way : Way) → way ≡ own_way_of k n → way ≡ ways.Overriding → ⊥
not_overriding k n way e f = by (is_kernel (key_at k n)) (sym f ∙ e)
  where
    by : (b : Bool) → ways.Overriding ≡ (if b then ways.Kernel else ways.Introduced) → ⊥
    by true e = cc
    by false e = cc

pub own_answer : {E : Type 0} (k : Numbering) → AreLoaded k → (n : ℕ) → IsNumbered k n → (ts : List (ℕ × ℕ)) → ts ≡ tokens_of k n → (way : Way) → way ≡ own_way_of k n
    → (r : Result (List BodyAt) E) → IfOk r (λ xs. xs ≡ bodies_from n way 0 ts) → IfOk r (λ xs. AreOwn k n xs)
own_answer k l n num ts e way f r h = if_ok r h (λ xs g.
    subst (λ z. AreOwn k n z) (sym (g ∙ ap (λ z. bodies_from n way 0 z) e ∙ ap (λ w. bodies_from n w 0 (tokens_of k n)) f)) (owns k l n num))

pub override_answer : {E : Type 0} (k : Numbering) → AreLoaded k → (n : ℕ) → n < length k.classes → (ts : List (ℕ × ℕ)) → ((c : Class) → slice_get k.classes n ≡ Some c → HaveTokens k (map override_method c.decl.overrides) ts)
    → (r : Result (List BodyAt) E) → IfOk r (λ xs. xs ≡ bodies_from n ways.Overriding 0 ts) → IfOk r (λ xs. AreOthers k n xs)
override_answer k l n lt ts have r h = if_ok r h (λ xs g. subst (λ z. AreOthers k n z) (sym g) (overrides k l n ts lt have).0)

pub proxy_answer : (k : Numbering) → AreLoaded k → (n of : ℕ) → IsNumbered k n → key_at k n ≡ keys.Proxy (key_at k of) → (all first second added : List BodyAt) → all ≡ first ++ added → added ≡ second
    → first ≡ bodies_from n ways.Nothing 0 life → AreForwarded k n (key_at k of) second → AreOthers k n all
proxy_answer k l n of num key all first second added e s f fwd =
    subst (λ z. AreOthers k n z) (sym (e ∙ ap (λ z. z ++ added) f ∙ ap (λ z. bodies_from n ways.Nothing 0 life ++ z) (s ∙ fwd.is)))
    (proxies k l n (key_at k of) num key fwd.tokens fwd.are fwd.methods)

-- the one parent of a proxy
pub one_parent : (k : Numbering) (n : ℕ) → IsNumbered k n → (ns : List ℕ) → map (key_at k) ns ≡ (hierarchy k.classes).parents (key_at k n) → ((p : ℕ) → Mem p ns → p < n)
    → IsProxy k n
    → (0 < length ns) × ((x : ℕ) → slice_get ns 0 ≡ Some x → IsNumbered k x × (key_at k n ≡ keys.Proxy (key_at k x)))
one_parent k n num [] e lower w = absurd (let z : [] ≡ w.of ∷ [] = e ∙ w.parents in cc)
one_parent k n num (p ∷ ns) e lower w = (
  omega arith,
  λ x is.
      let same : p ≡ x = cc in
      let less = lower p (inl refl) in
      let both : key_at k p ∷ map (key_at k) ns ≡ w.of ∷ [] = e ∙ w.parents in
      let key : key_at k p ≡ w.of = cc in
      let lt = num in
      (omega (arith, same, less, lt), w.key ∙ ap keys.Proxy (sym key ∙ ap (key_at k) same)),
)

-- ---- what it selects

pub item_mem : {A : Type 0} (xs : List A) (i : ℕ) (x : A) → i < length xs → x ≡ get_or xs i x → Mem x xs
item_mem [] i x lt e = absurd (omega (arith, lt))
item_mem (y ∷ xs) zero x lt e = inl e
item_mem (y ∷ xs) (suc i) x lt e = inr (item_mem xs i x (omega (arith, lt)) e)

tokens_more : (rs : List ((ℕ × ℕ) × ℕ)) (r : (ℕ × ℕ) × ℕ) → map (λ (z : (ℕ × ℕ) × ℕ). z.0) (rs ++ r ∷ []) ≡ map (λ (z : (ℕ × ℕ) × ℕ). z.0) rs ++ r.0 ∷ []
tokens_more [] r = refl
tokens_more (q ∷ rs) r = ap (λ l. q.0 ∷ l) (tokens_more rs r)

pub none_chosen : (k : Numbering) (rows : List (Option (Added ℕ))) (n : ℕ) (ts : List (ℕ × ℕ)) → AreChosen k rows n (take 0 ts) []
none_chosen k rows n ts = record { tokens = refl; each = λ r m. absurd m }

pub chosen_more : (k : Numbering) (rows : List (Option (Added ℕ))) (n : ℕ) (ts : List (ℕ × ℕ)) (i : ℕ) (t : ℕ × ℕ) (cell : ℕ) (rs : List ((ℕ × ℕ) × ℕ)) → i < length ts → t ≡ get_or ts i t
    → AreChosen k rows n (take i ts) rs → IsChosenCell k rows n t cell → AreChosen k rows n (take (i + 1) ts) (rs ++ (t, cell) ∷ [])
chosen_more k rows n ts i t cell rs lt is have one = record {
  tokens = tokens_more rs (t, cell) ∙ ap (λ l. l ++ t ∷ []) have.tokens ∙ sym (step_is ts i t lt is);
  each = λ r m. by rs have.each r m;
}
  where
    by : (qs : List ((ℕ × ℕ) × ℕ)) → ((r : (ℕ × ℕ) × ℕ) → Mem r qs → IsChosenCell k rows n r.0 r.1) → (r : (ℕ × ℕ) × ℕ) → Mem r (qs ++ (t, cell) ∷ []) → IsChosenCell k rows n r.0 r.1
    by [] h r (inl e) = subst (λ (z : (ℕ × ℕ) × ℕ). IsChosenCell k rows n z.0 z.1) (sym e) one
    by [] h r (inr m) = absurd m
    by (q ∷ qs) h r (inl e) = h r (inl e)
    by (q ∷ qs) h r (inr m) = by qs (λ z w. h z (inr w)) r m

take_whole : {A : Type 0} (i : ℕ) (xs : List A) → length xs ≤ i → take i xs ≡ xs
take_whole zero [] le = refl
take_whole zero (x ∷ xs) le = absurd (omega (arith, le))
take_whole (suc i) [] le = refl
take_whole (suc i) (x ∷ xs) le = ap (λ l. x ∷ l) (take_whole i xs (omega (arith, le)))

pub all_selected : (k : Numbering) (rows : List (Option (Added ℕ))) (n : ℕ) (ts : List (ℕ × ℕ)) (i : ℕ) (rs : List ((ℕ × ℕ) × ℕ)) → AreSelecting k n ts → length ts ≤ i → AreChosen k rows n (take i ts) rs → AreSelected k rows n rs
all_selected k rows n ts i rs s le c = are_selected k rows n ts rs s (subst (λ l. AreChosen k rows n l rs) (take_whole i ts le) c)

-- ---- the row

pub numbered_row : (k : Numbering) (rows : List (Option (Added ℕ))) (all : List BodyAt) → AreBodies k (rows_with rows all) → (n : ℕ) → IsDeclared rows n → IsNumbered k n
numbered_row k rows all laid n declared = subst (λ m. n < m) laid.each (slice_get_within rows n None declared)

module _ (k : Numbering) (rows : List (Option (Added ℕ))) (before : List BodyAt) (laid : AreBodies k (rows_with rows before)) (n : ℕ) (parents : List ℕ) (d : Draft) (f : IsFilling k rows before n parents d) (all : List BodyAt) where
  abbrev row : Added ℕ
  row = row_of before parents d

  -- where memory runs out before all bodies are added
  pub front_right : (all ≡ before) ⊎ (all ≡ before ++ d.own) → AreBodies k (rows_with rows all) × Extends before all
  front_right (inl e) = (subst (λ z. AreBodies k (rows_with rows z)) (sym e) laid, subst (λ z. Extends before z) (sym e) (λ i x h. h))
  front_right (inr e) =
      let ext = Extends-append before d.own in
      (subst (λ z. AreBodies k (rows_with rows z)) (sym e) (more_bodies k rows before (before ++ d.own) laid ext f.first), subst (λ z. Extends before z) (sym e) ext)

  module _ (is : all ≡ before ++ d.own ++ d.others) where
    ext : Extends before (before ++ d.own ++ d.others)
    ext i x e = Extends-append (before ++ d.own) d.others i x (Extends-append before d.own i x e)

    -- where it runs out after
    pub whole_right : AreBodies k (rows_with rows all) × Extends before all
    whole_right = (subst (λ z. AreBodies k (rows_with rows z)) (sym is) (more_bodies k rows before (before ++ d.own ++ d.others) laid ext f.second), subst (λ z. Extends before z) (sym is) ext)

    module _ (first second : ℕ) (starts : first ≡ length before) (ends : second ≡ length all - length d.others) where
      second_is : second ≡ length before + length d.own
      second_is =
          let a = ap length is in
          let b = length-append (before ++ d.own) d.others in
          let c = length-append before d.own in
          omega (arith, a, b, c, ends)

      pub first_below : first ≤ second
      first_below = let s = second_is in omega (arith, s, starts)

      pub second_within : second ≤ length all
      second_within = omega (arith, ends)

      drop_front : (xs ys : List BodyAt) → drop (length xs) (xs ++ ys) ≡ ys
      drop_front [] ys = refl
      drop_front (x ∷ xs) ys = drop_front xs ys

      module _ (cells : List ℕ) (own_cells : cells ≡ numbers_from first (second - first)) (replaced : List ((ℕ × ℕ) × ℕ)) (all_cells : replaced ≡ d.selected ++ cells_from second (drop second all)) where
        cells_are : cells ≡ numbers_from (length before) (length d.own)
        cells_are =
            let s = second_is in
            let count : second - first ≡ length d.own = omega (arith, s, starts) in
            own_cells ∙ ap (numbers_from first) count ∙ ap (λ z. numbers_from z (length d.own)) starts

        replaced_are : replaced ≡ d.selected ++ cells_from (length (before ++ d.own)) d.others
        replaced_are =
            let s = second_is in
            let c = length-append before d.own in
            let at : second ≡ length (before ++ d.own) = omega (arith, s, c) in
            all_cells ∙ ap (λ z. d.selected ++ cells_from z (drop z all)) at ∙ ap (λ z. d.selected ++ cells_from (length (before ++ d.own)) (drop (length (before ++ d.own)) z)) is
            ∙ ap (λ z. d.selected ++ cells_from (length (before ++ d.own)) z) (drop_front (before ++ d.own) d.others)

        pub few_cells : length cells ≤ 65535
        few_cells = subst (λ z. length z ≤ 65535) (sym cells_are) f.few

        pub cells_above : AreInherited rows parents replaced
        cells_above = subst (λ z. AreInherited rows parents z) (sym replaced_are) f.above

        pub cells_distinct : AreDistinct replaced
        cells_distinct = subst (λ z. AreDistinct z) (sym replaced_are) f.distinct

        pub filled_right : IsDeclared rows n → (now : List (Option (Added ℕ))) → now ≡ slice_set rows n (Some (class_with parents cells replaced)) → KeepsOtherRows rows now n
            → GivesTokens rows now n (class_with parents cells replaced) → AreBodies k (rows_with now all)
        filled_right declared now e kept gives =
            let same : class_with parents cells replaced ≡ row = ap (λ z. class_with parents z replaced) cells_are ∙ ap (λ z. class_with parents (numbers_from (length before) (length d.own)) z) replaced_are in
            subst (λ z. AreBodies k (rows_with now z)) (sym is) (f.filled declared now (e ∙ ap (λ z. slice_set rows n (Some z)) same) kept (subst (λ z. GivesTokens rows now n z) same gives))

-- ---- all bodies, in the form that the code has

pub whole_is : (all before a b own others : List BodyAt) → all ≡ before ++ a ++ b → a ≡ own → b ≡ others → all ≡ before ++ own ++ others
whole_is all before a b own others e f g = e ∙ ap (λ z. before ++ z ++ b) f ∙ ap (λ z. before ++ own ++ z) g

pub front_is : (all before a own : List BodyAt) → (all ≡ before) ⊎ (all ≡ before ++ a) → a ≡ own → (all ≡ before) ⊎ (all ≡ before ++ own)
front_is all before a own (inl e) f = inl e
front_is all before a own (inr e) f = inr (e ∙ ap (λ z. before ++ z) f)

pub others_within : (all before own others : List BodyAt) → all ≡ before ++ own ++ others → length others ≤ length all
others_within all before own others is = let a = ap length is in let b = length-append (before ++ own) others in omega (arith, a, b)

pub ends_is : (a b x y : ℕ) → a ≡ x → b ≡ y → a - b ≡ x - y
ends_is a b x y e f = ap (λ z. z - b) e ∙ ap (λ z. x - z) f

pub cells_is : (replaced sel now : List ((ℕ × ℕ) × ℕ)) (second : ℕ) (seen all : List BodyAt) → replaced ≡ now → now ≡ sel ++ cells_from second (drop second seen) → seen ≡ all → replaced ≡ sel ++ cells_from second (drop second all)
cells_is replaced sel now second seen all e f g = e ∙ f ∙ ap (λ z. sel ++ cells_from second (drop second z)) g

pub filling_at : (k : Numbering) (rows : List (Option (Added ℕ))) (before : List BodyAt) (n : ℕ) (d : Draft) (seen parents : List ℕ)
    → ((ps : List ℕ) → map (key_at k) ps ≡ (hierarchy k.classes).parents (key_at k n) → ((p : ℕ) → Mem p ps → p < n) → IsFilling k rows before n ps d) → seen ≡ parents
    → map (key_at k) parents ≡ (hierarchy k.classes).parents (key_at k n) → ((p : ℕ) → Mem p parents → p < n) → IsFilling k rows before n seen d
filling_at k rows before n d seen parents f e keys lower = subst (λ ps. IsFilling k rows before n ps d) (sym e) (f parents keys lower)

pub filled_others : (rows now : List (Option (Added ℕ))) (n : ℕ) (a : Added ℕ) → IsDeclared rows n → now ≡ slice_set rows n (Some a) → HasRow now n × ((m : ℕ) → m ≢ n → row_at now m ≡ row_at rows m)
filled_others rows now n a declared e = (
  subst (λ z. HasRow z n) (sym e) (HasRow-set_same rows n a declared),
  λ m ne. ap (λ z. row_at z m) e ∙ (Filled-set rows n a declared).others m ne,
)

-- where memory runs out, the added bodies are cut off again
pub kept_bodies : (k : Numbering) (rows now : List (Option (Added ℕ))) (before all : List BodyAt) → AreBodies k (rows_with rows before) → now ≡ rows → all ≡ before → AreBodies k (rows_with now all)
kept_bodies k rows now before all laid e f = subst (λ z. AreBodies k (rows_with z all)) (sym e) (subst (λ z. AreBodies k (rows_with rows z)) (sym f) laid)

pub cut_back : (before grown all : List BodyAt) (count : ℕ) → Extends before grown → count ≡ length before → all ≡ take count grown → all ≡ before
cut_back before grown all count ext e f = f ∙ ap (λ n. take n grown) e ∙ take-Extends before grown ext

pub same_extends : (before all : List BodyAt) → all ≡ before → Extends before all
same_extends before all e = subst (λ z. Extends before z) (sym e) (λ i x h. h)

pub same_rows : (rows now : List (Option (Added ℕ))) (before all : List BodyAt) → now ≡ rows → all ≡ before → rows_with now all ≡ rows_with rows before
same_rows rows now before all e f = ap (λ z. rows_with z all) e ∙ ap (λ z. rows_with rows z) f
