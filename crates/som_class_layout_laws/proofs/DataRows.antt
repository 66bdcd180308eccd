-- Data places, and rows of these.
use Rattle.std.proofs.Common.{◌≡◌, ◌≢◌, ◌==◌, ◌⊎◌, ℕ, ◌+◌, ◌-◌, ◌<◌, ◌≤◌, inl, inr, Bool, true, false, if◌then◌else◌, List, [], ◌∷◌, ◌++◌, map, length, Option, Some, None, IsSome, slice_get, nat_lt, refl, sym, ap, ◌∙◌, subst, arith, true≢false}
use Rattle.std.specs.Prelude.{flat_map}
use Rattle.std.specs.Option.{option_or}
use Rattle.std.proofs.lemmas.Bool.{cases_eq, lt-ltb, le-ltb}
use Rattle.som_model.specs.Lists.{Mem, firsts, joined, without}
use Rattle.som_model.specs.Hierarchy.{Hierarchy, Tells, Falls}
use Rattle.som_model.specs.Ancestors.{Descends, itself, by_parent, anc}
use Rattle.som_model_laws.proofs.Laws.{ancestors, ancestors_step}
use Rattle.som_tables.specs.Rows.{Added, row_at, HasRow, HasToken, HaveRowsBelow, SomeHasToken, first_some, inherited, own_at, replaced_at, row_cell}
use Rattle.som_tables.proofs.Options.{slice_get-append_left, slice_get-append_right}
use Rattle.som_tables.proofs.Inherited.{Filled, inherited_filled, inherited_others, order_filled, own_at-same}
use Rattle.som_class_layout_laws.specs.Laying.{IsScheme, IsToken, Scheme}
use Rattle.som_class_layout_laws.specs.Places.{HasFirst, IsDataRow, IsPlaced, before, data_place, less, variable_at, variables}
use Rattle.som_class_layout_laws.proofs.Rows.{pair_is, parent_number, some_there}

-- Places among the ancestors of one class.
module _ {K V : Type 0} (h : Hierarchy K) (tells : Tells h) (own : K → List V) where
  skip : (a x : K) (xs : List K) (i : ℕ) → variable_at own (x ∷ xs) ((length (own x) + before h.same own a xs) + i) ≡ variable_at own xs (before h.same own a xs + i)
  skip a x xs i =
      let past : length (own x) ≤ (length (own x) + before h.same own a xs) + i = omega arith in
      let e : nat_lt ((length (own x) + before h.same own a xs) + i) (length (own x)) ≡ false = le-ltb _ _ past in
      let d : (length (own x) + before h.same own a xs) + i - length (own x) ≡ before h.same own a xs + i = omega arith in
      ap (λ (b : Bool). if b then Some (x, (length (own x) + before h.same own a xs) + i) else variable_at own xs ((length (own x) + before h.same own a xs) + i - length (own x))) e ∙ ap (variable_at own xs) d

  which_by : (a x : K) (xs : List K) (i : ℕ) (b : Bool) → h.same a x ≡ b → i < length (own a) → (Mem a xs → variable_at own xs (before h.same own a xs + i) ≡ Some (a, i)) → Mem a (x ∷ xs)
      → variable_at own (x ∷ xs) ((if b then 0 else length (own x) + before h.same own a xs) + i) ≡ Some (a, i)
  which_by a x xs i true e lt f m =
      let is : a ≡ x = tells.two a x e in
      let zero_i : 0 + i ≡ i = omega arith in
      let lt' : i < length (own x) = subst (λ z. i < length (own z)) is lt in
      ap (variable_at own (x ∷ xs)) zero_i
      ∙ ap (λ (b : Bool). if b then Some (x, i) else variable_at own xs (i - length (own x))) (lt-ltb i (length (own x)) lt')
      ∙ ap (λ z. Some (z, i)) (sym is)
  which_by a x xs i false e lt f (inr m) = skip a x xs i ∙ f m
  which_by a x xs i false e lt f (inl is) = absurd (let one : h.same a x ≡ true = subst (λ z. h.same a z ≡ true) is (tells.one a) in cc)

  -- at the place of a variable stands that variable
  pub variable_there : (a : K) (i : ℕ) → i < length (own a) → (xs : List K) → Mem a xs → variable_at own xs (before h.same own a xs + i) ≡ Some (a, i)
  variable_there a i lt [] m = absurd m
  variable_there a i lt (x ∷ xs) m = which_by a x xs i (h.same a x) refl lt (variable_there a i lt xs) m

  shown_by : (a x : K) (xs : List K) (i : ℕ) (b : Bool) → h.same a x ≡ b → i < length (own a) → (Mem a xs → slice_get (flat_map own xs) (before h.same own a xs + i) ≡ slice_get (own a) i) → Mem a (x ∷ xs)
      → slice_get (own x ++ flat_map own xs) ((if b then 0 else length (own x) + before h.same own a xs) + i) ≡ slice_get (own a) i
  shown_by a x xs i true e lt f m =
      let is : a ≡ x = tells.two a x e in
      let zero_i : 0 + i ≡ i = omega arith in
      let lt' : i < length (own x) = subst (λ z. i < length (own z)) is lt in
      ap (slice_get (own x ++ flat_map own xs)) zero_i ∙ slice_get-append_left (own x) (flat_map own xs) i lt' ∙ ap (λ z. slice_get (own z) i) (sym is)
  shown_by a x xs i false e lt f (inr m) =
      let sum : (length (own x) + before h.same own a xs) + i ≡ length (own x) + (before h.same own a xs + i) = omega arith in
      ap (slice_get (own x ++ flat_map own xs)) sum ∙ slice_get-append_right (own x) (flat_map own xs) (before h.same own a xs + i) ∙ f m
  shown_by a x xs i false e lt f (inl is) = absurd (let one : h.same a x ≡ true = subst (λ z. h.same a z ≡ true) is (tells.one a) in cc)

  shown_in : (a : K) (i : ℕ) → i < length (own a) → (xs : List K) → Mem a xs → slice_get (flat_map own xs) (before h.same own a xs + i) ≡ slice_get (own a) i
  shown_in a i lt [] m = absurd m
  shown_in a i lt (x ∷ xs) m = shown_by a x xs i (h.same a x) refl lt (shown_in a i lt xs) m

  module _ (falls : Falls h) where
    -- two variables of an object stand at two places
    pub places_apart : (x a b : K) (i j : ℕ) → Descends h x a → Descends h x b → i < length (own a) → j < length (own b) → data_place h own x a i ≡ data_place h own x b j → (a ≡ b) × (i ≡ j)
    places_apart x a b i j d e lt lu same =
        let p = variable_there a i lt (anc h x) ((ancestors h tells falls x a).1 d) in
        let q = variable_there b j lu (anc h x) ((ancestors h tells falls x b).1 e) in
        let two : Some (a, i) ≡ Some (b, j) = sym p ∙ ap (variable_at own (anc h x)) same ∙ q in
        let pair : (a, i) ≡ (b, j) = cc in
        (ap (λ (z : K × ℕ). z.0) pair, ap (λ (z : K × ℕ). z.1) pair)

    -- the variable at its place
    pub variable_shown : (x a : K) (i : ℕ) → Descends h x a → i < length (own a) → slice_get (variables h own x) (data_place h own x a i) ≡ slice_get (own a) i
    variable_shown x a i d lt = shown_in a i lt (anc h x) ((ancestors h tells falls x a).1 d)

    -- own variables come first
    pub own_place : (x : K) (i : ℕ) → data_place h own x x i ≡ i
    own_place x i =
        let zero_i : 0 + i ≡ i = omega arith in
        ap (λ l. before h.same own x l + i) (ancestors_step h falls x)
        ∙ ap (λ (b : Bool). (if b then 0 else length (own x) + before h.same own x (without (h.same x) (firsts h.same (joined (map (anc h) (h.parents x)))))) + i) (tells.one x) ∙ zero_i

-- Rows of places.
module _ {K V : Type 0} (s : Scheme K) (ok : IsScheme s) (own : K → List V) (shift : ℕ → ℕ) where
  abbrev h : Hierarchy K
  h = s.classes

  -- what the row of a class has for a variable of an ancestor
  abbrev cell_of : ℕ → ℕ × ℕ → ℕ
  cell_of n t = less (shift n) (data_place h own (s.key n) (s.key t.0) t.1)

  module _ (rows : List (Option (Added ℕ))) (placed : IsPlaced s own shift rows) where
    -- a row has the token of each variable of an ancestor
    pub has_place : (n : ℕ) (t : ℕ × ℕ) → HasRow rows n → IsToken s t → Descends h (s.key n) (s.key t.0) → HasToken rows n t
    has_place n t has is d = subst (λ (o : Option ℕ). IsSome o) (sym (placed.cells n t has is d)) refl

    -- a variable of a proper ancestor is in some parent's row
    pub parents_place : (n : ℕ) (a : Added ℕ) → n < s.count → map s.key a.parents ≡ h.parents (s.key n) → HaveRowsBelow n rows a.parents
        → (t : ℕ × ℕ) → IsToken s t → t.0 ≢ n → Descends h (s.key n) (s.key t.0) → SomeHasToken rows a.parents t
    parents_place n a lt parents below t is ne d = by (s.key n) refl d
      where
        by : (x : K) → s.key n ≡ x → Descends h x (s.key t.0) → SomeHasToken rows a.parents t
        by x e itself = absurd (ne (ok.apart t.0 n is.0 lt (sym e)))
        by x e (by_parent p m c) =
            let r = parent_number s ok rows n a.parents below p (subst (λ l. Mem p l) (sym (parents ∙ ap h.parents e)) m) in
            some_there s ok (λ q. inherited rows q t) r.0 a.parents r.1 (has_place r.0 t r.4 is (subst (λ z. Descends h z (s.key t.0)) r.2 c))

    module _ (n : ℕ) (a : Added ℕ) (row : IsDataRow s own shift rows n a) where
      -- the cell of another class's variable
      other_place : (t : ℕ × ℕ) → IsToken s t → t.0 ≢ n
          → (replaced_at a.replaced t ≡ Some (cell_of n t)) ⊎ ((replaced_at a.replaced t ≡ None) × HasFirst s own shift n a.parents t)
          → row_cell (λ q. inherited rows q t) n t a ≡ Some (cell_of n t)
      other_place t is ne (inl e) = ap (λ o. option_or o (option_or (own_at n a.introduced t) (first_some (λ q. inherited rows q t) a.parents))) e
      other_place t is ne (inr f) =
          let not_mine : own_at n a.introduced t ≡ None = ap (λ (b : Bool). if b then slice_get a.introduced t.1 else None) (other_class t.0 n ne) in
          let below = subst (λ l. HaveRowsBelow n rows l) f.1.parents_are row.below in
          let first : inherited rows f.1.first t ≡ Some (cell_of f.1.first t) = placed.cells f.1.first t below.0.1 is f.1.below in
          ap (λ o. option_or o (option_or (own_at n a.introduced t) (first_some (λ q. inherited rows q t) a.parents))) f.0
          ∙ ap (λ o. option_or o (first_some (λ q. inherited rows q t) a.parents)) not_mine
          ∙ ap (first_some (λ q. inherited rows q t)) f.1.parents_are
          ∙ ap (λ o. option_or o (first_some (λ q. inherited rows q t) f.1.others)) first
          ∙ ap Some f.1.same
        where
          other_class : (m n : ℕ) → m ≢ n → (m == n) ≡ false
          other_class m n f = grind (arith, f)

      -- the cell of the new row is the place, less its shift
      pub next_place : (t : ℕ × ℕ) → IsToken s t → Descends h (s.key n) (s.key t.0) → row_cell (λ q. inherited rows q t) n t a ≡ Some (cell_of n t)
      next_place t is d = elim (cases_eq t.0 n) [
        | inl e ↦ (
            let lt : t.1 < s.introduced n = subst (λ i. t.1 < s.introduced i) e is.1 in
            let rest = first_some (λ q. inherited rows q t) a.parents in
            let rep : replaced_at a.replaced t ≡ None = ap (replaced_at a.replaced) (pair_is t n e) ∙ row.not_own t.1 lt in
            let mine : own_at n a.introduced t ≡ Some (less (shift n) t.1) = ap (own_at n a.introduced) (pair_is t n e) ∙ own_at-same n a.introduced t.1 ∙ row.first t.1 lt in
            let at : t.1 ≡ data_place h own (s.key n) (s.key t.0) t.1 = sym (ap (λ i. data_place h own (s.key n) (s.key i) t.1) e ∙ own_place h ok.tells own ok.falls (s.key n) t.1) in
            ap (λ o. option_or o (option_or (own_at n a.introduced t) rest)) rep ∙ ap (λ o. option_or o rest) mine ∙ ap (λ i. Some (less (shift n) i)) at)
        | inr ne ↦ other_place t is ne (row.others t is ne d)
      ]

      had_row : (ds : List (Option (Added ℕ))) → Filled rows ds n a → (p : ℕ) → p ≢ n → HasRow ds p → HasRow rows p
      had_row ds filled p ne has = subst (λ o. IsSome o) (filled.others p ne) has

      -- the rows have their places with the new one too
      pub placed_filled : (ds : List (Option (Added ℕ))) → Filled rows ds n a → IsPlaced s own shift ds
      placed_filled ds filled = record {
        order = order_filled rows ds n a placed.order filled row.below;
        numbered = λ p has. elim (cases_eq p n) [ inl e ↦ subst (λ i. i < s.count) (sym e) row.numbered | inr ne ↦ placed.numbered p (had_row ds filled p ne has) ];
        cells = λ p t has is d. elim (cases_eq p n) [
          | inl e ↦ subst (λ i. inherited ds i t ≡ Some (cell_of i t)) (sym e)
              (inherited_filled rows ds n a placed.order filled row.below t ∙ next_place t is (subst (λ i. Descends h (s.key i) (s.key t.0)) e d))
          | inr ne ↦ inherited_others rows ds n a placed.order filled p ne t ∙ placed.cells p t (had_row ds filled p ne has) is d
        ];
      }

-- where no class has a row, the rows are placed
pub none_placed : {K V : Type 0} (s : Scheme K) (own : K → List V) (shift : ℕ → ℕ) (rows : List (Option (Added ℕ))) → ((n : ℕ) → row_at rows n ≡ None) → IsPlaced s own shift rows
none_placed s own shift rows none = record {
  order = λ n a e. absurd (let f : None ≡ Some a = sym (none n) ∙ e in cc);
  numbered = λ n has. absurd (no_row n has);
  cells = λ n t has is d. absurd (no_row n has);
}
  where
    no_row : (n : ℕ) → HasRow rows n → ⊥
    no_row n has = true≢false (sym (subst (λ (o : Option (Added ℕ)). IsSome o) (none n) has))

-- only the shifts of rows that are there count
pub placed_others : {K V : Type 0} (s : Scheme K) (own : K → List V) (shift other : ℕ → ℕ) (rows : List (Option (Added ℕ))) → IsPlaced s own shift rows → ((n : ℕ) → HasRow rows n → other n ≡ shift n) → IsPlaced s own other rows
placed_others s own shift other rows placed same = record {
  order = placed.order;
  numbered = placed.numbered;
  cells = λ n t has is d. placed.cells n t has is d ∙ ap (λ i. Some (less i (data_place s.classes own (s.key n) (s.key t.0) t.1))) (sym (same n has));
}
