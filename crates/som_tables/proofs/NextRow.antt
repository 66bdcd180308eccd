-- A table in which one more class has its row.
use Rattle.std.proofs.Common.{◌≡◌, ◌≢◌, ℕ, ◌<◌, ◌≤◌, inl, inr, List, [], length, Option, Some, None, IsSome, is_some, slice_get, sym, ap, ◌∙◌, subst, arith}
use Rattle.std.specs.Prelude.{slice_set}
use Rattle.std.specs.Option.{option_or, option_map_or, option_flatten, unwrap_or}
use Rattle.std.proofs.lemmas.Option.{slice_get_within}
use Rattle.std.proofs.lemmas.List.{length-set}
use Rattle.std.proofs.lemmas.Bool.{cases_eq}
use Rattle.som_tables.specs.Rows.{Added, row_at, first_some, replaced_at, own_at, inherited, HasToken, HasRow, SomeHasToken, HaveRowsBelow, AreInherited, IsDeclared, introduced_count}
use Rattle.som_tables.specs.Layout.{found_at, line_at, start_among, start_of, Extends, IsBlock, IsLaid, IsTable, IsLine, AreInside, next_cell}
use Rattle.som_tables.proofs.Options.{none_is_not_some, none_else_some, option_or-some, slice_get_some, slice_get-set_same, slice_get-set_other}
use Rattle.som_tables.proofs.Inherited.{first_some_where, Filled, inherited_others, inherited_filled, order_filled, replaced_inherited, own_at_within, own_at-same, own_at-other, tokens_from_row}
use Rattle.som_tables.proofs.Laid.{IsBlock-same, IsBlock-none, IsTable-grown}
use Rattle.som_tables.proofs.LateRows.{Filled-set}

module _ {C : Type 0} (cs ds : List (Option (Added C))) (n : ℕ) (row : Added C) (start : ℕ → ℕ → Option ℕ) (at : ℕ → Option ℕ) (cells : List C) (laid : IsLaid cs start cells)
    (below : HaveRowsBelow n cs row.parents) (known : AreInherited cs row.parents row.replaced) (next : IsLine cs n row at cells) (filled : Filled cs ds n row) where
  row_other : (c : ℕ) → c ≢ n → (t : ℕ × ℕ) → inherited ds c t ≡ inherited cs c t
  row_other = inherited_others cs ds n row laid.order filled

  row_is : (t : ℕ × ℕ) → inherited ds n t ≡ option_or (replaced_at row.replaced t) (option_or (own_at n row.introduced t) (first_some (λ p. inherited cs p t) row.parents))
  row_is = inherited_filled cs ds n row laid.order filled below

  count_other : (a : ℕ) → a ≢ n → introduced_count ds a ≡ introduced_count cs a
  count_other a ne = ap (λ o. option_map_or (λ (x : Added C). length x.introduced) o 0) (filled.others a ne)

  count_own : introduced_count ds n ≡ length row.introduced
  count_own = ap (λ o. option_map_or (λ (x : Added C). length x.introduced) o 0) filled.is

  count_before : introduced_count cs n ≡ 0
  count_before = ap (λ o. option_map_or (λ (x : Added C). length x.introduced) o 0) filled.was

  -- a token that an old row has is of another class
  of_another : (c a p : ℕ) → HasToken cs c (a, p) → a ≢ n
  of_another c a p h e = let i = laid.inside c a p h in let none : introduced_count cs a ≡ 0 = ap (introduced_count cs) e ∙ count_before in omega (arith, i.1, none)

  inside_parents : (t : ℕ × ℕ) → SomeHasToken cs row.parents t → (t.0 < n) × (t.1 < introduced_count cs t.0)
  inside_parents t s = let parent = first_some_where (λ p. (p < n) × HasRow cs p) (λ q. inherited cs q t) row.parents below s in let i = laid.inside parent.0 t.0 t.1 parent.2 in
      (omega (arith, parent.1.0, i.0), i.1)

  inside_next : (a p : ℕ) → HasToken ds n (a, p) → (a ≤ n) × (p < introduced_count ds a)
  inside_next a p h = elim ((tokens_from_row cs ds n row known row_is (a, p)).0 h) [
    | inl above ↦ (let i = inside_parents (a, p) above in let la : a < n = i.0 in (omega arith, subst (λ m. p < m) (sym (count_other a (λ e. omega (arith, la, e)))) i.1))
    | inr own ↦ (let i = own_at_within n row.introduced (a, p) own in let e : a ≡ n = i.0 in (omega arith, subst (λ m. p < m) (sym (ap (introduced_count ds) e ∙ count_own)) i.1))
  ]

  inside_all : (c a p : ℕ) → HasToken ds c (a, p) → (a ≤ c) × (p < introduced_count ds a)
  inside_all c a p h = elim (cases_eq c n) [
    | inl e ↦ subst (λ i. (a ≤ i) × (p < introduced_count ds a)) (sym e) (inside_next a p (subst (λ i. HasToken ds i (a, p)) e h))
    | inr ne ↦ (let old = subst (λ o. IsSome o) (row_other c ne (a, p)) h in let i = laid.inside c a p old in (i.0, subst (λ m. p < m) (sym (count_other a (of_another c a p old))) i.1))
  ]

  not_replaced : (p : ℕ) → replaced_at row.replaced (n, p) ≡ None
  not_replaced p = none_else_some (replaced_at row.replaced (n, p)) (λ s.
      let i = inside_parents (n, p) (replaced_inherited cs row.parents row.replaced (n, p) known s) in let lt : n < n = i.0 in omega arith)

  own_cell : (p : ℕ) → p < length row.introduced → slice_get row.introduced p ≡ inherited ds n (n, p)
  own_cell p lt =
      let above = first_some (λ q. inherited cs q (n, p)) row.parents in
      sym (option_or-some (slice_get row.introduced p) above (slice_get_some row.introduced p lt))
      ∙ ap (λ o. option_or o above) (sym (own_at-same n row.introduced p))
      ∙ ap (λ o. option_or o (option_or (own_at n row.introduced (n, p)) above)) (sym (not_replaced p))
      ∙ sym (row_is (n, p))

  cell_shared : (a : ℕ) → a ≢ n → (p : ℕ) → next_cell cs row.parents row.replaced a p ≡ inherited ds n (a, p)
  cell_shared a ne p =
      ap (λ o. option_or (replaced_at row.replaced (a, p)) (option_or o (first_some (λ q. inherited cs q (a, p)) row.parents))) (sym (own_at-other n a row.introduced p ne))
      ∙ sym (row_is (a, p))

  block_shared : (a : ℕ) → a ≢ n → IsBlock cells (at a) (introduced_count ds a) (λ p. inherited ds n (a, p))
  block_shared a ne = IsBlock-same cells (at a) (introduced_count cs a) (introduced_count ds a) (next_cell cs row.parents row.replaced a) (λ p. inherited ds n (a, p))
      (sym (count_other a ne)) (λ p _. cell_shared a ne p) (next.blocks a ne)

  block_own : IsBlock cells (at n) (introduced_count ds n) (λ p. inherited ds n (n, p))
  block_own = IsBlock-same cells (at n) (length row.introduced) (introduced_count ds n) (λ p. slice_get row.introduced p) (λ p. inherited ds n (n, p))
      (sym count_own) (λ p lt. let k : p < length row.introduced = omega (arith, count_own) in own_cell p k) next.own

  block_next : (a : ℕ) → IsBlock cells (at a) (introduced_count ds a) (λ p. inherited ds n (a, p))
  block_next a = elim (cases_eq a n) [
    | inl e ↦ subst (λ i. IsBlock cells (at i) (introduced_count ds i) (λ p. inherited ds n (i, p))) (sym e) block_own
    | inr ne ↦ block_shared a ne
  ]

  -- the class was in no row before
  start_none : (o : Option ℕ) (f : ℕ → Option C) → IsBlock cells o (introduced_count cs n) f → o ≡ None
  start_none o f b = none_else_some o (λ s. let some = b.some s in omega (arith, some, count_before))

  block_other : (c : ℕ) → c ≢ n → (a : ℕ) → IsBlock cells (start c a) (introduced_count ds a) (λ p. inherited ds c (a, p))
  block_other c ne a = elim (cases_eq a n) [
    | inl e ↦ (let none : start c a ≡ None = subst (λ i. start c i ≡ None) (sym e) (start_none (start c n) (λ p. inherited cs c (n, p)) (laid.blocks c n)) in
        subst (λ s. IsBlock cells s (introduced_count ds a) (λ p. inherited ds c (a, p))) (sym none)
        (IsBlock-none cells (introduced_count ds a) (λ p. inherited ds c (a, p)) (λ p _. row_other c ne (a, p) ∙ none_else_some (inherited cs c (a, p)) (λ s. of_another c a p s e))))
    | inr other ↦ IsBlock-same cells (start c a) (introduced_count cs a) (introduced_count ds a) (λ p. inherited cs c (a, p)) (λ p. inherited ds c (a, p)) (sym (count_other a other))
        (λ p _. sym (row_other c ne (a, p))) (laid.blocks c a)
  ]

  module _ (more : ℕ → ℕ → Option ℕ) (here : (a : ℕ) → more n a ≡ at a) (there : (c a : ℕ) → c ≢ n → more c a ≡ start c a) where
    block_all : (c a : ℕ) → IsBlock cells (more c a) (introduced_count ds a) (λ p. inherited ds c (a, p))
    block_all c a = elim (cases_eq c n) [
      | inl e ↦ subst (λ i. IsBlock cells (more i a) (introduced_count ds a) (λ p. inherited ds i (a, p))) (sym e)
          (subst (λ o. IsBlock cells o (introduced_count ds a) (λ p. inherited ds n (a, p))) (sym (here a)) (block_next a))
      | inr ne ↦ subst (λ o. IsBlock cells o (introduced_count ds a) (λ p. inherited ds c (a, p))) (sym (there c a ne)) (block_other c ne a)
    ]

    pub IsLaid-filled : IsLaid ds more cells
    IsLaid-filled = record { order = order_filled cs ds n row laid.order filled below; inside = inside_all; blocks = block_all }

-- the table with the row
module _ {C : Type 0} (cs : List (Option (Added C))) (lines : List (Option (List (Option ℕ)))) (starts more : List (Option ℕ)) (cells new : List C) (n : ℕ) (row : Added C) (line : List (Option ℕ)) (table : IsTable cs lines starts cells) (declared : IsDeclared cs n)
    (below : HaveRowsBelow n cs row.parents) (known : AreInherited cs row.parents row.replaced) (grown : Extends cells new) (extended : Extends starts more) (inside : AreInside more line) (next : IsLine cs n row (start_among line more) new) where
  filled : Filled cs (slice_set cs n (Some row)) n row
  filled = Filled-set cs n row declared

  grown_table : IsTable cs lines more new
  grown_table = IsTable-grown cs lines starts more cells new extended grown table

  in_lines : n < length lines
  in_lines = let in_classes = slice_get_within cs n None declared in omega (arith, table.long, in_classes)

  here : found_at (slice_set lines n (Some line)) n ≡ Some line
  here = ap option_flatten (slice_get-set_same lines n (Some line) in_lines)

  elsewhere : (c : ℕ) → c ≢ n → found_at (slice_set lines n (Some line)) c ≡ found_at lines c
  elsewhere c ne = ap option_flatten (slice_get-set_other lines n c (Some line) ne)

  lines_inside : (c : ℕ) → AreInside more (line_at (slice_set lines n (Some line)) c)
  lines_inside c = elim (cases_eq c n) [
    | inl e ↦ subst (λ i. AreInside more (line_at (slice_set lines n (Some line)) i)) (sym e) (subst (λ o. AreInside more (unwrap_or o [])) (sym here) inside)
    | inr ne ↦ subst (λ o. AreInside more (unwrap_or o [])) (sym (elsewhere c ne)) (grown_table.inside c)
  ]

  pub IsTable-fill : IsTable (slice_set cs n (Some row)) (slice_set lines n (Some line)) more new
  IsTable-fill = record {
    laid = IsLaid-filled cs (slice_set cs n (Some row)) n row (start_of lines more) (start_among line more) new grown_table.laid below known next filled (start_of (slice_set lines n (Some line)) more)
        (λ a. ap (λ o. start_among (unwrap_or o []) more a) here) (λ c a ne. ap (λ o. start_among (unwrap_or o []) more a) (elsewhere c ne));
    long = length-set lines n (Some line) ∙ table.long ∙ sym (length-set cs n (Some row));
    none = λ c e. elim (cases_eq c n) [
      | inl is ↦ absurd (none_is_not_some (row_at (slice_set cs n (Some row)) n) (ap (row_at (slice_set cs n (Some row))) (sym is) ∙ e) (ap (λ o. is_some o) filled.is))
      | inr ne ↦ elsewhere c ne ∙ table.none c (sym (filled.others c ne) ∙ e)
    ];
    inside = lines_inside;
  }
