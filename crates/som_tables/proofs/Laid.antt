-- Rows that stand in memory: how they stay, and how one is read.
use Rattle.std.proofs.Common.{◌≡◌, ℕ, ◌+◌, ◌-◌, ◌<◌, ◌/◌, ◌%◌, ◌++◌, ◌∷◌, List, [], length, take, Option, Some, None, IsSome, is_some, slice_get, refl, sym, ap, ◌∙◌, subst, arith, length-append}
use Rattle.std.specs.Option.{option_map_or, option_flatten, unwrap_or}
use Rattle.std.proofs.lemmas.Option.{slice_get_within}
use Rattle.som_tables.specs.Rows.{Added, row_at, inherited, HasToken, introduced_count}
use Rattle.som_tables.specs.Layout.{found_at, page_start, start_among, line_at, start_of, IsInside, AreInside, block_cell, Extends, IsBlock, IsLaid, IsTable}
use Rattle.som_tables.proofs.Options.{none_is_not_some, value_of_some, found-declare, found-undeclare, length-take_last, slice_get-Extends, length-Extends}
use Rattle.som_tables.proofs.Inherited.{inherited_none, inherited_equal, HaveRowsBelow_equal}

block_cell_grown : {C : Type 0} (cells new : List C) → Extends cells new → (start : Option ℕ) (p : ℕ) (o : Option C) → (IsSome start → IsSome o) → block_cell cells start p ≡ o → block_cell new start p ≡ o
block_cell_grown cells new more None p o full is = is
block_cell_grown cells new more (Some s) p o full is = let x = value_of_some o (full refl) in more (s + p) x.0 (is ∙ x.1) ∙ sym x.1

-- a block stays while cells are added
pub IsBlock-grown : {C : Type 0} (cells new : List C) (start : Option ℕ) (count : ℕ) (f : ℕ → Option C) → Extends cells new → IsBlock cells start count f → IsBlock new start count f
IsBlock-grown cells new start count f more b = record { cell = λ p lt. block_cell_grown cells new more start p (f p) (b.full p lt) (b.cell p lt); full = b.full; some = b.some }

pub IsBlock-same : {C : Type 0} (cells : List C) (start : Option ℕ) (m n : ℕ) (f g : ℕ → Option C) → m ≡ n → ((p : ℕ) → p < n → f p ≡ g p) → IsBlock cells start m f → IsBlock cells start n g
IsBlock-same cells start m n f g e same b = record {
  cell = λ p lt. let k : p < m = omega arith in b.cell p k ∙ same p lt;
  full = λ p lt s. let k : p < m = omega arith in subst (λ o. IsSome o) (same p lt) (b.full p k s);
  some = λ s. let k = b.some s in omega arith;
}

-- where there is no block there is no cell
pub IsBlock-none : {C : Type 0} (cells : List C) (count : ℕ) (f : ℕ → Option C) → ((p : ℕ) → p < count → f p ≡ None) → IsBlock cells None count f
IsBlock-none cells count f none = record {
  cell = λ p lt. sym (none p lt);
  full = λ p lt s. absurd (none_is_not_some {A = ℕ} None refl s);
  some = λ s. absurd (none_is_not_some {A = ℕ} None refl s);
}

pub empty_table : {C : Type 0} → IsTable {C = C} [] [] [] []
empty_table {C} = record {
  laid = record {
    order = λ c a is. absurd (grind arith);
    inside = λ c a p h. absurd (none_is_not_some (inherited [] c (a, p)) (inherited_none [] c (a, p) refl) h);
    blocks = λ c a. IsBlock-none [] 0 (λ p. inherited [] c (a, p)) (λ p lt. absurd (omega arith));
  };
  long = refl;
  none = λ c e. refl;
  inside = λ c k from is. absurd (none_is_not_some {A = ℕ} None refl (ap (λ o. is_some o) is));
}

-- where lines have equal pages, blocks begin at equal places
line_equal : (lines more : List (Option (List (Option ℕ)))) → ((c : ℕ) → found_at more c ≡ found_at lines c) → (starts : List (Option ℕ)) (c a : ℕ) → start_of more starts c a ≡ start_of lines starts c a
line_equal lines more same starts c a = ap (λ o. start_among (unwrap_or o []) starts a) (same c)

inside_equal : (lines more : List (Option (List (Option ℕ)))) → ((c : ℕ) → found_at more c ≡ found_at lines c) → (starts : List (Option ℕ)) → ((c : ℕ) → AreInside starts (line_at lines c)) → (c : ℕ) → AreInside starts (line_at more c)
inside_equal lines more same starts inside c = subst (λ o. AreInside starts (unwrap_or o [])) (sym (same c)) (inside c)

-- a page stays while starts are added
pub page_grown : (starts new : List (Option ℕ)) → Extends starts new → (page : Option ℕ) → IsInside starts page → (p : ℕ) → p < 64 → page_start new page p ≡ page_start starts page p
page_grown starts new more None inside p lt = refl
page_grown starts new more (Some from) inside p lt =
    let whole = inside from refl in let within : from + p < length starts = omega arith in ap option_flatten (slice_get-Extends starts new more (from + p) within)

pub inside_grown : (starts new : List (Option ℕ)) → Extends starts new → (page : Option ℕ) → IsInside starts page → IsInside new page
inside_grown starts new more page inside from is = let whole = inside from is in let long = length-Extends starts new more in omega arith

-- what is over from a page is a place on it
pub on_page : (a : ℕ) → a % 64 < 64
on_page a = omega arith

pub among_grown : (starts new pages : List (Option ℕ)) → Extends starts new → AreInside starts pages → (a : ℕ) → start_among pages new a ≡ start_among pages starts a
among_grown starts new pages more inside a = page_grown starts new more (found_at pages (a / 64)) (inside (a / 64)) (a % 64) (on_page a)

module _ {C : Type 0} (start : ℕ → ℕ → Option ℕ) where
  -- rows stay while cells are added
  pub IsLaid-grown : (cs : List (Option (Added C))) (cells new : List C) → Extends cells new → IsLaid cs start cells → IsLaid cs start new
  IsLaid-grown cs cells new e laid = record {
    order = laid.order;
    inside = laid.inside;
    blocks = λ c a. IsBlock-grown cells new (start c a) (introduced_count cs a) (λ p. inherited cs c (a, p)) e (laid.blocks c a);
  }

  -- only the rows count
  pub IsLaid-equal : (cs ds : List (Option (Added C))) (cells : List C) → ((c : ℕ) → row_at ds c ≡ row_at cs c) → IsLaid cs start cells → IsLaid ds start cells
  IsLaid-equal cs ds cells same laid =
      let count : (a : ℕ) → introduced_count ds a ≡ introduced_count cs a = λ a. ap (λ o. option_map_or (λ (x : Added _). length x.introduced) o 0) (same a) in
      record {
        order = λ c a is. HaveRowsBelow_equal cs ds same c a.parents (laid.order c a (sym (same c) ∙ is));
        inside = λ c a p h. (let i = laid.inside c a p (subst (λ o. IsSome o) (inherited_equal cs ds same c (a, p)) h) in (i.0, subst (λ n. p < n) (sym (count a)) i.1));
        blocks = λ c a. IsBlock-same cells (start c a) (introduced_count cs a) (introduced_count ds a) (λ p. inherited cs c (a, p)) (λ p. inherited ds c (a, p)) (sym (count a)) (λ p _. sym (inherited_equal cs ds same c (a, p))) (laid.blocks c a);
      }

-- rows whose blocks begin at the same places
pub IsLaid-starts : {C : Type 0} (start more : ℕ → ℕ → Option ℕ) (cs : List (Option (Added C))) (cells : List C) → ((c a : ℕ) → more c a ≡ start c a) → IsLaid cs start cells → IsLaid cs more cells
IsLaid-starts start more cs cells same laid = record {
  order = laid.order;
  inside = laid.inside;
  blocks = λ c a. subst (λ s. IsBlock cells s (introduced_count cs a) (λ p. inherited cs c (a, p))) (sym (same c a)) (laid.blocks c a);
}

-- a table with one more class, without a row
pub IsTable-declare : {C : Type 0} (cs : List (Option (Added C))) (lines : List (Option (List (Option ℕ)))) (starts : List (Option ℕ)) (cells : List C) → IsTable cs lines starts cells → IsTable (cs ++ None ∷ []) (lines ++ None ∷ []) starts cells
IsTable-declare {C} cs lines starts cells table =
    let no_line : Option (List (Option ℕ)) = None in
    let no_row : Option (Added C) = None in
    record {
      laid = IsLaid-starts (start_of lines starts) (start_of (lines ++ None ∷ []) starts) (cs ++ None ∷ []) cells (line_equal lines (lines ++ None ∷ []) (found-declare lines) starts)
          (IsLaid-equal (start_of lines starts) cs (cs ++ None ∷ []) cells (found-declare cs) table.laid);
      long = omega (arith, table.long, length-append lines (no_line ∷ []), length-append cs (no_row ∷ []));
      none = λ c e. found-declare lines c ∙ table.none c (sym (found-declare cs c) ∙ e);
      inside = inside_equal lines (lines ++ None ∷ []) (found-declare lines) starts table.inside;
    }

-- a table without its last class, which had no row
pub IsTable-undeclare : {C : Type 0} (cs : List (Option (Added C))) (lines : List (Option (List (Option ℕ)))) (starts : List (Option ℕ)) (cells : List C) → row_at cs (length cs - 1) ≡ None → IsTable cs lines starts cells
    → IsTable (take (length cs - 1) cs) (take (length lines - 1) lines) starts cells
IsTable-undeclare cs lines starts cells none table =
    let last : found_at lines (length lines - 1) ≡ None = ap (λ n. found_at lines (n - 1)) table.long ∙ table.none (length cs - 1) none in
    record {
      laid = IsLaid-starts (start_of lines starts) (start_of (take (length lines - 1) lines) starts) (take (length cs - 1) cs) cells (line_equal lines (take (length lines - 1) lines) (found-undeclare lines last) starts)
          (IsLaid-equal (start_of lines starts) cs (take (length cs - 1) cs) cells (found-undeclare cs none) table.laid);
      long = length-take_last lines ∙ ap (λ n. n - 1) table.long ∙ sym (length-take_last cs);
      none = λ c e. found-undeclare lines last c ∙ table.none c (sym (found-undeclare cs none c) ∙ e);
      inside = inside_equal lines (take (length lines - 1) lines) (found-undeclare lines last) starts table.inside;
    }

-- a table to which starts and cells are added
pub IsTable-grown : {C : Type 0} (cs : List (Option (Added C))) (lines : List (Option (List (Option ℕ)))) (starts more : List (Option ℕ)) (cells new : List C) → Extends starts more → Extends cells new → IsTable cs lines starts cells → IsTable cs lines more new
IsTable-grown cs lines starts more cells new grown extended table = record {
  laid = IsLaid-starts (start_of lines starts) (start_of lines more) cs new (λ c a. among_grown starts more (line_at lines c) grown (table.inside c) a) (IsLaid-grown (start_of lines starts) cs cells new extended table.laid);
  long = table.long;
  none = table.none;
  inside = λ c k. inside_grown starts more grown (found_at (line_at lines c) k) (table.inside c k);
}

-- where the cell of a token stands
pub record Stands {C : Type 0} (cs : List (Option (Added C))) (start : Option ℕ) (cells : List C) (c : ℕ) (t : ℕ × ℕ) : Type 0 where
  pub some : start ≡ None → ⊥
  pub within : (s : ℕ) → start ≡ Some s → s + t.1 < length cells
  pub cell : (s : ℕ) → start ≡ Some s → slice_get cells (s + t.1) ≡ inherited cs c t

module _ {C : Type 0} (cs : List (Option (Added C))) (start : ℕ → ℕ → Option ℕ) (cells : List C) (laid : IsLaid cs start cells) (c : ℕ) (t : ℕ × ℕ) (has : HasToken cs c t) where
  block_is : block_cell cells (start c t.0) t.1 ≡ inherited cs c t
  block_is = (laid.blocks c t.0).cell t.1 (laid.inside c t.0 t.1 has).1

  cell_at : (s : ℕ) → start c t.0 ≡ Some s → slice_get cells (s + t.1) ≡ inherited cs c t
  cell_at s at_s = subst (λ i. block_cell cells i t.1 ≡ inherited cs c t) at_s block_is

  pub stands : Stands cs (start c t.0) cells c t
  stands = record {
    some = λ none. none_is_not_some (inherited cs c t) (sym (subst (λ i. block_cell cells i t.1 ≡ inherited cs c t) none block_is)) has;
    within = λ s at_s. let x = value_of_some (inherited cs c t) has in slice_get_within cells (s + t.1) x.0 (cell_at s at_s ∙ x.1);
    cell = cell_at;
  }
