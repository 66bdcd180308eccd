-- How the rows of a table stand in memory: all cells in one list, in blocks of the cells that one class introduced. Where the blocks of a row begin stands on pages, one for each 64 class numbers; rows may share pages.
use Rattle.std.specs.Prelude.{◌≡◌, ◌≢◌, ℕ, zero, suc, ◌+◌, ◌*◌, ◌<◌, ◌≤◌, ◌/◌, ◌%◌, ◌==◌, List, [], length, Option, Some, None, IsSome, option_and_then, slice_get, filter}
use Rattle.std.specs.Option.{option_or, option_flatten, option_map_or, unwrap_or}
use Rattle.std.specs.List.{AllByRecursion}
use Rattle.som_tables.specs.Rows.{Added, row_at, first_some, replaced_at, inherited, HasToken, introduced_count, ParentsComeFirst}

-- the place before a number, and none before zero
abbrev pub before : ℕ → Option ℕ
before zero = None
before (suc n) = Some n

-- the number after a place, and zero where there is none
abbrev pub after_of : Option ℕ → ℕ
after_of o = option_map_or (λ n. suc n) o 0

-- what a list of such has at a place
abbrev pub found_at : {X : Type 0} → List (Option X) → ℕ → Option X
found_at xs i = option_flatten (slice_get xs i)

-- what the page that begins there has at a place; none where there is no page
abbrev pub page_start : List (Option ℕ) → Option ℕ → ℕ → Option ℕ
page_start starts page p = option_and_then (λ from. found_at starts (from + p)) page

-- the place where the block for class a begins in a row with these pages; none where the row has no token of class a
abbrev pub start_among : List (Option ℕ) → List (Option ℕ) → ℕ → Option ℕ
start_among pages starts a = page_start starts (found_at pages (a / 64)) (a % 64)

-- the pages of the row of class c; none where the class has no row
abbrev pub line_at : List (Option (List (Option ℕ))) → ℕ → List (Option ℕ)
line_at lines c = unwrap_or (found_at lines c) []

-- the place where the block for class a begins in the row of class c
abbrev pub start_of : List (Option (List (Option ℕ))) → List (Option ℕ) → ℕ → ℕ → Option ℕ
start_of lines starts c a = start_among (line_at lines c) starts a

-- the first such place along the rows of these parents
abbrev pub first_start_of : List (Option (List (Option ℕ))) → List (Option ℕ) → List ℕ → ℕ → Option ℕ
first_start_of lines starts parents a = first_some (λ q. start_of lines starts q a) parents

-- a page that begins there is in the list whole
abbrev pub IsInside : List (Option ℕ) → Option ℕ → Type 0
IsInside starts page = (from : ℕ) → page ≡ Some from → from + 64 ≤ length starts

-- each of these pages is in the list whole
abbrev pub AreInside : List (Option ℕ) → List (Option ℕ) → Type 0
AreInside starts pages = (k : ℕ) → IsInside starts (found_at pages k)

-- no row of these classes has a page with this number or a higher one
abbrev pub EndBefore : List (Option (List (Option ℕ))) → ℕ → List ℕ → Type 0
EndBefore lines count classes = AllByRecursion (λ c. length (line_at lines c) ≤ count) classes

-- the cell at a place of the block that begins there
abbrev pub block_cell : {C : Type 0} → List C → Option ℕ → ℕ → Option C
block_cell cells start p = option_and_then (λ s. slice_get cells (s + p)) start

-- what stood in the old list stands in the new one at the same place
abbrev pub Extends : {X : Type 0} → List X → List X → Type 0
Extends {X} old new = (i : ℕ) (x : X) → slice_get old i ≡ Some x → slice_get new i ≡ Some x

-- the block that begins there has these cells, every one of them and one at least, and none where there is no block
pub record IsBlock {C : Type 0} (cells : List C) (start : Option ℕ) (count : ℕ) (f : ℕ → Option C) : Type 0 where
  pub cell : (p : ℕ) → p < count → block_cell cells start p ≡ f p
  pub full : (p : ℕ) → p < count → IsSome start → IsSome (f p)
  pub some : IsSome start → 0 < count

-- each row of the classes stands in the cells, in blocks that begin there
pub record IsLaid {C : Type 0} (cs : List (Option (Added C))) (start : ℕ → ℕ → Option ℕ) (cells : List C) : Type 0 where
  pub order : ParentsComeFirst cs
  pub inside : (c a p : ℕ) → HasToken cs c (a, p) → (a ≤ c) × (p < introduced_count cs a)
  pub blocks : (c a : ℕ) → IsBlock cells (start c a) (introduced_count cs a) (λ p. inherited cs c (a, p))

-- the pages, the starts and the cells are those of the classes
pub record IsTable {C : Type 0} (cs : List (Option (Added C))) (lines : List (Option (List (Option ℕ)))) (starts : List (Option ℕ)) (cells : List C) : Type 0 where
  pub laid : IsLaid cs (start_of lines starts) cells
  pub long : length lines ≡ length cs
  pub none : (c : ℕ) → row_at cs c ≡ None → found_at lines c ≡ None
  pub inside : (c : ℕ) → AreInside starts (line_at lines c)

-- the cells for class a in the row that is made of these
abbrev pub next_cell : {C : Type 0} → List (Option (Added C)) → List ℕ → List ((ℕ × ℕ) × C) → ℕ → ℕ → Option C
next_cell cs parents replaced a p = option_or (replaced_at replaced (a, p)) (first_some (λ q. inherited cs q (a, p)) parents)

-- the replaced cells of the classes of page k
abbrev pub on_page : {C : Type 0} → ℕ → List ((ℕ × ℕ) × C) → List ((ℕ × ℕ) × C)
on_page k replaced = filter (λ r. r.0.0 / 64 == k) replaced

-- the block for class a begins there in the row of class n, which is made of this, and whose own block begins where it is said
pub record IsStart {C : Type 0} (cs : List (Option (Added C))) (n : ℕ) (row : Added C) (own start : Option ℕ) (a : ℕ) (cells : List C) : Type 0 where
  pub other : a ≢ n → IsBlock cells start (introduced_count cs a) (next_cell cs row.parents row.replaced a)
  pub same : a ≡ n → start ≡ own

-- what stands on a page of the row of class n, which is made of this: for each class of the page where its block begins
abbrev pub IsPage : {C : Type 0} → List (Option (Added C)) → ℕ → Added C → Option ℕ → ℕ → (ℕ → Option ℕ) → List C → Type 0
IsPage cs n row own k start cells = (p : ℕ) → p < 64 → IsStart cs n row own (start p) (k * 64 + p) cells

-- each page before this one tells where the blocks of the row begin
abbrev pub ArePages : {C : Type 0} → List (Option (Added C)) → ℕ → Added C → Option ℕ → ℕ → List (Option ℕ) → List (Option ℕ) → List C → Type 0
ArePages cs n row own count pages starts cells = (k : ℕ) → k < count → IsPage cs n row own k (page_start starts (found_at pages k)) cells

-- the cells have the row of class n in blocks that begin there
pub record IsLine {C : Type 0} (cs : List (Option (Added C))) (n : ℕ) (row : Added C) (start : ℕ → Option ℕ) (cells : List C) : Type 0 where
  pub blocks : (a : ℕ) → a ≢ n → IsBlock cells (start a) (introduced_count cs a) (next_cell cs row.parents row.replaced a)
  pub own : IsBlock cells (start n) (length row.introduced) (λ p. slice_get row.introduced p)
