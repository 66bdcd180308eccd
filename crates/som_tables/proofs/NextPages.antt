-- The pages of a row that is laid.
use Rattle.std.specs.Prelude.{Result, Ok, Err, IfOk}
use Rattle.std.proofs.Common.{◌≡◌, ◌≢◌, ℕ, suc, inl, inr, drop, drop-cons, get_or, ◌+◌, ◌*◌, ◌/◌, ◌%◌, ◌<◌, ◌≤◌, List, [], ◌∷◌, ◌++◌, length, length-append, Option, Some, None, is_some, slice_get, refl, sym, ap, ◌∙◌, subst, arith}
use Rattle.std.specs.Option.{option_or, option_flatten}
use Rattle.std.proofs.lemmas.Option.{slice_get_past}
use Rattle.std.proofs.lemmas.Bool.{cases_lt}
use Rattle.std.proofs.lemmas.List.{drop_all}
use Rattle.std.proofs.lemmas.Nat.{div-add-mod'}
use Rattle.som_tables.specs.Rows.{Added, HasRow, SomeHasToken, HaveRowsBelow, first_some, replaced_at, inherited, AreInherited, introduced_count}
use Rattle.som_tables.specs.Layout.{found_at, page_start, start_among, line_at, start_of, first_start_of, EndBefore, IsInside, AreInside, Extends, IsBlock, IsLaid, IsStart, IsPage, ArePages, IsLine, next_cell}
use Rattle.som_tables.proofs.Options.{none_is_not_some, none_else_some, option_or_cases, slice_get-append_left, slice_get-append_right, slice_get-push}
use Rattle.som_tables.proofs.Inherited.{first_some_equal, first_some_where, replaced_inherited}
use Rattle.som_tables.proofs.Laid.{IsBlock-grown, IsBlock-none, page_grown, inside_grown, on_page}
use Rattle.som_tables.proofs.NextBlocks.{shared_block, absent_block}

module _ {C : Type 0} (cs : List (Option (Added C))) (start : ℕ → ℕ → Option ℕ) (cells : List C) (laid : IsLaid cs start cells) (n : ℕ) (row : Added C)
    (below : HaveRowsBelow n cs row.parents) (known : AreInherited cs row.parents row.replaced) where
  parents_below : (a p : ℕ) → SomeHasToken cs row.parents (a, p) → a < n
  parents_below a p s =
      let parent = first_some_where (λ p. (p < n) × HasRow cs p) (λ q. inherited cs q (a, p)) row.parents below s in
      let i = laid.inside parent.0 a p parent.2 in omega (arith, parent.1.0, i.0)

  -- the row inherits no cells of a class with its own number or a higher one
  pub next_none : (a p : ℕ) → n ≤ a → next_cell cs row.parents row.replaced a p ≡ None
  next_none a p le = none_else_some (next_cell cs row.parents row.replaced a p) (λ s. elim (option_or_cases _ _ s) [
    | inl r ↦ (let lt = parents_below a p (replaced_inherited cs row.parents row.replaced (a, p) known r) in omega arith)
    | inr above ↦ (let lt = parents_below a p above in omega arith)
  ])

  block_none : (a : ℕ) → n ≤ a → IsBlock cells None (introduced_count cs a) (next_cell cs row.parents row.replaced a)
  block_none a le = IsBlock-none cells (introduced_count cs a) (next_cell cs row.parents row.replaced a) (λ p _. next_none a p le)

  pub start_beyond : (own : Option ℕ) (a : ℕ) → n < a → IsStart cs n row own None a cells
  start_beyond own a lt = record { other = λ ne. block_none a (omega arith); same = λ e. absurd (omega arith) }

  -- pages that go no further than these tell all of the row, where it has no block past them
  pub IsLine-pages : (own : Option ℕ) (count : ℕ) (pages starts : List (Option ℕ)) → length pages ≡ count → IsBlock cells own (length row.introduced) (λ p. slice_get row.introduced p)
      → ArePages cs n row own count pages starts cells → ((a : ℕ) → count ≤ a / 64 → IsStart cs n row own None a cells) → IsLine cs n row (start_among pages starts) cells
  IsLine-pages own count pages starts long block are rest =
      let told : (a : ℕ) → IsStart cs n row own (start_among pages starts a) a cells = λ a. elim (cases_lt (a / 64) count) [
        | inl lt ↦ subst (λ i. IsStart cs n row own (start_among pages starts a) i cells) (div-add-mod' a 64) (are (a / 64) lt (a % 64) (on_page a))
        | inr ge ↦ (let none : found_at pages (a / 64) ≡ None = ap option_flatten (slice_get_past pages (a / 64) (omega arith)) in
            subst (λ o. IsStart cs n row own (page_start starts o (a % 64)) a cells) (sym none) (rest a (omega arith)))
      ] in
      record {
        blocks = λ a ne. (told a).other ne;
        own = subst (λ o. IsBlock cells o (length row.introduced) (λ p. slice_get row.introduced p)) (sym ((told n).same refl)) block;
      }

  -- no block begins past the class's own page
  pub past_own : (own : Option ℕ) (count a : ℕ) → count ≡ n / 64 + 1 → count ≤ a / 64 → IsStart cs n row own None a cells
  past_own own count a is le = start_beyond own a (omega arith)

-- one more of the classes whose rows end before a page
pub end_more : (lines : List (Option (List (Option ℕ)))) (classes : List ℕ) (i q count : ℕ) → i < length classes → q ≡ get_or classes i q → length (line_at lines q) ≤ count → EndBefore lines count (drop (i + 1) classes) → EndBefore lines count (drop i classes)
end_more lines classes i q count lt is short rest =
    let next : suc i ≡ i + 1 = omega arith in
    let split : drop i classes ≡ q ∷ drop (i + 1) classes = drop-cons classes i q lt ∙ ap (λ x. x ∷ drop (suc i) classes) (sym is) ∙ ap (λ j. q ∷ drop j classes) next in
    subst (λ xs. EndBefore lines count xs) (sym split) (short, rest)

pub end_all : (lines : List (Option (List (Option ℕ)))) (classes : List ℕ) (i count : ℕ) → length classes ≤ i → EndBefore lines count (drop i classes)
end_all lines classes i count le = subst (λ xs. EndBefore lines count xs) (sym (drop_all i classes le)) tt

-- nor past the pages of the parents, where the class introduces no cells
first_none : (lines : List (Option (List (Option ℕ)))) (starts : List (Option ℕ)) (count a : ℕ) (ps : List ℕ) → EndBefore lines count ps → count ≤ a / 64 → None ≡ first_start_of lines starts ps a
first_none lines starts count a [] all le = refl
first_none lines starts count a (q ∷ qs) all le =
    let short : length (line_at lines q) ≤ a / 64 = omega (arith, all.0) in
    let none : found_at (line_at lines q) (a / 64) ≡ None = ap option_flatten (slice_get_past (line_at lines q) (a / 64) short) in
    first_none lines starts count a qs all.1 le ∙ ap (λ o. option_or (page_start starts o (a % 64)) (first_start_of lines starts qs a)) (sym none)

pub past_parents : {C : Type 0} (cs : List (Option (Added C))) (lines : List (Option (List (Option ℕ)))) (starts : List (Option ℕ)) (cells : List C) → IsLaid cs (start_of lines starts) cells → (n : ℕ) (row : Added C) → AreInherited cs row.parents row.replaced
    → (own : Option ℕ) (count a : ℕ) → own ≡ None → EndBefore lines count row.parents → count ≤ a / 64 → IsStart cs n row own None a cells
past_parents cs lines starts cells laid n row known own count a none all le = record {
  other = λ ne. absent_block cs (start_of lines starts) cells laid a row.parents row.replaced None (first_none lines starts count a row.parents all le) known refl;
  same = λ e. sym none;
}

-- a start stays while cells are added
pub IsStart-grown : {C : Type 0} (cs : List (Option (Added C))) (n : ℕ) (row : Added C) (own start : Option ℕ) (a : ℕ) (cells new : List C) → Extends cells new → IsStart cs n row own start a cells → IsStart cs n row own start a new
IsStart-grown cs n row own start a cells new more is = record {
  other = λ ne. IsBlock-grown cells new start (introduced_count cs a) (next_cell cs row.parents row.replaced a) more (is.other ne);
  same = is.same;
}

-- what has the starts of a page is a page
pub IsPage-same : {C : Type 0} (cs : List (Option (Added C))) (n : ℕ) (row : Added C) (own : Option ℕ) (k : ℕ) (f g : ℕ → Option ℕ) (cells : List C) → ((p : ℕ) → p < 64 → g p ≡ f p) → IsPage cs n row own k f cells → IsPage cs n row own k g cells
IsPage-same cs n row own k f g cells same page p lt = subst (λ o. IsStart cs n row own o (k * 64 + p) cells) (sym (same p lt)) (page p lt)

-- a page stays while starts and cells are added
pub IsPage-grown : {C : Type 0} (cs : List (Option (Added C))) (n : ℕ) (row : Added C) (own : Option ℕ) (k : ℕ) (f g : ℕ → Option ℕ) (cells new : List C) → ((p : ℕ) → p < 64 → g p ≡ f p) → Extends cells new → IsPage cs n row own k f cells → IsPage cs n row own k g new
IsPage-grown cs n row own k f g cells new same more page p lt =
    subst (λ o. IsStart cs n row own o (k * 64 + p) new) (sym (same p lt)) (IsStart-grown cs n row own (f p) (k * 64 + p) cells new more (page p lt))

-- the page that the parents have is the row's, where no cell of its classes is introduced or replaced
pub IsPage-shared : {C : Type 0} (cs : List (Option (Added C))) (lines : List (Option (List (Option ℕ)))) (starts : List (Option ℕ)) (cells : List C) → IsLaid cs (start_of lines starts) cells
    → (n : ℕ) (row : Added C) (own page : Option ℕ) (k : ℕ) → k ≢ n / 64 → ((a p : ℕ) → a / 64 ≡ k → replaced_at row.replaced (a, p) ≡ None)
    → ((p : ℕ) → first_some (λ q. page_start starts (found_at (line_at lines q) k) p) row.parents ≡ page_start starts page p)
    → IsPage cs n row own k (page_start starts page) cells
IsPage-shared cs lines starts cells laid n row own page k other none is p lt =
    let a = k * 64 + p in
    let at : a / 64 ≡ k = omega arith in
    let on : a % 64 ≡ p = omega arith in
    record {
      other = λ ne. shared_block cs (start_of lines starts) cells laid a row.parents row.replaced (page_start starts page p)
          (sym (first_some_equal (λ q. start_of lines starts q a) (λ q. page_start starts (found_at (line_at lines q) k) p) row.parents (λ q. rw (at, on) refl) ∙ is p)) (λ q. none a q at);
      same = λ e. absurd (other (sym at ∙ ap (λ i. i / 64) e));
    }

-- one more start on a page
pub page_more : {C : Type 0} (cs : List (Option (Added C))) (n : ℕ) (row : Added C) (own : Option ℕ) (k : ℕ) (page : List (Option ℕ)) (start : Option ℕ) (cells new : List C) (count : ℕ) → Extends cells new → length page ≡ count → IsStart cs n row own start (k * 64 + count) new
    → ((p : ℕ) → p < count → IsStart cs n row own (found_at page p) (k * 64 + p) cells) → (p : ℕ) → p < count + 1 → IsStart cs n row own (found_at (page ++ start ∷ []) p) (k * 64 + p) new
page_more cs n row own k page start cells new count more long is done p lt = elim (cases_lt p count) [
  | inl before ↦ subst (λ o. IsStart cs n row own o (k * 64 + p) new) (sym (ap option_flatten (slice_get-append_left page (start ∷ []) p (omega arith)))) (IsStart-grown cs n row own (found_at page p) (k * 64 + p) cells new more (done p before))
  | inr ge ↦ (let e : count ≡ p = omega arith in
      subst (λ i. IsStart cs n row own (found_at (page ++ start ∷ []) i) (k * 64 + i) new) e (subst (λ o. IsStart cs n row own o (k * 64 + count) new) (sym (ap option_flatten (slice_get-push page start count long))) is))
]

-- a page that was put at the end
pub page_put : (starts page : List (Option ℕ)) (p : ℕ) → p < length page → page_start (starts ++ page) (Some (length starts)) p ≡ found_at page p
page_put starts page p lt = ap option_flatten (slice_get-append_right starts page p)

-- one more page of a row
pub pages_more : {C : Type 0} (cs : List (Option (Added C))) (n : ℕ) (row : Added C) (own : Option ℕ) (count : ℕ) (pages starts more : List (Option ℕ)) (page : Option ℕ) (cells new : List C) → length pages ≡ count → AreInside starts pages → Extends starts more → Extends cells new
    → IsPage cs n row own count (page_start more page) new → ArePages cs n row own count pages starts cells → ArePages cs n row own (count + 1) (pages ++ page ∷ []) more new
pages_more cs n row own count pages starts more page cells new long inside extended grown is done k lt = elim (cases_lt k count) [
  | inl before ↦ (let there : found_at (pages ++ page ∷ []) k ≡ found_at pages k = ap option_flatten (slice_get-append_left pages (page ∷ []) k (omega arith)) in
      IsPage-grown cs n row own k (page_start starts (found_at pages k)) (page_start more (found_at (pages ++ page ∷ []) k)) cells new
      (λ p on. ap (λ o. page_start more o p) there ∙ page_grown starts more extended (found_at pages k) (inside k) p on) grown (done k before))
  | inr ge ↦ (let e : count ≡ k = omega arith in
      let there : found_at (pages ++ page ∷ []) count ≡ page = ap option_flatten (slice_get-push pages page count long) in
      subst (λ i. IsPage cs n row own i (page_start more (found_at (pages ++ page ∷ []) i)) new) e
      (IsPage-same cs n row own count (page_start more page) (page_start more (found_at (pages ++ page ∷ []) count)) new (λ p on. ap (λ o. page_start more o p) there) is))
]

pub inside_more : (starts more pages : List (Option ℕ)) (page : Option ℕ) → Extends starts more → AreInside starts pages → IsInside more page → AreInside more (pages ++ page ∷ [])
inside_more starts more pages page extended inside new k from is = elim (cases_lt k (length pages)) [
  | inl lt ↦ inside_grown starts more extended (found_at pages k) (inside k) from (sym (ap option_flatten (slice_get-append_left pages (page ∷ []) k lt)) ∙ is)
  | inr ge ↦ elim (cases_lt (length pages) k) [
    | inl past ↦ (let beyond : length (pages ++ page ∷ []) ≤ k = omega (arith, length-append pages (page ∷ []), past) in absurd (none_is_not_some {A = ℕ} None refl (ap (λ o. is_some o) (sym (ap option_flatten (slice_get_past (pages ++ page ∷ []) k beyond)) ∙ is))))
    | inr le ↦ (let e : length pages ≡ k = omega arith in new from (sym (ap option_flatten (slice_get-push pages page k e)) ∙ is))
  ]
]

option_or_assoc : {A : Type 0} (a b c : Option A) → option_or (option_or a b) c ≡ option_or a (option_or b c)
option_or_assoc None b c = refl
option_or_assoc (Some x) b c = refl

-- one more parent, whose page is joined
pub common_more : (f : ℕ → Option ℕ) (parents : List ℕ) (i q : ℕ) (old new all : Option ℕ) → i < length parents → q ≡ get_or parents i q → option_or old (f q) ≡ new
    → option_or old (first_some f (drop i parents)) ≡ all → option_or new (first_some f (drop (i + 1) parents)) ≡ all
common_more f parents i q old new all lt is step before =
    let next : suc i ≡ i + 1 = omega arith in
    let split : drop i parents ≡ q ∷ drop (i + 1) parents = drop-cons parents i q lt ∙ ap (λ x. x ∷ drop (suc i) parents) (sym is) ∙ ap (λ j. q ∷ drop j parents) next in
    ap (λ o. option_or o (first_some f (drop (i + 1) parents))) (sym step) ∙ option_or_assoc old (f q) (first_some f (drop (i + 1) parents)) ∙ sym (ap (λ xs. option_or old (first_some f xs)) split) ∙ before

-- what is said of a value that is there may be said otherwise
pub if_ok : {T E : Type 0} (r : Result T E) (P Q : T → Type 0) → ((x : T) → P x → Q x) → IfOk r P → IfOk r Q
if_ok (Ok x) P Q to is = to x is
if_ok (Err e) P Q to is = tt
