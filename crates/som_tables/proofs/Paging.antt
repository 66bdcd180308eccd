-- The replaced cells of the classes of one page.
use Rattle.std.proofs.Common.{◌≡◌, ℕ, ◌/◌, ◌<◌, ◌*◌, ◌+◌, ◌==◌, Bool, true, false, if◌then◌else◌, List, [], ◌∷◌, ◌++◌, length, get_or, take, Option, Some, refl, sym, ap, ◌∙◌, subst, arith, true≢false}
use Rattle.std.specs.Option.{option_or}
use Rattle.std.proofs.lemmas.Bool.{eqb-true, eq-eqb, and_parts}
use Rattle.std.proofs.lemmas.List.{take_more, append-nil}
use Rattle.std.proofs.lemmas.List.Elements.{filter-append}
use Rattle.som_tables.specs.Rows.{Added, class_with, first_some, same_token, replaced_at, inherited, AreInherited, SomeHasToken, introduced_count}
use Rattle.som_tables.specs.Layout.{on_page, IsStart, IsPage, next_cell}
use Rattle.som_tables.proofs.Laid.{IsBlock-same}

-- one more of the replaced cells, where it is of the page or not
module _ {C : Type 0} (k : ℕ) (rs : List ((ℕ × ℕ) × C)) (i : ℕ) (r : (ℕ × ℕ) × C) (lt : i < length rs) (is : r ≡ get_or rs i r) where
  step : take (i + 1) rs ≡ take i rs ++ r ∷ []
  step = take_more rs i r lt ∙ ap (λ y. take i rs ++ y ∷ []) (sym is)

  split : on_page k (take (i + 1) rs) ≡ on_page k (take i rs) ++ on_page k (r ∷ [])
  split = ap (on_page k) step ∙ filter-append (λ (x : (ℕ × ℕ) × C). x.0.0 / 64 == k) (take i rs) (r ∷ [])

  pub on_more : (r.0.0 / 64 == k) ≡ true → on_page k (take (i + 1) rs) ≡ on_page k (take i rs) ++ r ∷ []
  on_more on = split ∙ ap (λ ys. on_page k (take i rs) ++ ys) (rw on refl)

  pub on_same : (r.0.0 / 64 == k) ≡ false → on_page k (take (i + 1) rs) ≡ on_page k (take i rs)
  on_same off = split ∙ ap (λ ys. on_page k (take i rs) ++ ys) (rw off refl) ∙ append-nil (on_page k (take i rs))

-- what isn't of the page is no token of the page's classes
elsewhere : (k a p : ℕ) (t : ℕ × ℕ) (b : Bool) → same_token t (a, p) ≡ b → a / 64 ≡ k → (t.0 / 64 == k) ≡ false → b ≡ false
elsewhere k a p t true e on off = absurd (true≢false (sym (eq-eqb (t.0 / 64) k (ap (λ i. i / 64) (eqb-true t.0 a (and_parts (t.0 == a) (t.1 == p) e).0) ∙ on)) ∙ off))
elsewhere k a p t false e on off = refl

replaced_step : {C : Type 0} (k a p : ℕ) (r : (ℕ × ℕ) × C) (rs : List ((ℕ × ℕ) × C)) (b : Bool) → (r.0.0 / 64 == k) ≡ b → a / 64 ≡ k → replaced_at (on_page k rs) (a, p) ≡ replaced_at rs (a, p)
    → replaced_at (if b then r ∷ on_page k rs else on_page k rs) (a, p) ≡ replaced_at (r ∷ rs) (a, p)
replaced_step k a p r rs true e on rest = ap (λ o. if same_token r.0 (a, p) then Some r.1 else o) rest
replaced_step k a p r rs false e on rest = rest ∙ sym (let off : same_token r.0 (a, p) ≡ false = elsewhere k a p r.0 (same_token r.0 (a, p)) refl on e in rw off refl)

-- the replaced cells of the page are all those of its classes
pub replaced_on_page : {C : Type 0} (k a p : ℕ) (rs : List ((ℕ × ℕ) × C)) → a / 64 ≡ k → replaced_at (on_page k rs) (a, p) ≡ replaced_at rs (a, p)
replaced_on_page k a p [] on = refl
replaced_on_page k a p (r ∷ rs) on = replaced_step k a p r rs (r.0.0 / 64 == k) refl on (replaced_on_page k a p rs on)

inherited_step : {C : Type 0} (cs : List (Option (Added C))) (ps : List ℕ) (k : ℕ) (r : (ℕ × ℕ) × C) (rs : List ((ℕ × ℕ) × C)) (b : Bool) → SomeHasToken cs ps r.0 → AreInherited cs ps rs → AreInherited cs ps (if b then r ∷ rs else rs)
inherited_step cs ps k r rs true has rest = (has, rest)
inherited_step cs ps k r rs false has rest = rest

pub inherited_on_page : {C : Type 0} (cs : List (Option (Added C))) (ps : List ℕ) (k : ℕ) (rs : List ((ℕ × ℕ) × C)) → AreInherited cs ps rs → AreInherited cs ps (on_page k rs)
inherited_on_page cs ps k [] all = tt
inherited_on_page cs ps k (r ∷ rs) all = inherited_step cs ps k r (on_page k rs) (r.0.0 / 64 == k) all.0 (inherited_on_page cs ps k rs all.1)

-- a page needs no more of the row than what is replaced on it
pub IsPage-part : {C : Type 0} (cs : List (Option (Added C))) (n : ℕ) (row part : Added C) (own : Option ℕ) (k : ℕ) (start : ℕ → Option ℕ) (cells : List C) → part ≡ class_with row.parents [] (on_page k row.replaced)
    → IsPage cs n part own k start cells → IsPage cs n row own k start cells
IsPage-part cs n row part own k start cells is page p lt =
    let a = k * 64 + p in
    let on : a / 64 ≡ k = omega arith in
    let told : IsStart cs n (class_with row.parents [] (on_page k row.replaced)) own (start p) a cells = subst (λ x. IsStart cs n x own (start p) a cells) is (page p lt) in
    record {
      other = λ ne. IsBlock-same cells (start p) (introduced_count cs a) (introduced_count cs a) (next_cell cs row.parents (on_page k row.replaced) a) (next_cell cs row.parents row.replaced a) refl
          (λ q _. ap (λ o. option_or o (first_some (λ c. inherited cs c (a, q)) row.parents)) (replaced_on_page k a q row.replaced on)) (told.other ne);
      same = told.same;
    }
