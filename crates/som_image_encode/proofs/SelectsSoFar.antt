-- The selects with numbers of the first so many classes, and of one class more.
use Rattle.std.proofs.Common.{◌≡◌, ℕ, zero, suc, ◌+◌, ◌<◌, ◌==◌, Bool, true, false, true≢false, List, [], ◌∷◌, ◌++◌, length, map, take, get_or, refl, sym, ap, ◌∙◌, arith}
use Rattle.std.specs.Prelude.{if◌then◌else◌}
use Rattle.std.proofs.lemmas.Bool.{eqb-true}
use Rattle.som_model.specs.declared.class.Select.{Select}
use Rattle.som_model.specs.declared.class.ClassDecl.{ClassDecl}
use Rattle.som_model.specs.Images.{has_selects}
use Rattle.som_image_fields.specs.declared.selects.WireSelect.{WireSelect}
use Rattle.som_image_fields.specs.declared.selects.WireSelects.{WireSelects}
use Rattle.som_image_decode.specs.declared.directory.Directory.{Directory}
use Rattle.som_image_decode.proofs.OwnSelects.{with_own}
use Rattle.som_image_encode.specs.NumberedClasses.{select_numbered, selects_numbered}

has_there : (c : ClassDecl) (ss : List Select) → (length ss == 0) ≡ false → has_selects (with_own c ss) ≡ true
has_there c [] e = absurd (true≢false e)
has_there c (s ∷ ss) e = refl

-- whether a class has selects, by their count
pub has_some : (c : ClassDecl) → (length c.selects == 0) ≡ false → has_selects c ≡ true
has_some c e = has_there c c.selects e

has_none_there : (c : ClassDecl) (ss : List Select) → (length ss == 0) ≡ true → has_selects (with_own c ss) ≡ false
has_none_there c [] e = refl
has_none_there c (s ∷ ss) e = absurd (omega (arith, eqb-true (length (s ∷ ss)) 0 e))

pub has_none : (c : ClassDecl) → (length c.selects == 0) ≡ true → has_selects c ≡ false
has_none c e = has_none_there c c.selects e

module _ (d : Directory) where
  abbrev own_group : ℕ → ClassDecl → WireSelects
  own_group n c = record { class = n; selects = map (select_numbered d) c.selects }

  -- ---- one class more

  with_next : (has_first has_next : Bool) (first next : WireSelects) (longer others : List WireSelects) → longer ≡ (if has_next then others ++ next ∷ [] else others)
      → (if has_first then first ∷ longer else longer) ≡ (if has_next then (if has_first then first ∷ others else others) ++ next ∷ [] else (if has_first then first ∷ others else others))
  with_next true true first next longer others e = ap (λ (l : List WireSelects). first ∷ l) e
  with_next true false first next longer others e = ap (λ (l : List WireSelects). first ∷ l) e
  with_next false true first next longer others e = e
  with_next false false first next longer others e = e

  abbrev more_by : Bool → ℕ → ClassDecl → List WireSelects → List WireSelects
  more_by b n c groups = if b then groups ++ own_group n c ∷ [] else groups

  numbered_more : (n i : ℕ) (ds : List ClassDecl) (c : ClassDecl) → i < length ds → selects_numbered d n (take (suc i) ds) ≡ more_by (has_selects (get_or ds i c)) (n + i) (get_or ds i c) (selects_numbered d n (take i ds))
  numbered_more n i [] c lt = absurd (omega arith)
  numbered_more n zero (x ∷ ds) c lt = ap (λ (m : ℕ). more_by (has_selects x) m x []) (omega arith)
  numbered_more n (suc i) (x ∷ ds) c lt =
      let next : suc n + i ≡ n + suc i = omega arith in
      with_next (has_selects x) (has_selects (get_or ds i c)) (own_group n x) (own_group (suc n + i) (get_or ds i c)) (selects_numbered d (suc n) (take (suc i) ds)) (selects_numbered d (suc n) (take i ds)) (numbered_more (suc n) i ds c (omega arith))
      ∙ ap (λ (m : ℕ). more_by (has_selects (get_or ds i c)) m (get_or ds i c) (selects_numbered d n (take (suc i) (x ∷ ds)))) next

  module _ (n i m : ℕ) (ds : List ClassDecl) (c : ClassDecl) (groups : List WireSelects) (lt : i < length ds) (is : c ≡ get_or ds i c) (number : m ≡ n + i) (so_far : groups ≡ selects_numbered d n (take i ds)) where
    next_by : (b : Bool) → has_selects c ≡ b → selects_numbered d n (take (i + 1) ds) ≡ more_by b (n + i) c groups
    next_by b has =
        let next : i + 1 ≡ suc i = omega arith in
        ap (λ (k : ℕ). selects_numbered d n (take k ds)) next
        ∙ numbered_more n i ds c lt
        ∙ ap (λ (x : ClassDecl). more_by (has_selects x) (n + i) x (selects_numbered d n (take i ds))) (sym is)
        ∙ ap (λ (x : Bool). more_by x (n + i) c (selects_numbered d n (take i ds))) has
        ∙ ap (more_by b (n + i) c) (sym so_far)

    -- which has no selects
    pub none_more : has_selects c ≡ false → groups ≡ selects_numbered d n (take (i + 1) ds)
    none_more has = sym (next_by false has)

    -- which has some
    pub some_more : has_selects c ≡ true → (own : List WireSelect) → own ≡ map (select_numbered d) c.selects → groups ++ record { class = m; selects = own } ∷ [] ≡ selects_numbered d n (take (i + 1) ds)
    some_more has own is_own =
        let a_group : ℕ → List WireSelect → WireSelects = λ k ss. record { class = k; selects = ss } in
        ap (λ (ss : List WireSelect). groups ++ a_group m ss ∷ []) is_own
        ∙ ap (λ (k : ℕ). groups ++ a_group k (map (select_numbered d) c.selects) ∷ []) number
        ∙ sym (next_by true has)
