-- The selects of classes are spelled as those with numbers are, and those that have a spelling are named from some.
use Rattle.std.proofs.Common.{◌≡◌, ℕ, suc, ◌+◌, ◌<◌, ◌≤◌, inl, inr, ◌⊎◌, Bool, true, false, if◌then◌else◌, true≢false, eqb, List, [], ◌∷◌, ◌++◌, length, map, filter, Some, refl, sym, ap, subst, ◌∙◌, arith}
use Rattle.std.specs.Prelude.{All}
use Rattle.std.specs.List.{flat_map, AllByRecursion}
use Rattle.std.specs.Int.{w16, to_be_bytes}
use Rattle.std.proofs.lemmas.Bool.{cases_lt, eqb-true, eqb-false}
use Rattle.std.proofs.lemmas.List.Concat.{flat_map-cons}
use Rattle.std.proofs.lemmas.List.Elements.{recursion_from_All}
use Rattle.som_model.specs.declared.limits.TheConstants.{MAX_SELECTS}
use Rattle.som_model.specs.declared.key.MethodRef.{MethodRef}
use Rattle.som_model.specs.declared.class.Select.{Select}
use Rattle.som_model.specs.declared.class.ClassDecl.{ClassDecl}
use Rattle.som_model.specs.Lists.{some}
use Rattle.som_model.specs.Class.{Class}
use Rattle.som_model.specs.Images as images
use Rattle.som_model.specs.Images.{Spelled, ◌then◌, each, has_selects, image_version, only_where, selects_each}
use Rattle.som_image_fields.specs.declared.method.WireMethod.{WireMethod}
use Rattle.som_image_fields.specs.declared.method.Ranges.{Ranges}
use Rattle.som_image_fields.specs.Spelling as wire
use Rattle.som_image_fields.specs.Spelling.{FitsMethod}
use Rattle.som_image_fields.specs.declared.selects.WireSelect.{WireSelect}
use Rattle.som_image_fields.specs.declared.selects.WireSelects.{WireSelects}
use Rattle.som_image_fields.specs.SyntaxSpelling as spelling
use Rattle.som_image_fields.specs.Fitting.{FitsSelect, FitAscending}
use Rattle.som_image_decode.specs.declared.directory.Directory.{Directory}
use Rattle.som_image_decode.specs.Naming.{ranges_in, Tells, NoDoubles}
use Rattle.som_image_classes.specs.SpelledClasses.{version_with, section, FitsSection}
use Rattle.som_image_classes.specs.NamedClasses.{select_named, selects_under, selecting, with_selects}
use Rattle.som_image_decode.proofs.Places.{all_map, all_of}
use Rattle.som_image_decode.proofs.OwnSelects.{with_own}
use Rattle.som_image_decode.proofs.Spelled.{some_bytes, bytes_are, split, Forth, Back, counted_forth, counted_back}
use Rattle.som_image_decode.proofs.BlockForms.{two, byte_forth, byte_back, join}
use Rattle.som_image_decode.proofs.Numbers.{method_forth, method_back}
use Rattle.som_image_classes.proofs.NamedParts.{plain}

abbrev a_select : MethodRef → ℕ → Select
a_select method parent = record { method = method; parent = parent }

-- ---- which selects stand under a number

equal_numbers : (m n : ℕ) → m ≡ n → eqb m n ≡ true
equal_numbers m n e = grind (arith, e)

other_numbers : (m n : ℕ) → n < m → eqb m n ≡ false
other_numbers m n lt = grind (arith, lt)

module _ (classes : ℕ) (Method : WireMethod → Type 0) where
  -- none where all numbers are greater
  pub none_under : (n least : ℕ) (gs : List WireSelects) → n < least → FitAscending classes Method least gs → selects_under n gs ≡ []
  none_under n least [] lt fits = refl
  none_under n least (g ∷ gs) lt fits =
      let other : eqb g.class n ≡ false = other_numbers g.class n (omega (arith, lt, fits.0.reached)) in
      rw other (none_under n (suc g.class) gs (omega (arith, lt, fits.0.reached)) fits.1)

  -- those of a class of the list have room, and their methods fit
  pub under_fits : (n least : ℕ) (gs : List WireSelects) → FitAscending classes Method least gs → (length (selects_under n gs) ≤ MAX_SELECTS) × AllByRecursion (FitsSelect Method) (selects_under n gs)
  under_fits n least [] fits = (omega arith, tt)
  under_fits n least (g ∷ gs) fits = by (eqb g.class n) (under_fits n (suc g.class) gs fits.1)
    where
      by : (b : Bool) → (length (selects_under n gs) ≤ MAX_SELECTS) × AllByRecursion (FitsSelect Method) (selects_under n gs) → (length (if b then g.selects else selects_under n gs) ≤ MAX_SELECTS) × AllByRecursion (FitsSelect Method) (if b then g.selects else selects_under n gs)
      by true h = (fits.0.selects.1, recursion_from_All (FitsSelect Method) g.selects fits.0.selects.2)
      by false h = h

pub here_under : (g : WireSelects) (gs : List WireSelects) (n : ℕ) → g.class ≡ n → selects_under n (g ∷ gs) ≡ g.selects
here_under g gs n e = rw (equal_numbers g.class n e) refl

later_under : (g : WireSelects) (gs : List WireSelects) (n : ℕ) → g.class < n → selects_under n (g ∷ gs) ≡ selects_under n gs
later_under g gs n lt = by (eqb g.class n) refl
  where
    by : (b : Bool) → eqb g.class n ≡ b → (if b then g.selects else selects_under n gs) ≡ selects_under n gs
    by true e = absurd (omega (arith, lt, eqb-true g.class n e))
    by false e = refl

next_number : (n m : ℕ) → n ≤ m → (m ≡ n → ⊥) → suc n ≤ m
next_number n m le other = by (cases_lt n m)
  where
    by : (n < m) ⊎ (m ≤ n) → suc n ≤ m
    by (inl lt) = omega (arith, lt)
    by (inr ge) = absurd (other (omega (arith, le, ge)))

module _ (d : Directory) where
  -- selects under a number before those of the classes don't matter
  pub without_first : (g : WireSelects) (gs : List WireSelects) (n : ℕ) (cs : List ClassDecl) → g.class < n → with_selects d n (g ∷ gs) cs ≡ with_selects d n gs cs
  without_first g gs n [] lt = refl
  without_first g gs n (c ∷ cs) lt =
      ap (λ (ss : List WireSelect). selecting d ss c ∷ with_selects d (suc n) (g ∷ gs) cs) (later_under g gs n lt)
      ∙ ap (λ (l : List ClassDecl). selecting d (selects_under n gs) c ∷ l) (without_first g gs (suc n) cs (omega (arith, lt)))

-- ---- how many classes have selects

some_none : (cs : List ClassDecl) → length (filter has_selects cs) ≡ 0 → some has_selects cs ≡ false
some_none [] h = refl
some_none (c ∷ cs) h = by (has_selects c) (some_none cs) h
  where
    by : (b : Bool) → (length (filter has_selects cs) ≡ 0 → some has_selects cs ≡ false) → length (if b then c ∷ filter has_selects cs else filter has_selects cs) ≡ 0 → (if b then true else some has_selects cs) ≡ false
    by true f h = absurd (omega arith)
    by false f h = f h

some_one : (cs : List ClassDecl) → 1 ≤ length (filter has_selects cs) → some has_selects cs ≡ true
some_one [] h = absurd (omega arith)
some_one (c ∷ cs) h = by (has_selects c) (some_one cs) h
  where
    by : (b : Bool) → (1 ≤ length (filter has_selects cs) → some has_selects cs ≡ true) → 1 ≤ length (if b then c ∷ filter has_selects cs else filter has_selects cs) → (if b then true else some has_selects cs) ≡ true
    by true f h = refl
    by false f h = f h

-- what a filter keeps of a first class
kept : (c : ClassDecl) (cs : List ClassDecl) (b : Bool) → has_selects c ≡ b → length (filter has_selects (c ∷ cs)) ≡ (if b then suc (length (filter has_selects cs)) else length (filter has_selects cs))
kept c cs true e = rw e refl
kept c cs false e = rw e refl

-- the version of classes of which so many have selects
version_of : (gs : List WireSelects) (cs : List ClassDecl) → length (filter has_selects cs) ≡ length gs → image_version cs ≡ version_with gs
version_of [] cs e = ap (λ (b : Bool). if b then 2 else 1) (some_none cs e)
version_of (g ∷ gs) cs e = ap (λ (b : Bool). if b then 2 else 1) (some_one cs (omega (arith, e)))

none_own : (c : ClassDecl) (ss : List Select) → has_selects (with_own c ss) ≡ false → with_own c [] ≡ with_own c ss
none_own c [] h = refl
none_own c (s ∷ ss) h = absurd (true≢false h)

pub no_selects : (d : Directory) (c : ClassDecl) → has_selects c ≡ false → selecting d [] (plain c) ≡ c
no_selects d c e = none_own c c.selects e

some_there : (c : ClassDecl) (ss : List Select) → has_selects (with_own c ss) ≡ true → 1 ≤ length ss
some_there c [] h = absurd (true≢false (sym h))
some_there c (s ∷ ss) h = omega arith

pub some_selects : (c : ClassDecl) → has_selects c ≡ true → 1 ≤ length c.selects
some_selects c e = some_there c c.selects e

module _ (d : Directory) (cs : List Class) (tells : Tells d cs) where
  abbrev Method : WireMethod → Type 0
  Method m = FitsMethod (ranges_in d) m

  -- ---- from numbers to names

  module _ (single : NoDoubles d) where
    select_forth : (s : WireSelect) → FitsSelect Method s → Forth (images.select cs) spelling.select (select_named d) s
    select_forth s fits = two _ _ _ _ (method_forth d cs tells single s.method fits.method) (byte_forth s.parent fits.parent)

    -- a class, its number and its selects
    own_forth : (n : ℕ) (c : ClassDecl) (ss : List WireSelect) → 1 ≤ length ss → length ss ≤ MAX_SELECTS → All (FitsSelect Method) ss
        → only_where (has_selects (selecting d ss c)) (images.number w16 n then images.counted w16 MAX_SELECTS (images.select cs) (map (select_named d) ss)) ≡ Some (wire.number w16 n ++ wire.counted w16 spelling.select ss)
    own_forth n c [] some few fits = absurd (omega arith)
    own_forth n c (s ∷ ss) some few fits =
        let each = all_map (FitsSelect Method) (Forth (images.select cs) spelling.select (select_named d)) select_forth (s ∷ ss) (recursion_from_All (FitsSelect Method) (s ∷ ss) fits) in
        two _ _ (wire.number w16 n) _ refl (counted_forth (images.select cs) spelling.select (select_named d) w16 MAX_SELECTS (s ∷ ss) few each)

    -- how the classes with the numbers from n on are spelled, and how many have selects
    record Spells (n : ℕ) (gs : List WireSelects) (ds : List ClassDecl) : Type 0 where
      pub are : selects_each cs n (with_selects d n gs ds) ≡ Some (flat_map spelling.class_selects gs)
      pub many : length (filter has_selects (with_selects d n gs ds)) ≡ length gs

    has_some : (c : ClassDecl) (ss : List WireSelect) → 1 ≤ length ss → has_selects (selecting d ss c) ≡ true
    has_some c [] h = absurd (omega arith)
    has_some c (s ∷ ss) h = refl

    -- the class of the next number has selects
    spells_own : (classes n : ℕ) (g : WireSelects) (gs : List WireSelects) (c : ClassDecl) (ds : List ClassDecl) → FitAscending classes Method n (g ∷ gs) → g.class ≡ n → Spells (suc n) gs ds → Spells n (g ∷ gs) (c ∷ ds)
    spells_own classes n g gs c ds fits is r =
        let own : selects_under n (g ∷ gs) ≡ g.selects = here_under g gs n is in
        let rest : with_selects d (suc n) (g ∷ gs) ds ≡ with_selects d (suc n) gs ds = without_first d g gs (suc n) ds (omega (arith, is)) in
        let this : ClassDecl = selecting d g.selects c in
        let all : with_selects d n (g ∷ gs) (c ∷ ds) ≡ this ∷ with_selects d (suc n) gs ds = ap (λ (ss : List WireSelect). selecting d ss c ∷ with_selects d (suc n) (g ∷ gs) ds) own ∙ ap (λ (l : List ClassDecl). this ∷ l) rest in
        let first = own_forth n c g.selects fits.0.selects.0 fits.0.selects.1 fits.0.selects.2 in
        let bytes : wire.number w16 n ++ wire.counted w16 spelling.select g.selects ≡ spelling.class_selects g = ap (λ (k : ℕ). wire.number w16 k ++ wire.counted w16 spelling.select g.selects) (sym is) in
        record {
          are = ap (selects_each cs n) all
              ∙ ap (λ (s : Spelled). s then selects_each cs (suc n) (with_selects d (suc n) gs ds)) first
              ∙ ap (λ (s : Spelled). Some (wire.number w16 n ++ wire.counted w16 spelling.select g.selects) then s) r.are
              ∙ ap (λ (x : List ℕ). some_bytes (x ++ flat_map spelling.class_selects gs)) bytes
              ∙ ap some_bytes (sym (flat_map-cons spelling.class_selects g gs));
          many = ap (λ (l : List ClassDecl). length (filter has_selects l)) all ∙ kept this (with_selects d (suc n) gs ds) true (has_some c g.selects fits.0.selects.0) ∙ ap suc r.many;
        }

    -- it has none
    spells_none : (classes n : ℕ) (gs : List WireSelects) (c : ClassDecl) (ds : List ClassDecl) → FitAscending classes Method (suc n) gs → Spells (suc n) gs ds → Spells n gs (c ∷ ds)
    spells_none classes n gs c ds ascend r =
        let own : selects_under n gs ≡ [] = none_under classes Method n (suc n) gs (omega arith) ascend in
        let all : with_selects d n gs (c ∷ ds) ≡ selecting d [] c ∷ with_selects d (suc n) gs ds = ap (λ (ss : List WireSelect). selecting d ss c ∷ with_selects d (suc n) gs ds) own in
        record {
          are = ap (selects_each cs n) all ∙ ap (λ (s : Spelled). Some [] then s) r.are;
          many = ap (λ (l : List ClassDecl). length (filter has_selects l)) all ∙ r.many;
        }

    spells_by : (classes n : ℕ) (g : WireSelects) (gs : List WireSelects) (c : ClassDecl) (ds : List ClassDecl) → FitAscending classes Method n (g ∷ gs) → (b : Bool) → eqb g.class n ≡ b
        → (FitAscending classes Method (suc n) gs → Spells (suc n) gs ds) → (FitAscending classes Method (suc n) (g ∷ gs) → Spells (suc n) (g ∷ gs) ds) → Spells n (g ∷ gs) (c ∷ ds)
    spells_by classes n g gs c ds fits true e here later =
        let is = eqb-true g.class n e in
        spells_own classes n g gs c ds fits is (here (subst (λ (k : ℕ). FitAscending classes Method (suc k) gs) is fits.1))
    spells_by classes n g gs c ds fits false e here later =
        let ascend : FitAscending classes Method (suc n) (g ∷ gs) = (record { reached = next_number n g.class fits.0.reached (eqb-false g.class n e); below = fits.0.below; selects = fits.0.selects }, fits.1) in
        spells_none classes n (g ∷ gs) c ds ascend (later ascend)

    spells : (classes n : ℕ) (gs : List WireSelects) (ds : List ClassDecl) → classes ≡ n + length ds → FitAscending classes Method n gs → Spells n gs ds
    spells classes n [] [] e fits = record { are = refl; many = refl }
    spells classes n (g ∷ gs) [] e fits = absurd (omega (arith, e, fits.0.reached, fits.0.below))
    spells classes n [] (c ∷ ds) e fits = spells_none classes n [] c ds tt (spells classes (suc n) [] ds (omega (arith, e)) tt)
    spells classes n (g ∷ gs) (c ∷ ds) e fits =
        spells_by classes n g gs c ds fits (eqb g.class n) refl (spells classes (suc n) gs ds (omega (arith, e))) (spells classes (suc n) (g ∷ gs) ds (omega (arith, e)))

    pub record SectionForth (n : ℕ) (gs : List WireSelects) (ds : List ClassDecl) : Type 0 where
      pub version : image_version (with_selects d n gs ds) ≡ version_with gs
      pub bytes : images.selects cs n (with_selects d n gs ds) ≡ Some (section gs)

    section_by : (n : ℕ) (gs : List WireSelects) (ds : List ClassDecl) → Spells n gs ds → images.selects cs n (with_selects d n gs ds) ≡ Some (section gs)
    section_by n [] ds s = ap (λ (b : Bool). only_where b (images.number w16 (length (filter has_selects (with_selects d n [] ds))) then selects_each cs n (with_selects d n [] ds))) (some_none (with_selects d n [] ds) s.many)
    section_by n (g ∷ gs) ds s =
        let cls : List ClassDecl = with_selects d n (g ∷ gs) ds in
        ap (λ (b : Bool). only_where b (images.number w16 (length (filter has_selects cls)) then selects_each cs n cls)) (some_one cls (omega (arith, s.many)))
        ∙ ap (λ (k : ℕ). images.number w16 k then selects_each cs n cls) s.many
        ∙ ap (λ (x : Spelled). images.number w16 (length (g ∷ gs)) then x) s.are

    -- the section of classes of which the first has the number n
    pub section_forth : (classes n : ℕ) (gs : List WireSelects) (ds : List ClassDecl) → classes ≡ n + length ds → FitAscending classes Method n gs → SectionForth n gs ds
    section_forth classes n gs ds e fits =
        let s = spells classes n gs ds e fits in
        record { version = version_of gs (with_selects d n gs ds) s.many; bytes = section_by n gs ds s }

  -- ---- and back

  select_back : (s : Select) → Back (images.select cs) spelling.select (FitsSelect Method) (select_named d) s
  select_back s bytes e =
      let p = split (images.method cs s.method) (images.byte s.parent) bytes e in
      let m = method_back d cs tells s.method p.front p.first in
      let b = byte_back s.parent p.back p.second in
      record {
        it = record { method = m.it; parent = s.parent };
        spelled = join _ _ _ _ _ m.spelled b.0 p.whole;
        fits = record { method = m.fits; parent = b.1 };
        names = ap (λ (x : MethodRef). a_select x s.parent) m.names;
      }

  -- the selects that those of classes with the numbers from n on are named from
  pub record Groups (classes n : ℕ) (ds : List ClassDecl) (bytes : List ℕ) : Type 0 where
    pub groups : List WireSelects
    pub spelled : flat_map spelling.class_selects groups ≡ bytes
    pub ascend : FitAscending classes Method n groups
    pub names : with_selects d n groups (map plain ds) ≡ ds
    pub many : length (filter has_selects ds) ≡ length groups

  lower : (classes n : ℕ) (gs : List WireSelects) → FitAscending classes Method (suc n) gs → FitAscending classes Method n gs
  lower classes n [] fits = tt
  lower classes n (g ∷ gs) fits = (record { reached = omega (arith, fits.0.reached); below = fits.0.below; selects = fits.0.selects }, fits.1)

  -- a class more, which has selects or none
  groups_more : (classes n : ℕ) (c : ClassDecl) (ds : List ClassDecl) → n + length (c ∷ ds) ≤ classes → ((bytes : List ℕ) → selects_each cs (suc n) ds ≡ Some bytes → Groups classes (suc n) ds bytes) → (bytes : List ℕ)
      → (b : Bool) → has_selects c ≡ b → (only_where b (images.number w16 n then images.counted w16 MAX_SELECTS (images.select cs) c.selects) then selects_each cs (suc n) ds) ≡ Some bytes → Groups classes n (c ∷ ds) bytes
  groups_more classes n c ds few others bytes false has given =
      let p = split (Some []) (selects_each cs (suc n) ds) bytes given in
      let r = others p.back p.second in
      let own : selects_under n r.groups ≡ [] = none_under classes Method n (suc n) r.groups (omega arith) r.ascend in
      record {
        groups = r.groups;
        spelled = r.spelled ∙ ap (λ (x : List ℕ). x ++ p.back) (bytes_are [] p.front p.first) ∙ p.whole;
        ascend = lower classes n r.groups r.ascend;
        names = ap (λ (ss : List WireSelect). selecting d ss (plain c) ∷ with_selects d (suc n) r.groups (map plain ds)) own
            ∙ ap (λ (x : ClassDecl). x ∷ with_selects d (suc n) r.groups (map plain ds)) (no_selects d c has)
            ∙ ap (λ (l : List ClassDecl). c ∷ l) r.names;
        many = kept c ds false has ∙ r.many;
      }
  groups_more classes n c ds few others bytes true has given =
      let own_spelled : Spelled = images.number w16 n then images.counted w16 MAX_SELECTS (images.select cs) c.selects in
      let p = split own_spelled (selects_each cs (suc n) ds) bytes given in
      let q = split (images.number w16 n) (images.counted w16 MAX_SELECTS (images.select cs) c.selects) p.front p.first in
      let ss = counted_back (images.select cs) spelling.select (select_named d) (FitsSelect Method) w16 1 MAX_SELECTS c.selects (some_selects c has) (all_of (Back (images.select cs) spelling.select (FitsSelect Method) (select_named d)) select_back c.selects) q.back q.second in
      let g : WireSelects = record { class = n; selects = ss.it } in
      let r = others p.back p.second in
      let own : selects_under n (g ∷ r.groups) ≡ ss.it = here_under g r.groups n refl in
      let rest : with_selects d (suc n) (g ∷ r.groups) (map plain ds) ≡ with_selects d (suc n) r.groups (map plain ds) = without_first d g r.groups (suc n) (map plain ds) (omega arith) in
      let first : spelling.class_selects g ≡ p.front = join _ _ _ _ _ (bytes_are (wire.number w16 n) q.front q.first) ss.spelled q.whole in
      record {
        groups = g ∷ r.groups;
        spelled = flat_map-cons spelling.class_selects g r.groups ∙ join _ _ _ _ _ first r.spelled p.whole;
        ascend = (record { reached = omega arith; below = omega (arith, few); selects = ss.fits }, r.ascend);
        names = ap (λ (x : List WireSelect). selecting d x (plain c) ∷ with_selects d (suc n) (g ∷ r.groups) (map plain ds)) own
            ∙ ap (λ (l : List ClassDecl). selecting d ss.it (plain c) ∷ l) rest
            ∙ ap (λ (l : List Select). with_own c l ∷ with_selects d (suc n) r.groups (map plain ds)) ss.names
            ∙ ap (λ (l : List ClassDecl). c ∷ l) r.names;
        many = kept c ds true has ∙ ap suc r.many;
      }

  groups_back : (classes n : ℕ) (ds : List ClassDecl) → n + length ds ≤ classes → (bytes : List ℕ) → selects_each cs n ds ≡ Some bytes → Groups classes n ds bytes
  groups_back classes n [] few bytes e = record { groups = []; spelled = bytes_are [] bytes e; ascend = tt; names = refl; many = refl }
  groups_back classes n (c ∷ ds) few bytes e = groups_more classes n c ds few (groups_back classes (suc n) ds (omega (arith, few))) bytes (has_selects c) refl e

  -- what the section of classes is named from
  pub record SectionBack (classes n : ℕ) (ds : List ClassDecl) (bytes : List ℕ) : Type 0 where
    pub groups : List WireSelects
    pub spelled : section groups ≡ bytes
    pub ascend : FitAscending classes Method n groups
    pub names : with_selects d n groups (map plain ds) ≡ ds
    pub version : image_version ds ≡ version_with groups

  spelled_section : (n : ℕ) (ds : List ClassDecl) (gs : List WireSelects) (front bytes : List ℕ) → length (filter has_selects ds) ≡ length gs → 1 ≤ length gs → to_be_bytes w16 (length (filter has_selects ds)) ≡ front → front ++ flat_map spelling.class_selects gs ≡ bytes → section gs ≡ bytes
  spelled_section n ds [] front bytes many some count whole = absurd (omega arith)
  spelled_section n ds (g ∷ gs) front bytes many some count whole =
      ap (λ (x : List ℕ). x ++ flat_map spelling.class_selects (g ∷ gs)) (ap (to_be_bytes w16) (sym many) ∙ count) ∙ whole

  -- where no class has selects, each has a spelling without a byte
  none_by : (n : ℕ) (c : ClassDecl) (ds : List ClassDecl) (b : Bool) → (some has_selects ds ≡ false → selects_each cs (suc n) ds ≡ Some []) → (if b then true else some has_selects ds) ≡ false
      → (only_where b (images.number w16 n then images.counted w16 MAX_SELECTS (images.select cs) c.selects) then selects_each cs (suc n) ds) ≡ Some []
  none_by n c ds true f h = absurd (true≢false h)
  none_by n c ds false f h = ap (λ (s : Spelled). Some [] then s) (f h)

  none_each : (n : ℕ) (ds : List ClassDecl) → some has_selects ds ≡ false → selects_each cs n ds ≡ Some []
  none_each n [] h = refl
  none_each n (c ∷ ds) h = none_by n c ds (has_selects c) (none_each (suc n) ds) h

  no_groups : (gs : List WireSelects) → flat_map spelling.class_selects gs ≡ [] → gs ≡ []
  no_groups [] h = refl
  no_groups (g ∷ gs) h = absurd (let z = sym (flat_map-cons spelling.class_selects g gs) ∙ h in cc)

  at_least : (ds : List ClassDecl) (gs : List WireSelects) → length (filter has_selects ds) ≡ length gs → some has_selects ds ≡ true → 1 ≤ length gs
  at_least ds [] many h = absurd (true≢false (sym h ∙ some_none ds many))
  at_least ds (g ∷ gs) many h = omega arith

  section_by_case : (classes n : ℕ) (ds : List ClassDecl) → n + length ds ≤ classes → (bytes : List ℕ) (b : Bool) → some has_selects ds ≡ b → only_where b (images.number w16 (length (filter has_selects ds)) then selects_each cs n ds) ≡ Some bytes → SectionBack classes n ds bytes
  section_by_case classes n ds few bytes false is given =
      let r = groups_back classes n ds few [] (none_each n ds is) in
      let none : r.groups ≡ [] = no_groups r.groups r.spelled in
      record {
        groups = r.groups;
        spelled = ap section none ∙ bytes_are [] bytes given;
        ascend = r.ascend;
        names = r.names;
        version = version_of r.groups ds r.many;
      }
  section_by_case classes n ds few bytes true is given =
      let p = split (images.number w16 (length (filter has_selects ds))) (selects_each cs n ds) bytes given in
      let r = groups_back classes n ds few p.back p.second in
      let there : 1 ≤ length r.groups = at_least ds r.groups r.many is in
      record {
        groups = r.groups;
        spelled = spelled_section n ds r.groups p.front bytes r.many there (bytes_are (to_be_bytes w16 (length (filter has_selects ds))) p.front p.first) (ap (λ (x : List ℕ). p.front ++ x) r.spelled ∙ p.whole);
        ascend = r.ascend;
        names = r.names;
        version = version_of r.groups ds r.many;
      }

  pub section_back : (classes n : ℕ) (ds : List ClassDecl) → n + length ds ≤ classes → (bytes : List ℕ) → images.selects cs n ds ≡ Some bytes → SectionBack classes n ds bytes
  section_back classes n ds few bytes e = section_by_case classes n ds few bytes (some has_selects ds) refl e

-- ---- sections by their numbers

pub section_ascends : (ranges : Ranges) (first : ℕ) (gs : List WireSelects) → FitsSection ranges first gs → FitAscending ranges.classes (FitsMethod ranges) first gs
section_ascends ranges first [] fits = tt
section_ascends ranges first (g ∷ gs) fits = fits.ascend

pub section_fits : (ranges : Ranges) (first : ℕ) (gs : List WireSelects) → FitAscending ranges.classes (FitsMethod ranges) first gs → FitsSection ranges first gs
section_fits ranges first [] ascend = tt
section_fits ranges first (g ∷ gs) ascend = record { some = omega arith; ascend = ascend }

-- the version of a section is one that is known
pub version_known : (gs : List WireSelects) → (1 ≤ version_with gs) × (version_with gs ≤ 2)
version_known [] = (omega arith, omega arith)
version_known (g ∷ gs) = (omega arith, omega arith)
