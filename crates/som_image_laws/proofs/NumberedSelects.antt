-- The selects of classes with numbers are named back to what they were made of, and they fit.
use Rattle.std.proofs.Common.{◌≡◌, ℕ, suc, ◌+◌, ◌<◌, ◌≤◌, ◌^◌, Bool, true, false, List, [], ◌∷◌, length, map, refl, sym, ap, subst, ◌∙◌, arith}
use Rattle.std.specs.Prelude.{if◌then◌else◌}
use Rattle.std.specs.List.{AllByRecursion}
use Rattle.std.proofs.lemmas.List.Elements.{recursion_from_All}
use Rattle.som_model.specs.declared.limits.TheConstants.{MAX_SELECTS}
use Rattle.som_model.specs.declared.key.MethodRef.{MethodRef}
use Rattle.som_model.specs.declared.class.Select.{Select}
use Rattle.som_model.specs.declared.class.ClassDecl.{ClassDecl}
use Rattle.som_model.specs.Images.{has_selects}
use Rattle.som_image_fields.specs.declared.method.WireMethod.{WireMethod}
use Rattle.som_image_fields.specs.Spelling.{FitsMethod}
use Rattle.som_image_fields.specs.declared.selects.WireSelect.{WireSelect}
use Rattle.som_image_fields.specs.declared.selects.WireSelects.{WireSelects}
use Rattle.som_image_fields.specs.Fitting.{FitsSelect, FitAscending}
use Rattle.som_image_decode.specs.declared.directory.Directory.{Directory}
use Rattle.som_image_decode.specs.Naming.{ranges_in}
use Rattle.som_image_decode.proofs.OwnSelects.{with_own}
use Rattle.som_image_classes.specs.NamedClasses.{select_named, selects_under, selecting, with_selects}
use Rattle.som_image_classes.proofs.NamedParts.{plain}
use Rattle.som_image_classes.proofs.NamedSelects.{none_under, here_under, without_first, no_selects, some_selects}
use Rattle.som_image_encode.specs.Numbering.{MethodKnown}
use Rattle.som_image_encode.specs.NumberedClasses.{select_numbered, selects_numbered}
use Rattle.som_image_encode.proofs.NumberedKinds.{TurnsBack, counted_turn, method_turns}
use Rattle.som_image_laws.proofs.NumberedParts.{ClassReady}

abbrev a_select : MethodRef → ℕ → Select
a_select method parent = record { method = method; parent = parent }

module _ (d : Directory) where
  abbrev Method : WireMethod → Type 0
  Method m = FitsMethod (ranges_in d) m

  abbrev Turns : Select → Type 0
  Turns = TurnsBack (FitsSelect Method) (select_named d) (select_numbered d)

  select_turns : (s : Select) → MethodKnown d s.method → s.parent < 2 ^ 8 → Turns s
  select_turns s known small =
      let m = method_turns d s.method known in
      record { fits = record { method = m.fits; parent = small }; names = ap (λ (x : MethodRef). a_select x s.parent) m.names }

  each_turns : (ss : List Select) → AllByRecursion (λ (s : Select). MethodKnown d s.method) ss → AllByRecursion (λ (s : Select). s.parent < 2 ^ 8) ss → AllByRecursion Turns ss
  each_turns [] known small = tt
  each_turns (s ∷ ss) known small = (select_turns s known.0 small.0, each_turns ss known.1 small.1)

  -- the selects of classes with the numbers from n on
  pub record SelectsTurn (n : ℕ) (ds : List ClassDecl) : Type 0 where
    pub ascend : FitAscending (length d.keys) Method n (selects_numbered d n ds)
    pub names : with_selects d n (selects_numbered d n ds) (map plain ds) ≡ ds

  lower : (classes n : ℕ) (gs : List WireSelects) → FitAscending classes Method (suc n) gs → FitAscending classes Method n gs
  lower classes n [] fits = tt
  lower classes n (g ∷ gs) fits = (record { reached = omega (arith, fits.0.reached); below = fits.0.below; selects = fits.0.selects }, fits.1)

  -- what the class of a number and those after it come to, with these selects
  record Turned (n : ℕ) (c : ClassDecl) (ds : List ClassDecl) (gs : List WireSelects) : Type 0 where
    ascend : FitAscending (length d.keys) Method n gs
    names : with_selects d n gs (map plain (c ∷ ds)) ≡ c ∷ ds

  abbrev own_group : ℕ → ClassDecl → WireSelects
  own_group n c = record { class = n; selects = map (select_numbered d) c.selects }

  abbrev groups_by : ℕ → ClassDecl → List ClassDecl → Bool → List WireSelects
  groups_by n c ds b = if b then own_group n c ∷ selects_numbered d (suc n) ds else selects_numbered d (suc n) ds

  turned : (n : ℕ) (c : ClassDecl) (ds : List ClassDecl) → n + length (c ∷ ds) ≤ length d.keys → ClassReady d c → SelectsTurn (suc n) ds → (b : Bool) → has_selects c ≡ b → Turned n c ds (groups_by n c ds b)
  turned n c ds few ready r false has =
      let rest : List WireSelects = selects_numbered d (suc n) ds in
      let own : selects_under n rest ≡ [] = none_under (length d.keys) Method n (suc n) rest (omega arith) r.ascend in
      record {
        ascend = lower (length d.keys) n rest r.ascend;
        names = ap (λ (ss : List WireSelect). selecting d ss (plain c) ∷ with_selects d (suc n) rest (map plain ds)) own
            ∙ ap (λ (x : ClassDecl). x ∷ with_selects d (suc n) rest (map plain ds)) (no_selects d c has)
            ∙ ap (λ (l : List ClassDecl). c ∷ l) r.names;
      }
  turned n c ds few ready r true has =
      let rest : List WireSelects = selects_numbered d (suc n) ds in
      let g : WireSelects = own_group n c in
      let each = each_turns c.selects (recursion_from_All (λ (s : Select). MethodKnown d s.method) c.selects ready.known.selects) ready.selects in
      let ss = counted_turn (FitsSelect Method) (select_named d) (select_numbered d) 1 MAX_SELECTS c.selects (some_selects c has) ready.within.selects each in
      let own : selects_under n (g ∷ rest) ≡ map (select_numbered d) c.selects = here_under g rest n refl in
      let later : with_selects d (suc n) (g ∷ rest) (map plain ds) ≡ with_selects d (suc n) rest (map plain ds) = without_first d g rest (suc n) (map plain ds) (omega arith) in
      record {
        ascend = (record { reached = omega arith; below = omega (arith, few); selects = ss.fits }, r.ascend);
        names = ap (λ (x : List WireSelect). selecting d x (plain c) ∷ with_selects d (suc n) (g ∷ rest) (map plain ds)) own
            ∙ ap (λ (l : List ClassDecl). selecting d (map (select_numbered d) c.selects) (plain c) ∷ l) later
            ∙ ap (λ (l : List Select). with_own c l ∷ with_selects d (suc n) rest (map plain ds)) ss.names
            ∙ ap (λ (l : List ClassDecl). c ∷ l) r.names;
      }

  turned_by : (n : ℕ) (c : ClassDecl) (ds : List ClassDecl) (b : Bool) → has_selects c ≡ b → Turned n c ds (groups_by n c ds b) → SelectsTurn n (c ∷ ds)
  turned_by n c ds b has t =
      let same : selects_numbered d n (c ∷ ds) ≡ groups_by n c ds b = ap (groups_by n c ds) has in
      record {
        ascend = subst (FitAscending (length d.keys) Method n) (sym same) t.ascend;
        names = ap (λ (gs : List WireSelects). with_selects d n gs (map plain (c ∷ ds))) same ∙ t.names;
      }

  pub selects_turn : (n : ℕ) (ds : List ClassDecl) → n + length ds ≤ length d.keys → AllByRecursion (ClassReady d) ds → SelectsTurn n ds
  selects_turn n [] few ready = record { ascend = tt; names = refl }
  selects_turn n (c ∷ ds) few ready =
      turned_by n c ds (has_selects c) refl (turned n c ds few ready.0 (selects_turn (suc n) ds (omega (arith, few)) ready.1) (has_selects c) refl)
