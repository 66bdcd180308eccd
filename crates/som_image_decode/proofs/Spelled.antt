-- Fields that are spelled one after the other, in two forms: with names, and with numbers.
use Rattle.std.proofs.Common.{◌≡◌, ℕ, ◌≤◌, Bool, true, false, List, [], ◌∷◌, ◌++◌, length, map, Some, None, refl, sym, ap, ◌∙◌, arith}
use Rattle.std.specs.Prelude.{nat_le, All}
use Rattle.std.specs.List.{flat_map, AllByRecursion}
use Rattle.std.specs.Int.{Width, w16, to_be_bytes}
use Rattle.std.proofs.lemmas.Bool.{leb-true, le-leb}
use Rattle.std.proofs.lemmas.List.{length-map}
use Rattle.std.proofs.lemmas.List.Concat.{flat_map-cons}
use Rattle.std.proofs.lemmas.List.Elements.{All-from_recursion}
use Rattle.som_model.specs.declared.limits.TheConstants.{MAX_TEXT}
use Rattle.som_model.specs.Images as images
use Rattle.som_model.specs.Images.{Spelled, ◌then◌, each, where_it_is}
use Rattle.som_image_fields.specs.Spelling as wire
use Rattle.som_image_fields.specs.Spelling.{FitsText, FitsCounted}

abbrev no_bytes : Spelled
no_bytes = None

abbrev pub some_bytes : List ℕ → Spelled
some_bytes b = Some b

pub none_some : {X : Type 0} (bytes : List ℕ) → no_bytes ≡ some_bytes bytes → X
none_some bytes h = absurd cc

pub bytes_are : (a b : List ℕ) → some_bytes a ≡ some_bytes b → a ≡ b
bytes_are a b e = cc

-- both of two fields that have a spelling have one
pub record Split (a b : Spelled) (bytes : List ℕ) : Type 0 where
  pub front : List ℕ
  pub back : List ℕ
  pub first : a ≡ Some front
  pub second : b ≡ Some back
  pub whole : front ++ back ≡ bytes

pub split : (a b : Spelled) (bytes : List ℕ) → (a then b) ≡ Some bytes → Split a b bytes
split (Some x) (Some y) bytes h = record { front = x; back = y; first = refl; second = refl; whole = bytes_are (x ++ y) bytes h }
split (Some x) None bytes h = none_some bytes h
split None b bytes h = none_some bytes h

-- a field in its range
pub guarded : (b : Bool) (s : Spelled) (bytes : List ℕ) → where_it_is b s ≡ Some bytes → (b ≡ true) × (s ≡ Some bytes)
guarded true s bytes h = (refl, h)
guarded false s bytes h = none_some bytes h

-- ---- one value

-- what stands for a value is spelled with numbers as the value is with names
abbrev pub Forth : {A W : Type 0} → (A → Spelled) → (W → List ℕ) → (W → A) → W → Type 0
Forth spell with_numbers named w = spell (named w) ≡ Some (with_numbers w)

-- what a value that has a spelling is named from
pub record From {A W : Type 0} (with_numbers : W → List ℕ) (Fits : W → Type 0) (named : W → A) (v : A) (bytes : List ℕ) : Type 0 where
  pub it : W
  pub spelled : with_numbers it ≡ bytes
  pub fits : Fits it
  pub names : named it ≡ v

abbrev pub Back : {A W : Type 0} → (A → Spelled) → (W → List ℕ) → (W → Type 0) → (W → A) → A → Type 0
Back spell with_numbers Fits named v = (bytes : List ℕ) → spell v ≡ Some bytes → From with_numbers Fits named v bytes

-- ---- many values

module _ {A W : Type 0} (spell : A → Spelled) (with_numbers : W → List ℕ) (named : W → A) where
  pub each_forth : (ws : List W) → AllByRecursion (Forth spell with_numbers named) ws → each spell (map named ws) ≡ Some (flat_map with_numbers ws)
  each_forth [] h = refl
  each_forth (w ∷ ws) h =
      ap (λ (s : Spelled). s then each spell (map named ws)) h.0
      ∙ ap (λ (s : Spelled). Some (with_numbers w) then s) (each_forth ws h.1)
      ∙ ap some_bytes (sym (flat_map-cons with_numbers w ws))

  pub counted_forth : (width : Width) (most : ℕ) (ws : List W) → length ws ≤ most → AllByRecursion (Forth spell with_numbers named) ws → images.counted width most spell (map named ws) ≡ Some (wire.counted width with_numbers ws)
  counted_forth width most ws le h =
      let same : length (map named ws) ≡ length ws = length-map ws named in
      ap (λ (n : ℕ). where_it_is (nat_le n most) (images.number width n then each spell (map named ws))) same
      ∙ ap (λ (b : Bool). where_it_is b (images.number width (length ws) then each spell (map named ws))) (le-leb (length ws) most le)
      ∙ ap (λ (s : Spelled). images.number width (length ws) then s) (each_forth ws h)

  module _ (Fits : W → Type 0) where
    each_back : (vs : List A) → AllByRecursion (Back spell with_numbers Fits named) vs → Back (each spell) (flat_map with_numbers) (AllByRecursion Fits) (map named) vs
    each_back [] h bytes e = record { it = []; spelled = bytes_are [] bytes e; fits = tt; names = refl }
    each_back (v ∷ vs) h bytes e =
        let s = split (spell v) (each spell vs) bytes e in
        let w = h.0 s.front s.first in
        let ws = each_back vs h.1 s.back s.second in
        record {
          it = w.it ∷ ws.it;
          spelled = flat_map-cons with_numbers w.it ws.it ∙ ap (λ (x : List ℕ). x ++ flat_map with_numbers ws.it) w.spelled ∙ ap (λ (y : List ℕ). s.front ++ y) ws.spelled ∙ s.whole;
          fits = (w.fits, ws.fits);
          names = ap (λ (x : A). x ∷ map named ws.it) w.names ∙ ap (λ (xs : List A). v ∷ xs) ws.names;
        }

    -- as many of them as there are values
    as_many : (ws : List W) (vs : List A) → map named ws ≡ vs → length ws ≡ length vs
    as_many ws vs e = sym (length-map ws named) ∙ ap (length {A = A}) e

    -- a list without its count
    pub many_back : (vs : List A) → AllByRecursion (Back spell with_numbers Fits named) vs → Back (each spell) (flat_map with_numbers) (λ ws. (length ws ≡ length vs) × All Fits ws) (map named) vs
    many_back vs h bytes e =
        let f = each_back vs h bytes e in
        record { it = f.it; spelled = f.spelled; fits = (as_many f.it vs f.names, All-from_recursion Fits f.it f.fits); names = f.names }

    pub counted_back : (width : Width) (least most : ℕ) (vs : List A) → least ≤ length vs → AllByRecursion (Back spell with_numbers Fits named) vs → Back (images.counted width most spell) (wire.counted width with_numbers) (FitsCounted least most Fits) (map named) vs
    counted_back width least most vs few h bytes e =
        let g = guarded (nat_le (length vs) most) (images.number width (length vs) then each spell vs) bytes e in
        let s = split (images.number width (length vs)) (each spell vs) bytes g.1 in
        let f = many_back vs h s.back s.second in
        let same : length f.it ≡ length vs = f.fits.0 in
        let count : to_be_bytes width (length vs) ≡ s.front = bytes_are (to_be_bytes width (length vs)) s.front s.first in
        let le : length vs ≤ most = leb-true (length vs) most g.0 in
        record {
          it = f.it;
          spelled = ap (λ (n : ℕ). to_be_bytes width n ++ flat_map with_numbers f.it) same ∙ ap (λ (x : List ℕ). x ++ flat_map with_numbers f.it) count ∙ ap (λ (y : List ℕ). s.front ++ y) f.spelled ∙ s.whole;
          fits = (omega arith, omega arith, f.fits.1);
          names = f.names;
        }

-- ---- texts and versions

pub text_forth : (t : List ℕ) → FitsText t → images.text t ≡ Some (wire.text t)
text_forth t fits = ap (λ (b : Bool). where_it_is b (images.number w16 (length t) then Some t)) (le-leb (length t) MAX_TEXT fits)

pub text_back : (t bytes : List ℕ) → images.text t ≡ Some bytes → (wire.text t ≡ bytes) × FitsText t
text_back t bytes e =
    let g = guarded (nat_le (length t) MAX_TEXT) (images.number w16 (length t) then Some t) bytes e in
    (bytes_are (wire.text t) bytes g.1, leb-true (length t) MAX_TEXT g.0)
