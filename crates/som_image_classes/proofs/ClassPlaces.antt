-- What naming asks of numbers, and how a loop names classes.
use Rattle.std.proofs.Common.{◌≡◌, ℕ, suc, ◌+◌, ◌<◌, ◌≤◌, List, [], ◌∷◌, ◌++◌, length, map, get_or, refl, ap, ◌∙◌, arith}
use Rattle.std.proofs.lemmas.List.{length-map}
use Rattle.som_model.specs.declared.key.Module.TheVariants as modules
use Rattle.som_model.specs.declared.key.ClassKey.TheVariants as keys
use Rattle.som_model.specs.declared.class.ClassDecl.{ClassDecl}
use Rattle.som_image_fields.specs.declared.face.WireFace.{WireFace}
use Rattle.som_image_fields.specs.declared.method.Ranges.{Ranges}
use Rattle.som_image_fields.specs.declared.selects.WireSelects.{WireSelects}
use Rattle.som_image_decode.specs.declared.directory.Directory.{Directory}
use Rattle.som_image_classes.specs.ReadClasses.{ranges_of}
use Rattle.som_image_classes.specs.SpelledClasses.{FitEach}
use Rattle.som_image_decode.specs.Naming.{name_in, names_in, library_directory, ranges_in}
use Rattle.som_image_classes.specs.declared.named_part.NamedPart.{NamedPart}
use Rattle.som_image_classes.specs.NamedClasses.{class_of, classes_of, selects_under, selecting, with_selects}

-- ---- pairs of lists

pub fit_length : {A B : Type 0} (Fits : A → B → Type 0) (xs : List A) (ys : List B) → FitEach Fits xs ys → length xs ≡ length ys
fit_length Fits [] [] h = refl
fit_length Fits (x ∷ xs) (y ∷ ys) h = ap suc (fit_length Fits xs ys h.1)
fit_length Fits [] (y ∷ ys) h = absurd h
fit_length Fits (x ∷ xs) [] h = absurd h

-- ---- a class more

pub none_of : (d : Directory) (fs : List WireFace) → classes_of d fs [] ≡ []
none_of d [] = refl
none_of d (f ∷ fs) = refl

pub classes_more : (d : Directory) (fs : List WireFace) (ps : List NamedPart) (f : WireFace) (p : NamedPart) → length ps < length fs → classes_of d fs (ps ++ p ∷ []) ≡ classes_of d fs ps ++ class_of d (get_or fs (length ps) f) p ∷ []
classes_more d [] ps f p lt = absurd (omega arith)
classes_more d (x ∷ xs) [] f p lt = ap (λ (cs : List ClassDecl). class_of d x p ∷ cs) (none_of d xs)
classes_more d (x ∷ xs) (y ∷ ys) f p lt = ap (λ (cs : List ClassDecl). class_of d x y ∷ cs) (classes_more d xs ys f p (omega (arith, lt)))

pub classes_length : (d : Directory) (fs : List WireFace) (ps : List NamedPart) → length ps ≤ length fs → length (classes_of d fs ps) ≡ length ps
classes_length d fs [] le = ap (length {A = ClassDecl}) (none_of d fs)
classes_length d [] (p ∷ ps) le = absurd (omega arith)
classes_length d (f ∷ fs) (p ∷ ps) le = ap suc (classes_length d fs ps (omega (arith, le)))

-- a class more with its selects
pub selecting_more : (d : Directory) (n : ℕ) (groups : List WireSelects) (cs : List ClassDecl) (c : ClassDecl) → with_selects d n groups (cs ++ c ∷ []) ≡ with_selects d n groups cs ++ selecting d (selects_under (n + length cs) groups) c ∷ []
selecting_more d n groups [] c = ap (λ (m : ℕ). selecting d (selects_under m groups) c ∷ []) (omega arith)
selecting_more d n groups (x ∷ cs) c =
    let next : suc n + length cs ≡ n + length (x ∷ cs) = omega arith in
    ap (λ (l : List ClassDecl). selecting d (selects_under n groups) x ∷ l) (selecting_more d (suc n) groups cs c ∙ ap (λ (m : ℕ). with_selects d (suc n) groups cs ++ selecting d (selects_under m groups) c ∷ []) next)

-- ---- ranges

lengths_known : (fs : List WireFace) → map (λ names. length names) (map names_in fs) ≡ map (λ f. length f.entries) fs
lengths_known [] = refl
lengths_known (f ∷ fs) = ap (λ (n : ℕ). n ∷ map (λ names. length names) (map names_in fs)) (length-map f.entries name_in) ∙ ap (λ (ns : List ℕ). length f.entries ∷ ns) (lengths_known fs)

abbrev ranges : ℕ → List ℕ → Ranges
ranges classes entries = record { classes = classes; entries = entries }

-- the directory of a library has the ranges by which its image is read
pub ranges_known : (fs : List WireFace) → ranges_in (library_directory fs) ≡ ranges_of fs
ranges_known fs =
    let d : Directory = library_directory fs in
    let classes : length d.keys ≡ length fs + 4 = omega (arith, length-map fs (λ f. keys.Named modules.Library f.name)) in
    ap (λ (n : ℕ). ranges n (map (λ names. length names) d.slots)) classes
    ∙ ap (λ (ns : List ℕ). ranges (length fs + 4) (9 ∷ 6 ∷ 1 ∷ 2 ∷ ns)) (lengths_known fs)
