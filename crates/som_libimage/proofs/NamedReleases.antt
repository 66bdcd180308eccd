-- A release is spelled as the image that it is named from, and each release with a spelling is named from one.
use Rattle.std.proofs.Common.{◌≡◌, ℕ, ◌+◌, ◌≤◌, Bool, List, [], ◌∷◌, ◌++◌, length, map, Some, refl, sym, ap, subst, ◌∙◌, append_assoc, arith}
use Rattle.std.specs.Prelude.{nat_le, codes}
use Rattle.std.specs.List.{flat_map, AllByRecursion}
use Rattle.std.specs.Int.{w16, to_be_bytes}
use Rattle.std.proofs.lemmas.Bool.{leb-true, le-leb}
use Rattle.std.proofs.lemmas.List.{length-map}
use Rattle.std.proofs.lemmas.List.Elements.{All-from_recursion, recursion_from_All}
use Rattle.som_model.specs.declared.limits.TheConstants.{MAX_LIBRARY_CLASSES}
use Rattle.som_model.specs.declared.key.Module.TheVariants as modules
use Rattle.som_model.specs.declared.key.ClassKey.{ClassKey}
use Rattle.som_model.specs.declared.class.ClassDecl.{ClassDecl}
use Rattle.som_model.specs.declared.program.Release.{Release}
use Rattle.som_model.specs.Class.{Class, class_in}
use Rattle.som_model.specs.Kernel.{kernel}
use Rattle.som_model.specs.Classes.{library_classes}
use Rattle.som_model.specs.Images as images
use Rattle.som_model.specs.Images.{Spelled, ◌then◌, each, tag, where_it_is, image_version, library_image}
use Rattle.som_image_fields.specs.declared.face.WireFace.{WireFace}
use Rattle.som_image_fields.specs.declared.method.Ranges.{Ranges}
use Rattle.som_image_fields.specs.Spelling as wire
use Rattle.som_image_fields.specs.Spelling.{FitsFace}
use Rattle.som_image_fields.specs.declared.selects.WireSelects.{WireSelects}
use Rattle.som_image_fields.specs.SyntaxSpelling as spelling
use Rattle.som_image_decode.specs.declared.directory.Directory.{Directory}
use Rattle.som_image_classes.specs.ReadClasses.{ranges_of}
use Rattle.som_image_classes.specs.SpelledClasses.{FitsClass, FitsParts, FitsSection, version_with, section}
use Rattle.som_image_decode.specs.Naming.{library_directory, ranges_in, entry_names, Tells, NoDoubles}
use Rattle.som_image_classes.specs.NamedClasses.{face_named, classes_named, with_selects}
use Rattle.som_image_classes.specs.Interfaces.{NamesDiffer}
use Rattle.som_image_classes.proofs.ClassPlaces.{fit_length, ranges_known}
use Rattle.som_image_decode.proofs.Spelled.{some_bytes, bytes_are, split, guarded}
use Rattle.som_image_classes.proofs.NamedClasses.{distinct_of, faces_kept, as_many_classes, map_selecting, each_selecting, many_selecting, known_classes, told_selecting, as_many_keys, no_doubles, faces_forth, parts_forth, Pairs, pairs_back, directory_of}
use Rattle.som_image_classes.proofs.NamedSelects.{section_ascends, section_fits, section_forth, SectionBack, section_back}
use Rattle.som_libimage.specs.declared.wire.WireRelease.{WireRelease}
use Rattle.som_libimage.specs.Spelling.{FitsRelease, library}
use Rattle.som_libimage.specs.Naming.{release_named}
use Rattle.som_libimage.specs.Libraries.{SpellsLibrary}

-- ---- whole images

abbrev image_by : ℕ → ℕ → Spelled → Spelled → Spelled → Spelled
image_by v n fs ps ss = Some (codes "SOML") then tag v then where_it_is (nat_le n MAX_LIBRARY_CLASSES) (images.number w16 n then fs) then ps then ss

abbrev known_to : Release → List Class
known_to r = kernel ++ library_classes r

image_is : (r : Release) → library_image r ≡ image_by (image_version r.classes) (length r.classes) (each (λ c. images.face (known_to r) c.face) r.classes) (each (images.part (known_to r)) r.classes) (images.selects (known_to r) 4 r.classes)
unfolding library_image
image_is r = refl

regroup : (h f p s : List ℕ) → ((h ++ f) ++ p) ++ s ≡ h ++ (f ++ (p ++ s))
regroup h f p s = append_assoc (h ++ f) p s ∙ append_assoc h f (p ++ s)

-- the release of an image in which no name stands twice is spelled as it
pub release_forth : (w : WireRelease) → FitsRelease w → NamesDiffer (map (λ (c : ClassDecl). c.face) ((release_named w).classes)) → library_image (release_named w) ≡ Some (library w)
release_forth w fits differ =
    let fs : List WireFace = w.faces in
    let gs : List WireSelects = w.selects in
    let d : Directory = library_directory fs in
    let r : Release = release_named w in
    let cs : List Class = known_to r in
    let ds : List ClassDecl = classes_named d fs w.parts in
    let same : length fs ≡ length w.parts = fit_length (FitsClass (ranges_of fs)) fs w.parts fits.parts in
    let tells : Tells d cs = told_selecting d 4 gs fs w.parts same in
    let faces_same : map (λ (c : ClassDecl). c.face) r.classes ≡ map (face_named d.keys) fs = map_selecting d (λ (c : ClassDecl). c.face) (λ ss c. refl) 4 gs ds ∙ faces_kept d fs w.parts same in
    let single : NoDoubles d = no_doubles d.keys fs (distinct_of d.keys fs (subst NamesDiffer faces_same differ)) in
    let known : AllByRecursion (FitsFace (length d.keys)) fs = subst (λ (n : ℕ). AllByRecursion (FitsFace n) fs) (sym (as_many_keys fs)) (recursion_from_All (FitsFace (length fs + 4)) fs fits.faces.2) in
    let pairs : FitsParts (ranges_in d) fs w.parts = subst (λ (x : Ranges). FitsParts x fs w.parts) (sym (ranges_known fs)) fits.parts in
    let sections : FitsSection (ranges_in d) 4 gs = subst (λ (x : Ranges). FitsSection x 4 gs) (sym (ranges_known fs)) fits.selects in
    let many : length r.classes ≡ length fs = many_selecting d 4 gs ds ∙ as_many_classes d fs w.parts same in
    let number : length d.keys ≡ 4 + length ds = omega (arith, as_many_keys fs, as_many_classes d fs w.parts same) in
    let ss = section_forth d cs tells single (length d.keys) 4 gs ds number (section_ascends (ranges_in d) 4 gs sections) in
    let face_of : ClassDecl → Spelled = λ c. images.face cs c.face in
    let faces : List ℕ = flat_map wire.face fs in
    let parts : List ℕ = flat_map spelling.part w.parts in
    let spelled_faces : Spelled = each face_of r.classes in
    let spelled_parts : Spelled = each (images.part cs) r.classes in
    let spelled_selects : Spelled = images.selects cs 4 r.classes in
    let v : ℕ = version_with gs in
    image_is r
    ∙ ap (λ (n : ℕ). image_by n (length r.classes) spelled_faces spelled_parts spelled_selects) ss.version
    ∙ ap (λ (n : ℕ). image_by v n spelled_faces spelled_parts spelled_selects) many
    ∙ ap (λ (s : Spelled). image_by v (length fs) s spelled_parts spelled_selects) (each_selecting d face_of (λ ss c. refl) 4 gs ds ∙ faces_forth d cs tells single fs w.parts known pairs)
    ∙ ap (λ (s : Spelled). image_by v (length fs) (Some faces) s spelled_selects) (each_selecting d (images.part cs) (λ ss c. refl) 4 gs ds ∙ parts_forth d cs tells single fs w.parts pairs)
    ∙ ap (λ (s : Spelled). image_by v (length fs) (Some faces) (Some parts) s) ss.bytes
    ∙ ap (λ (b : Bool). Some (codes "SOML") then tag v then where_it_is b (images.number w16 (length fs) then Some faces) then Some parts then Some (section gs)) (le-leb (length fs) MAX_LIBRARY_CLASSES fits.faces.1)
    ∙ ap some_bytes (regroup (codes "SOML" ++ v ∷ []) (wire.counted w16 wire.face fs) parts (section gs))

abbrev a_release : List ClassDecl → Release
a_release cls = record { classes = cls }

abbrev a_directory : Release → Directory
a_directory r = directory_of (map (λ (c : Class). c.key) (known_to r)) (map entry_names (known_to r))

abbrev its_own : (r : Release) → Tells (a_directory r) (known_to r)
its_own r = record { keys = refl; slots = refl }

-- from the classes of a release to the image
finished : (r : Release) (bytes : List ℕ) (x y z : List ℕ) → length r.classes ≤ MAX_LIBRARY_CLASSES → (((codes "SOML" ++ image_version r.classes ∷ []) ++ (to_be_bytes w16 (length r.classes) ++ x)) ++ y) ++ z ≡ bytes
    → Pairs (a_directory r) (known_to r) (its_own r) r.classes x y → SectionBack (a_directory r) (known_to r) (its_own r) (length (a_directory r).keys) 4 r.classes z → SpellsLibrary r bytes
finished r bytes x y z le whole p s =
    let fs : List WireFace = p.faces in
    let gs : List WireSelects = s.groups in
    let d : Directory = a_directory r in
    let same : length fs ≡ length p.parts = fit_length (FitsClass (ranges_in d)) fs p.parts p.pairs in
    let names : with_selects d 4 gs (classes_named d fs p.parts) ≡ r.classes = ap (with_selects d 4 gs) p.names ∙ s.names in
    let tells : Tells (library_directory fs) (known_to r) = subst (λ (cls : List ClassDecl). Tells (library_directory fs) (known_classes cls)) names (told_selecting d 4 gs fs p.parts same) in
    let one : d ≡ library_directory fs = ap (λ (ks : List ClassKey). directory_of ks d.slots) tells.keys ∙ ap (λ (ss : List (List (List ℕ))). directory_of ((library_directory fs).keys) ss) tells.slots in
    let classes : length d.keys ≡ length fs + 4 = ap (λ (z : Directory). length z.keys) one ∙ as_many_keys fs in
    let number : length fs ≡ length r.classes = sym (as_many_classes d fs p.parts same) ∙ sym (many_selecting d 4 gs (classes_named d fs p.parts)) ∙ ap (length {A = ClassDecl}) names in
    let ranges : ranges_in d ≡ ranges_of fs = ap ranges_in one ∙ ranges_known fs in
    let v : ℕ = version_with gs in
    let parts : List ℕ = flat_map spelling.part p.parts in
    record {
      wire = record { faces = fs; parts = p.parts; selects = gs };
      spelled = sym (regroup (codes "SOML" ++ v ∷ []) (wire.counted w16 wire.face fs) parts (section gs))
          ∙ ap (λ (n : ℕ). (((codes "SOML" ++ n ∷ []) ++ wire.counted w16 wire.face fs) ++ parts) ++ section gs) (sym s.version)
          ∙ ap (λ (n : ℕ). (((codes "SOML" ++ image_version r.classes ∷ []) ++ (to_be_bytes w16 n ++ flat_map wire.face fs)) ++ parts) ++ section gs) number
          ∙ ap (λ (t : List ℕ). (((codes "SOML" ++ image_version r.classes ∷ []) ++ (to_be_bytes w16 (length r.classes) ++ t)) ++ parts) ++ section gs) p.first
          ∙ ap (λ (t : List ℕ). (((codes "SOML" ++ image_version r.classes ∷ []) ++ (to_be_bytes w16 (length r.classes) ++ x)) ++ t) ++ section gs) p.second
          ∙ ap (λ (t : List ℕ). (((codes "SOML" ++ image_version r.classes ∷ []) ++ (to_be_bytes w16 (length r.classes) ++ x)) ++ y) ++ t) s.spelled
          ∙ whole;
      fits = record {
        faces = (omega arith, omega (arith, number, le), All-from_recursion (FitsFace (length fs + 4)) fs (subst (λ (n : ℕ). AllByRecursion (FitsFace n) fs) classes p.fit));
        parts = subst (λ (z : Ranges). FitsParts z fs p.parts) ranges p.pairs;
        selects = subst (λ (z : Ranges). FitsSection z 4 gs) ranges (section_fits (ranges_in d) 4 gs s.ascend);
      };
      names = ap (λ (z : Directory). a_release (with_selects z 4 gs (classes_named z fs p.parts))) (sym one) ∙ ap a_release names;
    }

-- each release that has a spelling is named from an image
pub release_back : (r : Release) (bytes : List ℕ) → library_image r ≡ Some bytes → SpellsLibrary r bytes
release_back r bytes e =
    let cs : List Class = known_to r in
    let d : Directory = a_directory r in
    let magic : List ℕ = codes "SOML" ++ image_version r.classes ∷ [] in
    let faces : Spelled = each (λ c. images.face cs c.face) r.classes in
    let parts : Spelled = each (images.part cs) r.classes in
    let selects : Spelled = images.selects cs 4 r.classes in
    let counted : Spelled = where_it_is (nat_le (length r.classes) MAX_LIBRARY_CLASSES) (images.number w16 (length r.classes) then faces) in
    let q = split (Some magic then counted then parts) selects bytes (sym (image_is r) ∙ e) in
    let s = split (Some magic then counted) parts q.front q.first in
    let t = split (Some magic) counted s.front s.first in
    let g = guarded (nat_le (length r.classes) MAX_LIBRARY_CLASSES) (images.number w16 (length r.classes) then faces) t.back t.second in
    let u = split (images.number w16 (length r.classes)) faces t.back g.1 in
    let p = pairs_back d cs (its_own r) r.classes u.back s.back u.second s.second in
    let many : length d.keys ≡ 4 + length r.classes = omega (arith, length-map cs (λ (c : Class). c.key), length-map r.classes (class_in modules.Library)) in
    let own = section_back d cs (its_own r) (length d.keys) 4 r.classes (omega (arith, many)) q.back q.second in
    let head = bytes_are magic t.front t.first in
    let number = bytes_are (to_be_bytes w16 (length r.classes)) u.front u.first in
    finished r bytes u.back s.back q.back (leb-true _ _ g.0)
    (ap (λ (z : List ℕ). ((z ++ (to_be_bytes w16 (length r.classes) ++ u.back)) ++ s.back) ++ q.back) head
    ∙ ap (λ (z : List ℕ). ((t.front ++ (z ++ u.back)) ++ s.back) ++ q.back) number
    ∙ ap (λ (z : List ℕ). ((t.front ++ z) ++ s.back) ++ q.back) u.whole
    ∙ ap (λ (z : List ℕ). (z ++ s.back) ++ q.back) t.whole
    ∙ ap (λ (z : List ℕ). z ++ q.back) s.whole
    ∙ q.whole)
    p own
