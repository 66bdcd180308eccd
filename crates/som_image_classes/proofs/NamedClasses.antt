-- Classes are spelled as the faces and parts that they are named from, and each that has a spelling is named from some.
use Rattle.std.proofs.Common.{◌≡◌, ℕ, suc, ◌+◌, false, List, [], ◌∷◌, ◌++◌, length, map, Some, refl, sym, ap, subst, ◌∙◌, arith}
use Rattle.std.specs.List.{flat_map, AllByRecursion, IsDistinct}
use Rattle.std.specs.Str.{bytes_eq}
use Rattle.std.proofs.lemmas.List.{length-map}
use Rattle.std.proofs.lemmas.List.Concat.{flat_map-cons}
use Rattle.std.proofs.lemmas.List.Elements.{recursion_from_All}
use Rattle.som_model.specs.declared.key.Module.{Module}
use Rattle.som_model.specs.declared.key.Module.TheVariants as modules
use Rattle.som_model.specs.declared.key.ClassKey.{ClassKey}
use Rattle.som_model.specs.declared.key.ClassKey.TheVariants as keys
use Rattle.som_model.specs.declared.class.ClassFace.{ClassFace}
use Rattle.som_model.specs.declared.class.ClassDecl.{ClassDecl}
use Rattle.som_model.specs.Keys.{same_key}
use Rattle.som_model.specs.Class.{Class, class_in, entry_name}
use Rattle.som_model.specs.Kernel.{kernel, kernel_key}
use Rattle.som_model.specs.Images as images
use Rattle.som_model.specs.Images.{Spelled, ◌then◌, each}
use Rattle.som_model.proofs.NamedLaws.{same_named}
use Rattle.som_image_fields.specs.declared.entry.WireEntry.{WireEntry}
use Rattle.som_image_fields.specs.declared.entry.WireEntry.TheVariants as entries
use Rattle.som_image_fields.specs.declared.face.WireFace.{WireFace}
use Rattle.som_image_fields.specs.Spelling as wire
use Rattle.som_image_fields.specs.Spelling.{FitsFace}
use Rattle.som_image_fields.specs.declared.selects.WireSelect.{WireSelect}
use Rattle.som_image_fields.specs.declared.selects.WireSelects.{WireSelects}
use Rattle.som_image_fields.specs.declared.syntax.WirePart.{WirePart}
use Rattle.som_image_decode.specs.declared.directory.Directory.{Directory}
use Rattle.som_image_fields.specs.SyntaxSpelling as spelling
use Rattle.som_image_classes.specs.SpelledClasses.{FitsParts}
use Rattle.som_image_decode.specs.Naming.{name_in, names_in, kernel_directory, library_directory, ranges_in, entry_names, Tells, NoDoubles}
use Rattle.som_image_classes.specs.NamedClasses.{entry_named, face_named, classes_named, selects_under, selecting, with_selects}
use Rattle.som_image_classes.specs.Interfaces.{NamesDiffer}
use Rattle.som_image_decode.specs.Naming.{Differ}
use Rattle.som_image_decode.proofs.Places.{all_map, all_of, all_mapped, all_unmapped, all_joined, distinct_names, distinct_joined, distinct_mapped}
use Rattle.som_image_decode.proofs.Spelled.{some_bytes, bytes_are, split}
use Rattle.som_image_classes.proofs.NamedFaces.{face_forth, face_back}
use Rattle.som_image_classes.proofs.NamedParts.{plain, part_forth, part_back}

-- ---- names stay

module _ (ks : List ClassKey) where
  pub names_kept : (es : List WireEntry) → map entry_name (map (entry_named ks) es) ≡ map name_in es
  names_kept [] = refl
  names_kept (entries.Introduced name s w ∷ es) = ap (λ (ns : List (List ℕ)). name ∷ ns) (names_kept es)
  names_kept (entries.Moved name to ∷ es) = ap (λ (ns : List (List ℕ)). name ∷ ns) (names_kept es)

  class_names_kept : (fs : List WireFace) → map (λ (f : ClassFace). f.name) (map (face_named ks) fs) ≡ map (λ (f : WireFace). f.name) fs
  class_names_kept [] = refl
  class_names_kept (f ∷ fs) = ap (λ (ns : List (List ℕ)). f.name ∷ ns) (class_names_kept fs)

  -- names that differ after naming differed before
  pub record Distinct (fs : List WireFace) : Type 0 where
    pub classes : IsDistinct bytes_eq (map (λ (f : WireFace). f.name) fs)
    pub entries : AllByRecursion (λ f. IsDistinct bytes_eq (names_in f)) fs

  pub distinct_of : (fs : List WireFace) → NamesDiffer (map (face_named ks) fs) → Distinct fs
  distinct_of fs h = record {
    classes = subst (IsDistinct bytes_eq) (class_names_kept fs) (distinct_names (map (λ (f : ClassFace). f.name) (map (face_named ks) fs)) h.classes);
    entries = all_map (λ (f : WireFace). Differ (map entry_name (map (entry_named ks) f.entries))) (λ f. IsDistinct bytes_eq (names_in f)) (λ f e. subst (IsDistinct bytes_eq) (names_kept f.entries) (distinct_names (map entry_name (map (entry_named ks) f.entries)) e)) fs
        (all_unmapped (λ (f : ClassFace). Differ (map entry_name f.entries)) (face_named ks) fs (recursion_from_All (λ (f : ClassFace). Differ (map entry_name f.entries)) (map (face_named ks) fs) h.entries));
  }

-- ---- what a library's directory tells

abbrev pub library_key : WireFace → ClassKey
library_key f = keys.Named modules.Library f.name

-- the key of a class with this face in a module
abbrev pub key_in : Module → WireFace → ClassKey
key_in home f = keys.Named home f.name

module _ (d : Directory) where
  pub keys_told : (home : Module) (fs : List WireFace) (ps : List WirePart) → length fs ≡ length ps → map (λ (c : Class). c.key) (map (class_in home) (classes_named d fs ps)) ≡ map (key_in home) fs
  keys_told home [] ps e = refl
  keys_told home (f ∷ fs) [] e = absurd (omega arith)
  keys_told home (f ∷ fs) (p ∷ ps) e = ap (λ (ks : List ClassKey). key_in home f ∷ ks) (keys_told home fs ps (omega arith))

  pub slots_told : (home : Module) (fs : List WireFace) (ps : List WirePart) → length fs ≡ length ps → map entry_names (map (class_in home) (classes_named d fs ps)) ≡ map names_in fs
  slots_told home [] ps e = refl
  slots_told home (f ∷ fs) [] e = absurd (omega arith)
  slots_told home (f ∷ fs) (p ∷ ps) e =
      ap (λ (ns : List (List ℕ)). ns ∷ map entry_names (map (class_in home) (classes_named d fs ps))) (names_kept d.keys f.entries)
      ∙ ap (λ (ns : List (List (List ℕ))). names_in f ∷ ns) (slots_told home fs ps (omega arith))

  pub faces_kept : (fs : List WireFace) (ps : List WirePart) → length fs ≡ length ps → map (λ (c : ClassDecl). c.face) (classes_named d fs ps) ≡ map (face_named d.keys) fs
  faces_kept [] ps e = refl
  faces_kept (f ∷ fs) [] e = absurd (omega arith)
  faces_kept (f ∷ fs) (p ∷ ps) e = ap (λ (x : List ClassFace). face_named d.keys f ∷ x) (faces_kept fs ps (omega arith))

  pub as_many_classes : (fs : List WireFace) (ps : List WirePart) → length fs ≡ length ps → length (classes_named d fs ps) ≡ length fs
  as_many_classes [] ps e = refl
  as_many_classes (f ∷ fs) [] e = absurd (omega arith)
  as_many_classes (f ∷ fs) (p ∷ ps) e = ap suc (as_many_classes fs ps (omega arith))

-- what doesn't look at selects is equal for classes with them and without
module _ (d : Directory) where
  pub map_selecting : {B : Type 0} (f : ClassDecl → B) → ((ss : List WireSelect) (c : ClassDecl) → f (selecting d ss c) ≡ f c) → (n : ℕ) (gs : List WireSelects) (ds : List ClassDecl) → map f (with_selects d n gs ds) ≡ map f ds
  map_selecting f same n gs [] = refl
  map_selecting {B} f same n gs (c ∷ ds) =
      ap (λ (y : B). y ∷ map f (with_selects d (suc n) gs ds)) (same (selects_under n gs) c)
      ∙ ap (λ (ys : List B). f c ∷ ys) (map_selecting f same (suc n) gs ds)

  pub each_selecting : (f : ClassDecl → Spelled) → ((ss : List WireSelect) (c : ClassDecl) → f (selecting d ss c) ≡ f c) → (n : ℕ) (gs : List WireSelects) (ds : List ClassDecl) → each f (with_selects d n gs ds) ≡ each f ds
  each_selecting f same n gs [] = refl
  each_selecting f same n gs (c ∷ ds) =
      ap (λ (y : Spelled). y then each f (with_selects d (suc n) gs ds)) (same (selects_under n gs) c)
      ∙ ap (λ (y : Spelled). f c then y) (each_selecting f same (suc n) gs ds)

  pub many_selecting : (n : ℕ) (gs : List WireSelects) (ds : List ClassDecl) → length (with_selects d n gs ds) ≡ length ds
  many_selecting n gs [] = refl
  many_selecting n gs (c ∷ ds) = ap suc (many_selecting (suc n) gs ds)

  pub keys_selecting : (home : Module) (n : ℕ) (gs : List WireSelects) (ds : List ClassDecl) → map (λ (c : Class). c.key) (map (class_in home) (with_selects d n gs ds)) ≡ map (λ (c : Class). c.key) (map (class_in home) ds)
  keys_selecting home n gs [] = refl
  keys_selecting home n gs (c ∷ ds) = ap (λ (ks : List ClassKey). keys.Named home c.face.name ∷ ks) (keys_selecting home (suc n) gs ds)

  pub slots_selecting : (home : Module) (n : ℕ) (gs : List WireSelects) (ds : List ClassDecl) → map entry_names (map (class_in home) (with_selects d n gs ds)) ≡ map entry_names (map (class_in home) ds)
  slots_selecting home n gs [] = refl
  slots_selecting home n gs (c ∷ ds) = ap (λ (ns : List (List (List ℕ))). map entry_name c.face.entries ∷ ns) (slots_selecting home (suc n) gs ds)

-- the kernel's classes and these
abbrev pub known_classes : List ClassDecl → List Class
known_classes cs = kernel ++ map (class_in modules.Library) cs

pub told : (d : Directory) (fs : List WireFace) (ps : List WirePart) → length fs ≡ length ps → Tells (library_directory fs) (known_classes (classes_named d fs ps))
told d fs ps e = record {
  keys = ap (λ (ks : List ClassKey). kernel_directory.keys ++ ks) (keys_told d modules.Library fs ps e);
  slots = ap (λ (ns : List (List (List ℕ))). kernel_directory.slots ++ ns) (slots_told d modules.Library fs ps e);
}

pub told_selecting : (d : Directory) (n : ℕ) (gs : List WireSelects) (fs : List WireFace) (ps : List WirePart) → length fs ≡ length ps → Tells (library_directory fs) (known_classes (with_selects d n gs (classes_named d fs ps)))
told_selecting d n gs fs ps e = record {
  keys = ap (λ (ks : List ClassKey). kernel_directory.keys ++ ks) (keys_selecting d modules.Library n gs (classes_named d fs ps) ∙ keys_told d modules.Library fs ps e);
  slots = ap (λ (ns : List (List (List ℕ))). kernel_directory.slots ++ ns) (slots_selecting d modules.Library n gs (classes_named d fs ps) ∙ slots_told d modules.Library fs ps e);
}

pub as_many_keys : (fs : List WireFace) → length ((library_directory fs).keys) ≡ length fs + 4
as_many_keys fs = omega (arith, length-map fs library_key)

-- ---- no doubles

kernel_distinct : IsDistinct same_key kernel_directory.keys
unfolding IsDistinct
kernel_distinct = ((same_named _ _ _ _, (same_named _ _ _ _, (same_named _ _ _ _, tt))), ((same_named _ _ _ _, (same_named _ _ _ _, tt)), ((same_named _ _ _ _, tt), (tt, tt))))

apart_from_library : (fs : List WireFace) (name : List ℕ) → AllByRecursion (λ y. same_key (kernel_key name) y ≡ false) (map library_key fs)
apart_from_library fs name = all_mapped (λ y. same_key (kernel_key name) y ≡ false) library_key fs (all_of (λ (f : WireFace). same_key (kernel_key name) (library_key f) ≡ false) (λ f. same_named modules.Kernel modules.Library name f.name) fs)

mapped_names : (home : Module) (fs : List WireFace) → map (λ (name : List ℕ). keys.Named home name) (map (λ (f : WireFace). f.name) fs) ≡ map (key_in home) fs
mapped_names home [] = refl
mapped_names home (f ∷ fs) = ap (λ (ks : List ClassKey). key_in home f ∷ ks) (mapped_names home fs)

-- names that differ are those of keys that differ
pub distinct_keys : (home : Module) → ((x y : List ℕ) → bytes_eq x y ≡ false → same_key (keys.Named home x) (keys.Named home y) ≡ false) → (fs : List WireFace) → IsDistinct bytes_eq (map (λ (f : WireFace). f.name) fs) → IsDistinct same_key (map (key_in home) fs)
distinct_keys home apart fs h =
    subst (IsDistinct same_key) (mapped_names home fs) (distinct_mapped bytes_eq same_key (λ (name : List ℕ). keys.Named home name) apart (map (λ (f : WireFace). f.name) fs) h)

pub no_doubles : (ks : List ClassKey) (fs : List WireFace) → Distinct ks fs → NoDoubles (library_directory fs)
no_doubles ks fs h =
    let own = distinct_keys modules.Library (λ x y e. same_named modules.Library modules.Library x y ∙ e) fs h.classes in
    let across : AllByRecursion (λ x. AllByRecursion (λ y. same_key x y ≡ false) (map library_key fs)) kernel_directory.keys = (apart_from_library fs _, (apart_from_library fs _, (apart_from_library fs _, (apart_from_library fs _, tt)))) in
    let kernel_slots : AllByRecursion (IsDistinct bytes_eq) kernel_directory.slots = (distinct_names _ refl, (distinct_names _ refl, (distinct_names _ refl, (distinct_names _ refl, tt)))) in
    record {
      keys = distinct_joined same_key kernel_directory.keys (map library_key fs) kernel_distinct own across;
      slots = all_joined (IsDistinct bytes_eq) kernel_directory.slots (map names_in fs) kernel_slots (all_mapped (IsDistinct bytes_eq) names_in fs h.entries);
    }

-- ---- classes

module _ (d : Directory) (cs : List Class) (tells : Tells d cs) where
  abbrev classes : ℕ
  classes = length d.keys

  abbrev spell_face : ClassDecl → Spelled
  spell_face c = images.face cs c.face

  pub faces_forth : NoDoubles d → (fs : List WireFace) (ps : List WirePart) → AllByRecursion (FitsFace classes) fs → FitsParts (ranges_in d) fs ps → each spell_face (classes_named d fs ps) ≡ Some (flat_map wire.face fs)
  faces_forth single [] ps fits pairs = refl
  faces_forth single (f ∷ fs) [] fits pairs = absurd pairs
  faces_forth single (f ∷ fs) (p ∷ ps) fits pairs =
      ap (λ (s : Spelled). s then each spell_face (classes_named d fs ps)) (face_forth d cs tells single f fits.0)
      ∙ ap (λ (s : Spelled). Some (wire.face f) then s) (faces_forth single fs ps fits.1 pairs.1)
      ∙ ap some_bytes (sym (flat_map-cons wire.face f fs))

  pub parts_forth : NoDoubles d → (fs : List WireFace) (ps : List WirePart) → FitsParts (ranges_in d) fs ps → each (images.part cs) (classes_named d fs ps) ≡ Some (flat_map spelling.part ps)
  parts_forth single [] [] pairs = refl
  parts_forth single [] (p ∷ ps) pairs = absurd pairs
  parts_forth single (f ∷ fs) [] pairs = absurd pairs
  parts_forth single (f ∷ fs) (p ∷ ps) pairs =
      ap (λ (s : Spelled). s then each (images.part cs) (classes_named d fs ps)) (part_forth d cs tells single f p pairs.0)
      ∙ ap (λ (s : Spelled). Some (spelling.part p) then s) (parts_forth single fs ps pairs.1)
      ∙ ap some_bytes (sym (flat_map-cons spelling.part p ps))

  -- faces and parts that classes are named from
  pub record Pairs (cls : List ClassDecl) (x y : List ℕ) : Type 0 where
    pub faces : List WireFace
    pub parts : List WirePart
    pub first : flat_map wire.face faces ≡ x
    pub second : flat_map spelling.part parts ≡ y
    pub fit : AllByRecursion (FitsFace classes) faces
    pub pairs : FitsParts (ranges_in d) faces parts
    pub names : classes_named d faces parts ≡ map plain cls

  pub pairs_back : (cls : List ClassDecl) → (x y : List ℕ) → each spell_face cls ≡ Some x → each (images.part cs) cls ≡ Some y → Pairs cls x y
  pairs_back [] x y e g = record { faces = []; parts = []; first = bytes_are [] x e; second = bytes_are [] y g; fit = tt; pairs = tt; names = refl }
  pairs_back (c ∷ cls) x y e g =
      let s = split (spell_face c) (each spell_face cls) x e in
      let t = split (images.part cs c) (each (images.part cs) cls) y g in
      let f = face_back d cs tells c.face s.front s.first in
      let p = part_back d cs tells f.it c f.names t.front t.first in
      let r = pairs_back cls s.back t.back s.second t.second in
      record {
        faces = f.it ∷ r.faces;
        parts = p.it ∷ r.parts;
        first = flat_map-cons wire.face f.it r.faces ∙ ap (λ (z : List ℕ). z ++ flat_map wire.face r.faces) f.spelled ∙ ap (λ (z : List ℕ). s.front ++ z) r.first ∙ s.whole;
        second = flat_map-cons spelling.part p.it r.parts ∙ ap (λ (z : List ℕ). z ++ flat_map spelling.part r.parts) p.spelled ∙ ap (λ (z : List ℕ). t.front ++ z) r.second ∙ t.whole;
        fit = (f.fits, r.fit);
        pairs = (p.fits, r.pairs);
        names = ap (λ (z : ClassDecl). z ∷ classes_named d r.faces r.parts) p.names ∙ ap (λ (z : List ClassDecl). plain c ∷ z) r.names;
      }

abbrev pub directory_of : List ClassKey → List (List (List ℕ)) → Directory
directory_of ks ss = record { keys = ks; slots = ss }
