-- The faces of an interface are spelled as those that they are named from.
use Rattle.std.proofs.Common.{◌≡◌, ℕ, ◌+◌, List, [], ◌∷◌, ◌++◌, length, map, Some, refl, sym, ap, subst, ◌∙◌, arith}
use Rattle.std.specs.Prelude.{All}
use Rattle.std.specs.List.{AllByRecursion}
use Rattle.std.specs.Int.{w16}
use Rattle.std.proofs.lemmas.List.Elements.{recursion_from_All}
use Rattle.som_model.specs.declared.limits.TheConstants.{MAX_LIBRARY_CLASSES}
use Rattle.som_model.specs.declared.key.Module.TheVariants as modules
use Rattle.som_model.specs.declared.key.ClassKey.{ClassKey}
use Rattle.som_model.specs.declared.class.ClassFace.{ClassFace}
use Rattle.som_model.specs.declared.program.Interface.{Interface}
use Rattle.som_model.specs.Class.{Class, class_in, bare}
use Rattle.som_model.specs.Kernel.{kernel}
use Rattle.som_model.specs.Images as images
use Rattle.som_image_fields.specs.declared.face.WireFace.{WireFace}
use Rattle.som_image_fields.specs.Spelling as wire
use Rattle.som_image_fields.specs.Spelling.{FitsFace}
use Rattle.som_image_decode.specs.declared.directory.Directory.{Directory}
use Rattle.som_image_classes.specs.SpelledClasses.{FitsFaces}
use Rattle.som_image_decode.specs.Naming.{names_in, kernel_directory, library_directory, entry_names, Tells, NoDoubles}
use Rattle.som_image_classes.specs.NamedClasses.{face_named, interface_named}
use Rattle.som_image_classes.specs.Interfaces.{NamesDiffer, interface_image, NamedFrom}
use Rattle.som_image_decode.proofs.Places.{all_map, all_of}
use Rattle.som_image_decode.proofs.Spelled.{Forth, Back, counted_forth, counted_back}
use Rattle.som_image_classes.proofs.NamedFaces.{face_forth, face_back}
use Rattle.som_image_classes.proofs.NamedClasses.{names_kept, distinct_of, library_key, as_many_keys, no_doubles, directory_of}

-- the kernel's classes and those of an interface
abbrev pub known_by : List ClassFace → List Class
known_by fs = kernel ++ map (λ f. class_in modules.Library (bare f)) fs

abbrev pub a_class : ClassFace → Class
a_class f = class_in modules.Library (bare f)

module _ (ks : List ClassKey) where
  keys_told : (fs : List WireFace) → map (λ (c : Class). c.key) (map a_class (map (face_named ks) fs)) ≡ map library_key fs
  keys_told [] = refl
  keys_told (f ∷ fs) = ap (λ (x : List ClassKey). library_key f ∷ x) (keys_told fs)

  slots_told : (fs : List WireFace) → map entry_names (map a_class (map (face_named ks) fs)) ≡ map names_in fs
  slots_told [] = refl
  slots_told (f ∷ fs) =
      ap (λ (ns : List (List ℕ)). ns ∷ map entry_names (map a_class (map (face_named ks) fs))) (names_kept ks f.entries)
      ∙ ap (λ (ns : List (List (List ℕ))). names_in f ∷ ns) (slots_told fs)

  pub told : (fs : List WireFace) → Tells (library_directory fs) (known_by (map (face_named ks) fs))
  told fs = record {
    keys = ap (λ (x : List ClassKey). kernel_directory.keys ++ x) (keys_told fs);
    slots = ap (λ (ns : List (List (List ℕ))). kernel_directory.slots ++ ns) (slots_told fs);
  }

pub interface_forth : (fs : List WireFace) → FitsFaces fs → NamesDiffer ((interface_named fs).classes) → interface_image (interface_named fs) ≡ Some (wire.counted w16 wire.face fs)
interface_forth fs fits differ =
    let d : Directory = library_directory fs in
    let cs : List Class = known_by ((interface_named fs).classes) in
    let single : NoDoubles d = no_doubles d.keys fs (distinct_of d.keys fs differ) in
    let known : AllByRecursion (FitsFace (length d.keys)) fs = subst (λ (n : ℕ). AllByRecursion (FitsFace n) fs) (sym (as_many_keys fs)) (recursion_from_All (FitsFace (length fs + 4)) fs fits.2) in
    let each = all_map (FitsFace (length d.keys)) (Forth (images.face cs) wire.face (face_named d.keys)) (face_forth d cs (told d.keys fs) single) fs known in
    counted_forth (images.face cs) wire.face (face_named d.keys) w16 MAX_LIBRARY_CLASSES fs fits.1 each

abbrev an_interface : List ClassFace → Interface
an_interface fs = record { classes = fs }

abbrev a_directory : Interface → Directory
a_directory i = directory_of (map (λ (c : Class). c.key) (known_by i.classes)) (map entry_names (known_by i.classes))

pub interface_back : (i : Interface) (bytes : List ℕ) → interface_image i ≡ Some bytes → NamedFrom i bytes
interface_back i bytes e =
    let d : Directory = a_directory i in
    let cs : List Class = known_by i.classes in
    let each = all_of (Back (images.face cs) wire.face (FitsFace (length d.keys)) (face_named d.keys)) (face_back d cs (record { keys = refl; slots = refl })) i.classes in
    let f = counted_back (images.face cs) wire.face (face_named d.keys) (FitsFace (length d.keys)) w16 0 MAX_LIBRARY_CLASSES i.classes (omega arith) each bytes e in
    let tells : Tells (library_directory f.it) cs = subst (λ (x : List ClassFace). Tells (library_directory f.it) (known_by x)) f.names (told d.keys f.it) in
    let one : d.keys ≡ (library_directory f.it).keys = tells.keys in
    let classes : length d.keys ≡ length f.it + 4 = ap (length {A = ClassKey}) one ∙ as_many_keys f.it in
    record {
      faces = f.it;
      spelled = f.spelled;
      fits = (f.fits.0, f.fits.1, subst (λ (n : ℕ). All (FitsFace n) f.it) classes f.fits.2);
      named = ap (λ (ks : List ClassKey). an_interface (map (face_named ks) f.it)) (sym one) ∙ ap an_interface f.names;
    }
