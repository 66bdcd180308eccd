-- A release that was numbered fits an image, and is named back to the release.
use Rattle.std.proofs.Common.{◌≡◌, ℕ, ◌+◌, ◌≤◌, List, [], ◌∷◌, ◌++◌, length, map, sym, ap, subst, ◌∙◌, arith}
use Rattle.std.specs.List.{AllByRecursion}
use Rattle.std.specs.Str.{bytes_eq}
use Rattle.std.proofs.lemmas.List.{length-map}
use Rattle.std.proofs.lemmas.List.Elements.{All-from_recursion}
use Rattle.som_model.specs.declared.limits.TheConstants.{MAX_LIBRARY_CLASSES, MAX_ENTRIES}
use Rattle.som_model.specs.declared.key.Module.TheVariants as modules
use Rattle.som_model.specs.declared.key.ClassKey.{ClassKey}
use Rattle.som_model.specs.declared.class.ClassDecl.{ClassDecl}
use Rattle.som_model.specs.declared.program.Release.{Release}
use Rattle.som_model.specs.Lists.{doubles}
use Rattle.som_model.specs.Class.{Class, class_in}
use Rattle.som_model.specs.Rules.{name_of}
use Rattle.som_model.specs.Kernel.{kernel}
use Rattle.som_model.specs.Classes.{library_classes}
use Rattle.som_image_fields.specs.declared.face.WireFace.{WireFace}
use Rattle.som_image_fields.specs.declared.method.Ranges.{Ranges}
use Rattle.som_image_fields.specs.Spelling.{FitsFace}
use Rattle.som_image_fields.specs.declared.syntax.WirePart.{WirePart}
use Rattle.som_image_fields.specs.declared.selects.WireSelects.{WireSelects}
use Rattle.som_image_decode.specs.declared.directory.Directory.{Directory}
use Rattle.som_image_classes.specs.SpelledClasses.{FitsParts, FitsSection}
use Rattle.som_libimage.specs.Spelling.{FitsRelease}
use Rattle.som_image_decode.specs.Naming.{names_in, kernel_directory, library_directory, ranges_in, Tells}
use Rattle.som_image_classes.specs.NamedClasses.{classes_named, with_selects}
use Rattle.som_libimage.specs.Naming.{release_named}
use Rattle.som_image_decode.specs.Naming.{release_directory}
use Rattle.som_image_encode.specs.Numbering.{class_names, IsDirectory}
use Rattle.som_image_encode.specs.NumberedClasses.{face_numbered, part_numbered, selects_numbered}
use Rattle.som_libimage.specs.Numbering.{release_numbered}
use Rattle.som_image_classes.proofs.ClassPlaces.{ranges_known}
use Rattle.som_image_classes.proofs.NamedSelects.{section_fits}
use Rattle.som_image_laws.proofs.NumberedSelects.{selects_turn}
use Rattle.som_image_decode.proofs.Places.{all_joined}
use Rattle.som_image_encode.proofs.Directories.{IsOwn, FewEntries, kernel_own, kernel_few, declared_own, directory_is}
use Rattle.som_image_laws.proofs.NumberedParts.{ClassReady}
use Rattle.som_image_laws.proofs.NumberedClasses.{own_key, keys_told, slots_told, few_own, faces_of, keys_kept, slots_kept, faces_fit, parts_fit, classes_back}

pub told : (r : Release) → Tells (release_directory r) (kernel ++ library_classes r)
told r = record {
  keys = ap (λ (ks : List ClassKey). kernel_directory.keys ++ ks) (keys_told r.classes);
  slots = ap (λ (ns : List (List (List ℕ))). kernel_directory.slots ++ ns) (slots_told r.classes);
}

pub is_directory : (r : Release) → length r.classes ≤ MAX_LIBRARY_CLASSES → doubles bytes_eq (map name_of kernel) (map name_of (library_classes r)) ≡ [] → AllByRecursion (λ (c : ClassDecl). length c.face.entries ≤ MAX_ENTRIES) r.classes → IsDirectory (class_names (release_directory r)) (release_directory r)
is_directory r many differ few =
    let own : List Class = library_classes r in
    directory_is (release_directory r) (kernel ++ own) (told r) (all_joined IsOwn kernel own kernel_own (declared_own modules.Library r.classes)) differ
    (omega (arith, many, length-map r.classes (class_in modules.Library))) (all_joined FewEntries kernel own kernel_few (few_own modules.Library r.classes few))

abbrev a_directory : List ClassKey → List (List (List ℕ)) → Directory
a_directory ks ss = record { keys = ks; slots = ss }

directory_kept : (ks : List ClassKey) (r : Release) → library_directory (faces_of ks r.classes) ≡ release_directory r
directory_kept ks r =
    ap (λ (l : List ClassKey). a_directory (kernel_directory.keys ++ l) (kernel_directory.slots ++ map names_in (faces_of ks r.classes))) (keys_kept ks modules.Library r.classes)
    ∙ ap (λ (l : List (List (List ℕ))). a_directory (kernel_directory.keys ++ map own_key r.classes) (kernel_directory.slots ++ l)) (slots_kept ks r.classes)

abbrev a_release : List ClassDecl → Release
a_release ds = record { classes = ds }

pub record ReleaseTurns (r : Release) : Type 0 where
  pub fits : FitsRelease (release_numbered r)
  pub names : release_named (release_numbered r) ≡ r

pub release_turns : (r : Release) → length r.classes ≤ MAX_LIBRARY_CLASSES → AllByRecursion (ClassReady (release_directory r)) r.classes → ReleaseTurns r
release_turns r few ready =
    let d : Directory = release_directory r in
    let fs : List WireFace = faces_of d.keys r.classes in
    let ps : List WirePart = map (part_numbered d) r.classes in
    let same : library_directory fs ≡ d = directory_kept d.keys r in
    let gs : List WireSelects = selects_numbered d 4 r.classes in
    let few_keys : 4 + length r.classes ≤ length d.keys = omega (arith, length-map r.classes own_key) in
    let ss = selects_turn d 4 r.classes few_keys ready in
    let many : length fs ≡ length r.classes = length-map r.classes (λ (c : ClassDecl). face_numbered d.keys c.face) in
    let number : length d.keys ≡ length fs + 4 = omega (arith, many, length-map r.classes own_key) in
    record {
      fits = record {
        faces = (omega arith, omega (arith, many, few), All-from_recursion (FitsFace (length fs + 4)) fs (subst (λ (n : ℕ). AllByRecursion (FitsFace n) fs) number (faces_fit d r.classes ready)));
        parts = subst (λ (x : Ranges). FitsParts x fs ps) (ap ranges_in (sym same) ∙ ranges_known fs) (parts_fit d r.classes ready);
        selects = subst (λ (x : Ranges). FitsSection x 4 gs) (ap ranges_in (sym same) ∙ ranges_known fs) (section_fits (ranges_in d) 4 gs ss.ascend);
      };
      names = ap (λ (x : Directory). a_release (with_selects x 4 gs (classes_named x fs ps))) same ∙ ap (λ (ds : List ClassDecl). a_release (with_selects d 4 gs ds)) (classes_back d r.classes ready) ∙ ap a_release ss.names;
    }
