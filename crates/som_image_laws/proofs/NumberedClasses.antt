-- Classes that were numbered fit an image, and are named back to the classes.
use Rattle.std.proofs.Common.{◌≡◌, ℕ, ◌+◌, ◌≤◌, List, [], ◌∷◌, ◌++◌, length, map, refl, ap, ◌∙◌}
use Rattle.std.specs.List.{AllByRecursion}
use Rattle.som_model.specs.declared.limits.TheConstants.{MAX_ENTRIES}
use Rattle.som_model.specs.declared.key.Module.{Module}
use Rattle.som_model.specs.declared.key.Module.TheVariants as modules
use Rattle.som_model.specs.declared.key.ClassKey.{ClassKey}
use Rattle.som_model.specs.declared.key.ClassKey.TheVariants as keys
use Rattle.som_model.specs.declared.class.Entry.{Entry}
use Rattle.som_model.specs.declared.class.Entry.TheVariants as named_entries
use Rattle.som_model.specs.declared.class.ClassDecl.{ClassDecl}
use Rattle.som_model.specs.Class.{Class, class_in, entry_name}
use Rattle.som_image_fields.specs.declared.face.WireFace.{WireFace}
use Rattle.som_image_fields.specs.Spelling.{FitsFace}
use Rattle.som_image_decode.specs.declared.directory.Directory.{Directory}
use Rattle.som_image_classes.specs.SpelledClasses.{FitsParts}
use Rattle.som_image_decode.specs.Naming.{name_in, names_in, ranges_in, entry_names}
use Rattle.som_image_classes.specs.NamedClasses.{classes_named}
use Rattle.som_image_encode.specs.NumberedClasses.{entry_numbered, face_numbered, part_numbered}
use Rattle.som_image_classes.proofs.NamedParts.{plain}
use Rattle.som_image_encode.proofs.Directories.{FewEntries}
use Rattle.som_image_laws.proofs.NumberedParts.{ClassReady, class_turns}

-- ---- the directory of a release

abbrev pub own_key : ClassDecl → ClassKey
own_key c = keys.Named modules.Library c.face.name

abbrev pub own_names : ClassDecl → List (List ℕ)
own_names c = map entry_name c.face.entries

pub keys_told : (ds : List ClassDecl) → map (λ (c : Class). c.key) (map (class_in modules.Library) ds) ≡ map own_key ds
keys_told [] = refl
keys_told (c ∷ ds) = ap (λ (ks : List ClassKey). own_key c ∷ ks) (keys_told ds)

pub slots_told : (ds : List ClassDecl) → map entry_names (map (class_in modules.Library) ds) ≡ map own_names ds
slots_told [] = refl
slots_told (c ∷ ds) = ap (λ (ns : List (List (List ℕ))). own_names c ∷ ns) (slots_told ds)

pub few_own : (home : Module) (ds : List ClassDecl) → AllByRecursion (λ (c : ClassDecl). length c.face.entries ≤ MAX_ENTRIES) ds → AllByRecursion FewEntries (map (class_in home) ds)
few_own home [] h = tt
few_own home (c ∷ ds) h = (h.0, few_own home ds h.1)

-- ---- the directory of the faces with numbers

abbrev pub faces_of : List ClassKey → List ClassDecl → List WireFace
faces_of ks ds = map (λ (c : ClassDecl). face_numbered ks c.face) ds

module _ (ks : List ClassKey) where
  pub keys_kept : (home : Module) (ds : List ClassDecl) → map (λ (f : WireFace). keys.Named home f.name) (faces_of ks ds) ≡ map (λ (c : ClassDecl). keys.Named home c.face.name) ds
  keys_kept home [] = refl
  keys_kept home (c ∷ ds) = ap (λ (l : List ClassKey). keys.Named home c.face.name ∷ l) (keys_kept home ds)

  pub names_kept : (es : List Entry) → map name_in (map (entry_numbered ks) es) ≡ map entry_name es
  names_kept [] = refl
  names_kept (named_entries.Introduced name s w ∷ es) = ap (λ (ns : List (List ℕ)). name ∷ ns) (names_kept es)
  names_kept (named_entries.Moved name to ∷ es) = ap (λ (ns : List (List ℕ)). name ∷ ns) (names_kept es)

  pub slots_kept : (ds : List ClassDecl) → map names_in (faces_of ks ds) ≡ map own_names ds
  slots_kept [] = refl
  slots_kept (c ∷ ds) =
      ap (λ (ns : List (List ℕ)). ns ∷ map names_in (faces_of ks ds)) (names_kept c.face.entries)
      ∙ ap (λ (ns : List (List (List ℕ))). own_names c ∷ ns) (slots_kept ds)

-- ---- all classes

module _ (d : Directory) where
  pub faces_fit : (ds : List ClassDecl) → AllByRecursion (ClassReady d) ds → AllByRecursion (FitsFace (length d.keys)) (faces_of d.keys ds)
  faces_fit [] h = tt
  faces_fit (c ∷ ds) h = ((class_turns d c h.0).face, faces_fit ds h.1)

  pub parts_fit : (ds : List ClassDecl) → AllByRecursion (ClassReady d) ds → FitsParts (ranges_in d) (faces_of d.keys ds) (map (part_numbered d) ds)
  parts_fit [] h = tt
  parts_fit (c ∷ ds) h = ((class_turns d c h.0).fits, parts_fit ds h.1)

  pub classes_back : (ds : List ClassDecl) → AllByRecursion (ClassReady d) ds → classes_named d (faces_of d.keys ds) (map (part_numbered d) ds) ≡ map plain ds
  classes_back [] h = refl
  classes_back (c ∷ ds) h =
      ap (λ (x : ClassDecl). x ∷ classes_named d (faces_of d.keys ds) (map (part_numbered d) ds)) (class_turns d c h.0).names
      ∙ ap (λ (x : List ClassDecl). plain c ∷ x) (classes_back ds h.1)
