-- A client program that was numbered fits an image, and is named back to the program.
use Rattle.std.proofs.Common.{◌≡◌, ℕ, ◌+◌, ◌≤◌, List, [], ◌∷◌, ◌++◌, length, map, refl, sym, ap, subst, ◌∙◌, arith}
use Rattle.std.specs.Prelude.{All}
use Rattle.std.specs.List.{AllByRecursion}
use Rattle.std.proofs.lemmas.List.{length-map, map-append}
use Rattle.std.proofs.lemmas.List.Elements.{All-from_recursion}
use Rattle.som_model.specs.declared.limits.TheConstants.{MAX_LIBRARY_CLASSES}
use Rattle.som_model.specs.declared.key.Module.TheVariants as modules
use Rattle.som_model.specs.declared.key.ClassKey.{ClassKey}
use Rattle.som_model.specs.declared.key.ClassKey.TheVariants as keys
use Rattle.som_model.specs.declared.syntax.Block.{Block}
use Rattle.som_model.specs.declared.class.ClassFace.{ClassFace}
use Rattle.som_model.specs.declared.class.ClassDecl.{ClassDecl}
use Rattle.som_model.specs.declared.program.Interface.{Interface}
use Rattle.som_model.specs.declared.program.ClientProgram.{ClientProgram}
use Rattle.som_model.specs.Class.{Class, class_in, entry_name}
use Rattle.som_model.specs.Classes.{client_classes}
use Rattle.som_image_fields.specs.declared.face.WireFace.{WireFace}
use Rattle.som_image_fields.specs.declared.method.Ranges.{Ranges}
use Rattle.som_image_fields.specs.Spelling.{FitsFace}
use Rattle.som_image_fields.specs.declared.syntax.WirePart.{WirePart}
use Rattle.som_image_decode.specs.declared.directory.Directory.{Directory}
use Rattle.som_image_decode.specs.Naming.{names_in, kernel_directory, library_directory, ranges_in, entry_names, Tells}
use Rattle.som_image_decode.specs.NamedBlocks.{block_named}
use Rattle.som_image_encode.specs.NumberedBlocks.{block_numbered}
use Rattle.som_image_encode.specs.ReadyBlocks.{BlockReady}
use Rattle.som_image_encode.proofs.NumberedKinds.{TurnsBack, all_both, counted_turn}
use Rattle.som_image_encode.proofs.TurnedBlocks.{ready_turns}
use Rattle.som_image_classes.specs.SpelledClasses.{FitsParts, FitsSection}
use Rattle.som_image_classes.specs.NamedClasses.{face_named, classes_named, with_selects}
use Rattle.som_image_classes.specs.ClassLimits.{FaceWithin}
use Rattle.som_image_encode.specs.NumberedClasses.{face_numbered, FaceKnown, part_numbered, selects_numbered}
use Rattle.som_image_laws.proofs.NumberedFaces.{face_turns}
use Rattle.som_image_laws.proofs.NumberedParts.{ClassReady}
use Rattle.som_image_laws.proofs.NumberedClasses.{faces_of, keys_kept, names_kept, slots_kept, faces_fit, parts_fit, classes_back}
use Rattle.som_image_classes.proofs.NamedClasses.{directory_of, as_many_keys}
use Rattle.som_image_classes.proofs.NamedInterfaces.{a_class, known_by}
use Rattle.som_cliimage.specs.Reading.{client_ranges}
use Rattle.som_cliimage.specs.Spelling.{FitsMain, FitsProgram}
use Rattle.som_cliimage.specs.Naming.{client_directory, program_named}
use Rattle.som_cliimage.specs.Numbering.{interface_directory, program_directory, program_numbered}
use Rattle.som_cliimage.specs.Limits.{IsWithinLimits}
use Rattle.som_image_classes.proofs.NamedParts.{plain}
use Rattle.som_image_classes.proofs.NamedSelects.{section_fits}
use Rattle.som_image_laws.proofs.NumberedSelects.{selects_turn}
use Rattle.som_image_fields.specs.declared.selects.WireSelects.{WireSelects}
use Rattle.som_cliimage.proofs.NamedPrograms.{known_to, many_keys, client_ranges_known}

-- ---- the directory of a program

abbrev base_key : ClassFace → ClassKey
base_key f = keys.Named modules.Library f.name

abbrev base_names : ClassFace → List (List ℕ)
base_names f = map entry_name f.entries

abbrev own_key : ClassDecl → ClassKey
own_key c = keys.Named modules.Client c.face.name

abbrev own_names : ClassDecl → List (List ℕ)
own_names c = map entry_name c.face.entries

abbrev key_of : Class → ClassKey
key_of c = c.key

base_keys_told : (fs : List ClassFace) → map key_of (map a_class fs) ≡ map base_key fs
base_keys_told [] = refl
base_keys_told (f ∷ fs) = ap (λ (ks : List ClassKey). base_key f ∷ ks) (base_keys_told fs)

base_slots_told : (fs : List ClassFace) → map entry_names (map a_class fs) ≡ map base_names fs
base_slots_told [] = refl
base_slots_told (f ∷ fs) = ap (λ (ns : List (List (List ℕ))). base_names f ∷ ns) (base_slots_told fs)

pub base_told : (i : Interface) → Tells (interface_directory i) (known_by i.classes)
base_told i = record {
  keys = ap (λ (ks : List ClassKey). kernel_directory.keys ++ ks) (base_keys_told i.classes);
  slots = ap (λ (ns : List (List (List ℕ))). kernel_directory.slots ++ ns) (base_slots_told i.classes);
}

own_keys_told : (ds : List ClassDecl) → map key_of (map (class_in modules.Client) ds) ≡ map own_key ds
own_keys_told [] = refl
own_keys_told (c ∷ ds) = ap (λ (ks : List ClassKey). own_key c ∷ ks) (own_keys_told ds)

own_slots_told : (ds : List ClassDecl) → map entry_names (map (class_in modules.Client) ds) ≡ map own_names ds
own_slots_told [] = refl
own_slots_told (c ∷ ds) = ap (λ (ns : List (List (List ℕ))). own_names c ∷ ns) (own_slots_told ds)

pub program_told : (p : ClientProgram) → Tells (program_directory p) (known_to p)
program_told p =
    let before : List Class = known_by p.base.classes in
    let after : List Class = client_classes p in
    let base : Directory = interface_directory p.base in
    let b = base_told p.base in
    record {
      keys = map-append key_of before after ∙ ap (λ (l : List ClassKey). l ++ map key_of after) b.keys ∙ ap (λ (l : List ClassKey). base.keys ++ l) (own_keys_told p.classes);
      slots = map-append entry_names before after ∙ ap (λ (l : List (List (List ℕ))). l ++ map entry_names after) b.slots ∙ ap (λ (l : List (List (List ℕ))). base.slots ++ l) (own_slots_told p.classes);
    }

-- ---- the directory of the faces with numbers

module _ (ks : List ClassKey) where
  base_keys_kept : (fs : List ClassFace) → map (λ (f : WireFace). keys.Named modules.Library f.name) (map (face_numbered ks) fs) ≡ map base_key fs
  base_keys_kept [] = refl
  base_keys_kept (f ∷ fs) = ap (λ (l : List ClassKey). base_key f ∷ l) (base_keys_kept fs)

  base_slots_kept : (fs : List ClassFace) → map names_in (map (face_numbered ks) fs) ≡ map base_names fs
  base_slots_kept [] = refl
  base_slots_kept (f ∷ fs) =
      ap (λ (ns : List (List ℕ)). ns ∷ map names_in (map (face_numbered ks) fs)) (names_kept ks f.entries)
      ∙ ap (λ (ns : List (List (List ℕ))). base_names f ∷ ns) (base_slots_kept fs)

  base_kept : (i : Interface) → library_directory (map (face_numbered ks) i.classes) ≡ interface_directory i
  base_kept i =
      ap (λ (l : List ClassKey). directory_of (kernel_directory.keys ++ l) (kernel_directory.slots ++ map names_in (map (face_numbered ks) i.classes))) (base_keys_kept i.classes)
      ∙ ap (λ (l : List (List (List ℕ))). directory_of (kernel_directory.keys ++ map base_key i.classes) (kernel_directory.slots ++ l)) (base_slots_kept i.classes)

abbrev joined : Directory → List ClassKey → List (List (List ℕ)) → Directory
joined d ks ss = directory_of (d.keys ++ ks) (d.slots ++ ss)

directory_kept : (ks ls : List ClassKey) (p : ClientProgram) → client_directory (map (face_numbered ks) p.base.classes) (faces_of ls p.classes) ≡ program_directory p
directory_kept ks ls p =
    let own : List WireFace = faces_of ls p.classes in
    ap (λ (d : Directory). joined d (map (λ (f : WireFace). keys.Named modules.Client f.name) own) (map names_in own)) (base_kept ks p.base)
    ∙ ap (λ (l : List ClassKey). joined (interface_directory p.base) l (map names_in own)) (keys_kept ls modules.Client p.classes)
    ∙ ap (λ (l : List (List (List ℕ))). joined (interface_directory p.base) (map own_key p.classes) l) (slots_kept ls p.classes)

-- ---- the whole program

abbrev a_program : Interface → List ClassDecl → Block → ClientProgram
a_program base cls main = record { base = base; classes = cls; main = main }

abbrev an_interface : List ClassFace → Interface
an_interface fs = record { classes = fs }

pub record ProgramTurns (p : ClientProgram) : Type 0 where
  pub fits : FitsProgram (program_numbered p)
  pub names : program_named (program_numbered p) ≡ p

pub program_turns : (p : ClientProgram) → IsWithinLimits p → All (FaceKnown (interface_directory p.base).keys) p.base.classes → AllByRecursion (ClassReady (program_directory p)) p.classes → BlockReady (program_directory p) p.main → ProgramTurns p
program_turns p within base own main =
    let b : Directory = interface_directory p.base in
    let d : Directory = program_directory p in
    let bs : List WireFace = map (face_numbered b.keys) p.base.classes in
    let fs : List WireFace = faces_of d.keys p.classes in
    let ps : List WirePart = map (part_numbered d) p.classes in
    let same_base : library_directory bs ≡ b = base_kept b.keys p.base in
    let same : client_directory bs fs ≡ d = directory_kept b.keys d.keys p in
    let many_base : length bs ≡ length p.base.classes = length-map p.base.classes (face_numbered b.keys) in
    let base_number : length b.keys ≡ length bs + 4 = ap (λ (x : Directory). length x.keys) (sym same_base) ∙ as_many_keys bs in
    let many : length fs ≡ length p.classes = length-map p.classes (λ (c : ClassDecl). face_numbered d.keys c.face) in
    let number : length d.keys ≡ length fs + (length bs + 4) = ap (λ (x : Directory). length x.keys) (sym same) ∙ many_keys bs fs in
    let same_ranges : ranges_in d ≡ client_ranges bs fs = ap ranges_in (sym same) ∙ client_ranges_known bs fs in
    let each = all_both (FaceKnown b.keys) FaceWithin (TurnsBack (FitsFace (length b.keys)) (face_named b.keys) (face_numbered b.keys)) (face_turns b.keys) p.base.classes base within.each_face in
    let turned = counted_turn (FitsFace (length b.keys)) (face_named b.keys) (face_numbered b.keys) 0 MAX_LIBRARY_CLASSES p.base.classes (omega arith) within.faces each in
    let m = ready_turns d p.main main in
    let before : ℕ = length p.base.classes + 4 in
    let gs : List WireSelects = selects_numbered d before p.classes in
    let first : length bs + 4 ≡ before = ap (λ (n : ℕ). n + 4) many_base in
    let few_keys : before + length p.classes ≤ length d.keys = omega (arith, number, many, many_base) in
    let ss = selects_turn d before p.classes few_keys own in
    let section_here : FitsSection (ranges_in d) (length bs + 4) gs = subst (λ (n : ℕ). FitsSection (ranges_in d) n gs) (sym first) (section_fits (ranges_in d) before gs ss.ascend) in
    record {
      fits = record {
        base = (omega arith, turned.fits.1, subst (λ (n : ℕ). All (FitsFace n) bs) base_number turned.fits.2);
        faces = (omega arith, omega (arith, many, within.classes), All-from_recursion (FitsFace (length fs + (length bs + 4))) fs (subst (λ (n : ℕ). AllByRecursion (FitsFace n) fs) number (faces_fit d p.classes own)));
        parts = subst (λ (x : Ranges). FitsParts x fs ps) same_ranges (parts_fit d p.classes own);
        selects = subst (λ (x : Ranges). FitsSection x (length bs + 4) gs) same_ranges section_here;
        main = subst (λ (x : Ranges). FitsMain x (block_numbered d p.main)) same_ranges m.fits;
      };
      names = ap (λ (x : Directory). a_program (an_interface (map (face_named x.keys) bs)) (with_selects (client_directory bs fs) (length bs + 4) gs (classes_named (client_directory bs fs) fs ps)) (block_named (client_directory bs fs) (block_numbered d p.main))) same_base
          ∙ ap (λ (x : Directory). a_program (an_interface (map (face_named b.keys) bs)) (with_selects x (length bs + 4) gs (classes_named x fs ps)) (block_named x (block_numbered d p.main))) same
          ∙ ap (λ (x : List ClassFace). a_program (an_interface x) (with_selects d (length bs + 4) gs (classes_named d fs ps)) (block_named d (block_numbered d p.main))) turned.names
          ∙ ap (λ (x : List ClassDecl). a_program p.base (with_selects d (length bs + 4) gs x) (block_named d (block_numbered d p.main))) (classes_back d p.classes own)
          ∙ ap (λ (n : ℕ). a_program p.base (with_selects d n gs (map plain p.classes)) (block_named d (block_numbered d p.main))) first
          ∙ ap (λ (x : List ClassDecl). a_program p.base x (block_named d (block_numbered d p.main))) ss.names
          ∙ ap (a_program p.base p.classes) m.names;
    }
