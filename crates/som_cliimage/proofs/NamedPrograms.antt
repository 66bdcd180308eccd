-- A client program is spelled as the image that it is named from, and each program with a spelling is named from one.
use Rattle.std.proofs.Common.{◌≡◌, ℕ, ◌+◌, ◌≤◌, Bool, List, [], ◌∷◌, ◌++◌, length, map, Some, refl, sym, ap, subst, ◌∙◌, append_assoc, arith}
use Rattle.std.specs.Prelude.{false, nat_le, codes}
use Rattle.std.specs.List.{flat_map, AllByRecursion, IsDistinct}
use Rattle.std.specs.Str.{bytes_eq}
use Rattle.std.specs.Int.{w16, to_be_bytes}
use Rattle.std.proofs.lemmas.Bool.{leb-true, le-leb}
use Rattle.std.proofs.lemmas.List.{length-map, length-append, map-append}
use Rattle.std.proofs.lemmas.List.Elements.{All-from_recursion, recursion_from_All}
use Rattle.som_model.specs.declared.limits.TheConstants.{MAX_CLIENT_CLASSES}
use Rattle.som_model.specs.declared.key.Module.TheVariants as modules
use Rattle.som_model.specs.declared.key.ClassKey.{ClassKey}
use Rattle.som_model.specs.declared.syntax.Block.{Block}
use Rattle.som_model.specs.declared.class.ClassFace.{ClassFace}
use Rattle.som_model.specs.declared.class.ClassDecl.{ClassDecl}
use Rattle.som_model.specs.declared.program.Interface.{Interface}
use Rattle.som_model.specs.declared.program.ClientProgram.{ClientProgram}
use Rattle.som_model.specs.Keys.{same_key}
use Rattle.som_model.specs.Class.{Class, class_in}
use Rattle.som_model.specs.Kernel.{kernel, kernel_key}
use Rattle.som_model.specs.Classes.{interface_classes}
use Rattle.som_model.specs.Images as images
use Rattle.som_model.specs.Images.{Spelled, ◌then◌, each, tag, where_it_is, image_version, client_image}
use Rattle.som_model.proofs.NamedLaws.{same_named}
use Rattle.som_image_fields.specs.declared.face.WireFace.{WireFace}
use Rattle.som_image_fields.specs.declared.method.Ranges.{Ranges}
use Rattle.som_image_fields.specs.Spelling as wire
use Rattle.som_image_fields.specs.Spelling.{FitsFace, FitsMethod}
use Rattle.som_image_fields.specs.declared.syntax.WireBlock.{WireBlock}
use Rattle.som_image_fields.specs.declared.syntax.WirePart.{WirePart}
use Rattle.som_image_fields.specs.declared.selects.WireSelects.{WireSelects}
use Rattle.som_image_fields.specs.SyntaxSpelling as spelling
use Rattle.som_image_fields.specs.Fitting.{FitsBlock, levels_left}
use Rattle.som_image_decode.specs.declared.directory.Directory.{Directory}
use Rattle.som_image_decode.specs.Naming.{names_in, kernel_directory, library_directory, ranges_in, entry_names, Tells, NoDoubles}
use Rattle.som_image_decode.specs.NamedBlocks.{block_named}
use Rattle.som_image_decode.proofs.Places.{all_of, all_mapped, all_joined, distinct_joined}
use Rattle.som_image_decode.proofs.Spelled.{some_bytes, bytes_are, split, guarded}
use Rattle.som_image_decode.proofs.NamedStmts.{block_forth}
use Rattle.som_image_decode.proofs.StmtsBack.{block_back}
use Rattle.som_image_classes.specs.SpelledClasses.{FitsClass, FitsParts, FitsSection, section, version_with, head}
use Rattle.som_image_classes.specs.NamedClasses.{face_named, classes_named, interface_named, with_selects}
use Rattle.som_image_classes.specs.Interfaces.{NamesDiffer, interface_image, NamedFrom}
use Rattle.som_image_classes.proofs.ClassPlaces.{fit_length, ranges_known}
use Rattle.som_image_classes.proofs.NamedSelects.{section_ascends, section_fits, section_forth, SectionBack, section_back}
use Rattle.som_image_classes.proofs.NamedClasses.{map_selecting, each_selecting, many_selecting, keys_selecting, slots_selecting, key_in, keys_told, slots_told, faces_kept, as_many_classes, as_many_keys, library_key, Distinct, distinct_of, distinct_keys, no_doubles, faces_forth, parts_forth, Pairs, pairs_back, directory_of}
use Rattle.som_image_classes.proofs.NamedInterfaces.{a_class, known_by, interface_forth, interface_back}
use Rattle.som_image_classes.proofs.NamedInterfaces as interfaces
use Rattle.som_cliimage.specs.declared.wire.WireProgram.{WireProgram}
use Rattle.som_cliimage.specs.Reading.{client_ranges}
use Rattle.som_cliimage.specs.Spelling.{FitsMain, FitsProgram, client}
use Rattle.som_cliimage.specs.Naming.{client_directory, program_named}
use Rattle.som_cliimage.specs.Programs.{ProgramNamesDiffer, SpellsProgram}

-- ---- what a client's directory tells

-- the kernel's classes, those of an interface, and a client's own
abbrev pub known_classes : List ClassFace → List ClassDecl → List Class
known_classes fs cls = known_by fs ++ map (class_in modules.Client) cls

abbrev pub known_to : ClientProgram → List Class
known_to p = known_classes p.base.classes p.classes

abbrev key_of : Class → ClassKey
key_of c = c.key

module _ (ks : List ClassKey) (d : Directory) where
  -- and with the selects of the client's classes
  pub told_selecting : (n : ℕ) (gs : List WireSelects) (base own : List WireFace) (ps : List WirePart) → length own ≡ length ps → Tells (client_directory base own) (known_classes (map (face_named ks) base) (with_selects d n gs (classes_named d own ps)))
  told_selecting n gs base own ps e =
      let before : List Class = known_by (map (face_named ks) base) in
      let cls : List ClassDecl = classes_named d own ps in
      let after : List Class = map (class_in modules.Client) (with_selects d n gs cls) in
      let b = interfaces.told ks base in
      record {
        keys = map-append key_of before after ∙ ap (λ (l : List ClassKey). l ++ map key_of after) b.keys ∙ ap (λ (l : List ClassKey). (library_directory base).keys ++ l) (keys_selecting d modules.Client n gs cls ∙ keys_told d modules.Client own ps e);
        slots = map-append entry_names before after ∙ ap (λ (l : List (List (List ℕ))). l ++ map entry_names after) b.slots ∙ ap (λ (l : List (List (List ℕ))). (library_directory base).slots ++ l) (slots_selecting d modules.Client n gs cls ∙ slots_told d modules.Client own ps e);
      }

pub many_keys : (base own : List WireFace) → length ((client_directory base own).keys) ≡ length own + (length base + 4)
many_keys base own = omega (arith, length-append (library_directory base).keys (map (key_in modules.Client) own), as_many_keys base, length-map own (key_in modules.Client))

abbrev ranges : ℕ → List ℕ → Ranges
ranges classes entries = record { classes = classes; entries = entries }

abbrev lengths : List (List (List ℕ)) → List ℕ
lengths ss = map (λ (names : List (List ℕ)). length names) ss

-- the directory of a client has the ranges by which its image is read
pub client_ranges_known : (base own : List WireFace) → ranges_in (client_directory base own) ≡ client_ranges base own
client_ranges_known base own =
    let d : Directory = client_directory base own in
    let both : Directory = library_directory (base ++ own) in
    let classes : length d.keys ≡ length both.keys = omega (arith, many_keys base own, as_many_keys (base ++ own), length-append base own) in
    let slots : d.slots ≡ both.slots = ap (λ (l : List (List (List ℕ))). kernel_directory.slots ++ l) (sym (map-append names_in base own)) in
    ap (λ (n : ℕ). ranges n (lengths d.slots)) classes ∙ ap (λ (ss : List (List (List ℕ))). ranges (length both.keys) (lengths ss)) slots ∙ ranges_known (base ++ own)

-- ---- no doubles

abbrev Apart : List WireFace → ClassKey → Type 0
Apart own x = AllByRecursion (λ y. same_key x y ≡ false) (map (key_in modules.Client) own)

apart_from_kernel : (own : List WireFace) (name : List ℕ) → Apart own (kernel_key name)
apart_from_kernel own name = all_mapped (λ y. same_key (kernel_key name) y ≡ false) (key_in modules.Client) own (all_of (λ (f : WireFace). same_key (kernel_key name) (key_in modules.Client f) ≡ false) (λ f. same_named modules.Kernel modules.Client name f.name) own)

apart_from_library : (own : List WireFace) (g : WireFace) → Apart own (library_key g)
apart_from_library own g = all_mapped (λ y. same_key (library_key g) y ≡ false) (key_in modules.Client) own (all_of (λ (f : WireFace). same_key (library_key g) (key_in modules.Client f) ≡ false) (λ f. same_named modules.Library modules.Client g.name f.name) own)

client_doubles : (ks ls : List ClassKey) (base own : List WireFace) → Distinct ks base → Distinct ls own → NoDoubles (client_directory base own)
client_doubles ks ls base own b o =
    let single = no_doubles ks base b in
    let mine = distinct_keys modules.Client (λ x y e. same_named modules.Client modules.Client x y ∙ e) own o.classes in
    let of_kernel : AllByRecursion (Apart own) kernel_directory.keys = (apart_from_kernel own _, (apart_from_kernel own _, (apart_from_kernel own _, (apart_from_kernel own _, tt)))) in
    let of_library = all_mapped (Apart own) library_key base (all_of (λ (g : WireFace). Apart own (library_key g)) (apart_from_library own) base) in
    record {
      keys = distinct_joined same_key (library_directory base).keys (map (key_in modules.Client) own) single.keys mine (all_joined (Apart own) kernel_directory.keys (map library_key base) of_kernel of_library);
      slots = all_joined (IsDistinct bytes_eq) (library_directory base).slots (map names_in own) single.slots (all_mapped (IsDistinct bytes_eq) names_in own o.entries);
    }

-- ---- whole images

abbrev image_by : ℕ → Spelled → ℕ → Spelled → Spelled → Spelled → Spelled → Spelled
image_by v base n faces parts selects main = Some (codes "SOMC") then tag v then base then where_it_is (nat_le n MAX_CLIENT_CLASSES) (images.number w16 n then faces) then parts then selects then main

-- the number of the first class of the client's own
abbrev first_of : ClientProgram → ℕ
first_of p = length (kernel ++ interface_classes p.base)

image_is : (p : ClientProgram) → client_image p ≡ image_by (image_version p.classes) (interface_image p.base) (length p.classes) (each (λ c. images.face (known_to p) c.face) p.classes) (each (images.part (known_to p)) p.classes) (images.selects (known_to p) (first_of p) p.classes) (images.block (known_to p) p.main 1)
unfolding client_image
image_is p = refl

regroup : (h b o p s m : List ℕ) → ((((h ++ b) ++ o) ++ p) ++ s) ++ m ≡ h ++ (b ++ (o ++ (p ++ (s ++ m))))
regroup h b o p s m = append_assoc (((h ++ b) ++ o) ++ p) s m ∙ append_assoc ((h ++ b) ++ o) p (s ++ m) ∙ append_assoc (h ++ b) o (p ++ (s ++ m)) ∙ append_assoc h b (o ++ (p ++ (s ++ m)))

-- the program of an image in which no name stands twice is spelled as it
pub program_forth : (w : WireProgram) → FitsProgram w → ProgramNamesDiffer (program_named w) → client_image (program_named w) ≡ Some (client w)
program_forth w fits differ =
    let fs : List WireFace = w.faces in
    let gs : List WireSelects = w.selects in
    let d : Directory = client_directory w.base fs in
    let p : ClientProgram = program_named w in
    let cs : List Class = known_to p in
    let first : ℕ = length w.base + 4 in
    let ds : List ClassDecl = classes_named d fs w.parts in
    let same : length fs ≡ length w.parts = fit_length (FitsClass (client_ranges w.base fs)) fs w.parts fits.parts in
    let tells : Tells d cs = told_selecting (library_directory w.base).keys d first gs w.base fs w.parts same in
    let base_distinct = distinct_of (library_directory w.base).keys w.base differ.base in
    let faces_same : map (λ (c : ClassDecl). c.face) p.classes ≡ map (face_named d.keys) fs = map_selecting d (λ (c : ClassDecl). c.face) (λ ss c. refl) first gs ds ∙ faces_kept d fs w.parts same in
    let own_distinct = distinct_of d.keys fs (subst NamesDiffer faces_same differ.own) in
    let single : NoDoubles d = client_doubles (library_directory w.base).keys d.keys w.base fs base_distinct own_distinct in
    let known : AllByRecursion (FitsFace (length d.keys)) fs = subst (λ (n : ℕ). AllByRecursion (FitsFace n) fs) (sym (many_keys w.base fs)) (recursion_from_All (FitsFace (length fs + (length w.base + 4))) fs fits.faces.2) in
    let same_ranges : client_ranges w.base fs ≡ ranges_in d = sym (client_ranges_known w.base fs) in
    let pairs : FitsParts (ranges_in d) fs w.parts = subst (λ (x : Ranges). FitsParts x fs w.parts) same_ranges fits.parts in
    let sections : FitsSection (ranges_in d) first gs = subst (λ (x : Ranges). FitsSection x first gs) same_ranges fits.selects in
    let main_fits : FitsMain (ranges_in d) w.main = subst (λ (x : Ranges). FitsMain x w.main) same_ranges fits.main in
    let many : length p.classes ≡ length fs = many_selecting d first gs ds ∙ as_many_classes d fs w.parts same in
    let number : length d.keys ≡ first + length ds = omega (arith, many_keys w.base fs, as_many_classes d fs w.parts same) in
    let ss = section_forth d cs tells single (length d.keys) first gs ds number (section_ascends (ranges_in d) first gs sections) in
    let first_is : first_of p ≡ first = omega (arith, length-map (map (face_named (library_directory w.base).keys) w.base) a_class, length-map w.base (face_named (library_directory w.base).keys)) in
    let face_of : ClassDecl → Spelled = λ c. images.face cs c.face in
    let v : ℕ = version_with gs in
    let b : List ℕ = wire.counted w16 wire.face w.base in
    let faces : List ℕ = flat_map wire.face fs in
    let parts : List ℕ = flat_map spelling.part w.parts in
    let main : List ℕ = spelling.block w.main in
    let spelled_faces : Spelled = each face_of p.classes in
    let spelled_parts : Spelled = each (images.part cs) p.classes in
    let spelled_selects : ℕ → Spelled = λ n. images.selects cs n p.classes in
    let spelled_main : Spelled = images.block cs p.main 1 in
    image_is p
    ∙ ap (λ (n : ℕ). image_by n (interface_image p.base) (length p.classes) spelled_faces spelled_parts (spelled_selects (first_of p)) spelled_main) ss.version
    ∙ ap (λ (s : Spelled). image_by v s (length p.classes) spelled_faces spelled_parts (spelled_selects (first_of p)) spelled_main) (interface_forth w.base fits.base differ.base)
    ∙ ap (λ (n : ℕ). image_by v (Some b) n spelled_faces spelled_parts (spelled_selects (first_of p)) spelled_main) many
    ∙ ap (λ (s : Spelled). image_by v (Some b) (length fs) s spelled_parts (spelled_selects (first_of p)) spelled_main) (each_selecting d face_of (λ ss c. refl) first gs ds ∙ faces_forth d cs tells single fs w.parts known pairs)
    ∙ ap (λ (s : Spelled). image_by v (Some b) (length fs) (Some faces) s (spelled_selects (first_of p)) spelled_main) (each_selecting d (images.part cs) (λ ss c. refl) first gs ds ∙ parts_forth d cs tells single fs w.parts pairs)
    ∙ ap (λ (s : Spelled). image_by v (Some b) (length fs) (Some faces) (Some parts) s spelled_main) (ap spelled_selects first_is ∙ ss.bytes)
    ∙ ap (λ (s : Spelled). image_by v (Some b) (length fs) (Some faces) (Some parts) (Some (section gs)) s) (block_forth d cs tells single 32 1 (omega arith) w.main main_fits)
    ∙ ap (λ (x : Bool). Some (codes "SOMC") then tag v then Some b then where_it_is x (images.number w16 (length fs) then Some faces) then Some parts then Some (section gs) then Some main) (le-leb (length fs) MAX_CLIENT_CLASSES fits.faces.1)
    ∙ ap some_bytes (regroup (head (codes "SOMC") v) b (wire.counted w16 wire.face fs) parts (section gs) main)

-- ---- and back

abbrev a_program : Interface → List ClassDecl → Block → ClientProgram
a_program base cls main = record { base = base; classes = cls; main = main }

abbrev a_directory : ClientProgram → Directory
a_directory p = directory_of (map key_of (known_to p)) (map entry_names (known_to p))

abbrev its_own : (p : ClientProgram) → Tells (a_directory p) (known_to p)
its_own p = record { keys = refl; slots = refl }

abbrev FitsHere : Directory → WireBlock → Type 0
FitsHere d b = FitsBlock (levels_left 1) (length d.keys) (FitsMethod (ranges_in d)) b

-- from the classes and the main of a program to the image
finished : (p : ClientProgram) (bytes b x y z m : List ℕ) → length p.classes ≤ MAX_CLIENT_CLASSES → ((((head (codes "SOMC") (image_version p.classes) ++ b) ++ (to_be_bytes w16 (length p.classes) ++ x)) ++ y) ++ z) ++ m ≡ bytes
    → NamedFrom p.base b → Pairs (a_directory p) (known_to p) (its_own p) p.classes x y → SectionBack (a_directory p) (known_to p) (its_own p) (length (a_directory p).keys) (first_of p) p.classes z
    → (main : WireBlock) → spelling.block main ≡ m → FitsHere (a_directory p) main → block_named (a_directory p) main ≡ p.main → SpellsProgram p bytes
finished p bytes b x y z m le whole base own chosen main main_spelled main_fits main_named =
    let fs : List WireFace = own.faces in
    let bs : List WireFace = base.faces in
    let gs : List WireSelects = chosen.groups in
    let d : Directory = a_directory p in
    let first : ℕ = length bs + 4 in
    let same : length fs ≡ length own.parts = fit_length (FitsClass (ranges_in d)) fs own.parts own.pairs in
    let first_is : first_of p ≡ first =
    omega (arith, length-map p.base.classes a_class, ap (λ (i : Interface). length i.classes) base.named, length-map bs (face_named (library_directory bs).keys)) in
    let cls : List ClassDecl = classes_named d fs own.parts in
    let names : with_selects d first gs cls ≡ p.classes = ap (λ (n : ℕ). with_selects d n gs cls) (sym first_is) ∙ ap (with_selects d (first_of p) gs) own.names ∙ chosen.names in
    let tells_by = told_selecting (library_directory bs).keys d first gs bs fs own.parts same in
    let tells : Tells (client_directory bs fs) (known_to p) =
    subst (λ (i : Interface). Tells (client_directory bs fs) (known_classes i.classes p.classes)) base.named (subst (λ (cls : List ClassDecl). Tells (client_directory bs fs) (known_classes (map (face_named (library_directory bs).keys) bs) cls)) names tells_by) in
    let one : d ≡ client_directory bs fs = ap (λ (ks : List ClassKey). directory_of ks d.slots) tells.keys ∙ ap (λ (ss : List (List (List ℕ))). directory_of ((client_directory bs fs).keys) ss) tells.slots in
    let classes : length d.keys ≡ length fs + (length bs + 4) = ap (λ (z : Directory). length z.keys) one ∙ many_keys bs fs in
    let number : length fs ≡ length p.classes = sym (as_many_classes d fs own.parts same) ∙ sym (many_selecting d first gs cls) ∙ ap (length {A = ClassDecl}) names in
    let same_ranges : ranges_in d ≡ client_ranges bs fs = ap ranges_in one ∙ client_ranges_known bs fs in
    let section_here : FitsSection (ranges_in d) first gs = subst (λ (n : ℕ). FitsSection (ranges_in d) n gs) first_is (section_fits (ranges_in d) (first_of p) gs chosen.ascend) in
    let magic : List ℕ = head (codes "SOMC") (image_version p.classes) in
    let base_spelled : List ℕ = wire.counted w16 wire.face bs in
    let parts : List ℕ = flat_map spelling.part own.parts in
    record {
      wire = record { base = bs; faces = fs; parts = own.parts; selects = gs; main = main };
      spelled = sym (regroup (head (codes "SOMC") (version_with gs)) base_spelled (wire.counted w16 wire.face fs) parts (section gs) (spelling.block main))
          ∙ ap (λ (n : ℕ). ((((head (codes "SOMC") n ++ base_spelled) ++ wire.counted w16 wire.face fs) ++ parts) ++ section gs) ++ spelling.block main) (sym chosen.version)
          ∙ ap (λ (t : List ℕ). ((((magic ++ t) ++ wire.counted w16 wire.face fs) ++ parts) ++ section gs) ++ spelling.block main) base.spelled
          ∙ ap (λ (n : ℕ). ((((magic ++ b) ++ (to_be_bytes w16 n ++ flat_map wire.face fs)) ++ parts) ++ section gs) ++ spelling.block main) number
          ∙ ap (λ (t : List ℕ). ((((magic ++ b) ++ (to_be_bytes w16 (length p.classes) ++ t)) ++ parts) ++ section gs) ++ spelling.block main) own.first
          ∙ ap (λ (t : List ℕ). ((((magic ++ b) ++ (to_be_bytes w16 (length p.classes) ++ x)) ++ t) ++ section gs) ++ spelling.block main) own.second
          ∙ ap (λ (t : List ℕ). ((((magic ++ b) ++ (to_be_bytes w16 (length p.classes) ++ x)) ++ y) ++ t) ++ spelling.block main) chosen.spelled
          ∙ ap (λ (t : List ℕ). ((((magic ++ b) ++ (to_be_bytes w16 (length p.classes) ++ x)) ++ y) ++ z) ++ t) main_spelled
          ∙ whole;
      fits = record {
        base = base.fits;
        faces = (omega arith, omega (arith, number, le), All-from_recursion (FitsFace (length fs + (length bs + 4))) fs (subst (λ (n : ℕ). AllByRecursion (FitsFace n) fs) classes own.fit));
        parts = subst (λ (z : Ranges). FitsParts z fs own.parts) same_ranges own.pairs;
        selects = subst (λ (z : Ranges). FitsSection z first gs) same_ranges section_here;
        main = subst (λ (z : Ranges). FitsMain z main) same_ranges main_fits;
      };
      names = ap (λ (z : Directory). a_program (interface_named bs) (with_selects z first gs (classes_named z fs own.parts)) (block_named z main)) (sym one)
          ∙ ap (λ (i : Interface). a_program i (with_selects d first gs cls) (block_named d main)) base.named
          ∙ ap (λ (cls : List ClassDecl). a_program p.base cls (block_named d main)) names
          ∙ ap (a_program p.base p.classes) main_named;
    }

-- each program that has a spelling is named from an image
pub program_back : (p : ClientProgram) (bytes : List ℕ) → client_image p ≡ Some bytes → SpellsProgram p bytes
program_back p bytes e =
    let cs : List Class = known_to p in
    let d : Directory = a_directory p in
    let tells : Tells d cs = its_own p in
    let magic : List ℕ = head (codes "SOMC") (image_version p.classes) in
    let base : Spelled = interface_image p.base in
    let faces : Spelled = each (λ c. images.face cs c.face) p.classes in
    let parts : Spelled = each (images.part cs) p.classes in
    let selects : Spelled = images.selects cs (first_of p) p.classes in
    let main : Spelled = images.block cs p.main 1 in
    let counted : Spelled = where_it_is (nat_le (length p.classes) MAX_CLIENT_CLASSES) (images.number w16 (length p.classes) then faces) in
    let s = split (Some magic then base then counted then parts then selects) main bytes (sym (image_is p) ∙ e) in
    let q = split (Some magic then base then counted then parts) selects s.front s.first in
    let t = split (Some magic then base then counted) parts q.front q.first in
    let u = split (Some magic then base) counted t.front t.first in
    let v = split (Some magic) base u.front u.first in
    let g = guarded (nat_le (length p.classes) MAX_CLIENT_CLASSES) (images.number w16 (length p.classes) then faces) u.back u.second in
    let n = split (images.number w16 (length p.classes)) faces u.back g.1 in
    let b = interface_back p.base v.back v.second in
    let own = pairs_back d cs tells p.classes n.back t.back n.second t.second in
    let many : length d.keys ≡ first_of p + length p.classes = omega (arith, length-map cs key_of, length-append (kernel ++ interface_classes p.base) (map (class_in modules.Client) p.classes), length-map p.classes (class_in modules.Client)) in
    let chosen = section_back d cs tells (length d.keys) (first_of p) p.classes (omega (arith, many)) q.back q.second in
    let m = block_back d cs tells 32 1 (omega arith) p.main s.back s.second in
    let start = bytes_are magic v.front v.first in
    let number = bytes_are (to_be_bytes w16 (length p.classes)) n.front n.first in
    finished p bytes v.back n.back t.back q.back s.back (leb-true _ _ g.0)
    (ap (λ (z : List ℕ). ((((z ++ v.back) ++ (to_be_bytes w16 (length p.classes) ++ n.back)) ++ t.back) ++ q.back) ++ s.back) start
    ∙ ap (λ (z : List ℕ). (((z ++ (to_be_bytes w16 (length p.classes) ++ n.back)) ++ t.back) ++ q.back) ++ s.back) v.whole
    ∙ ap (λ (z : List ℕ). (((u.front ++ (z ++ n.back)) ++ t.back) ++ q.back) ++ s.back) number
    ∙ ap (λ (z : List ℕ). (((u.front ++ z) ++ t.back) ++ q.back) ++ s.back) n.whole
    ∙ ap (λ (z : List ℕ). ((z ++ t.back) ++ q.back) ++ s.back) u.whole
    ∙ ap (λ (z : List ℕ). (z ++ q.back) ++ s.back) t.whole
    ∙ ap (λ (z : List ℕ). z ++ s.back) q.whole
    ∙ s.whole)
    b own chosen m.it m.spelled m.fits m.names
