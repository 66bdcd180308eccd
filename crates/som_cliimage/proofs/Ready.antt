-- A client program that conforms and is within the limits names nothing that isn't there: so it can be numbered.
use Rattle.std.proofs.Common.{◌≡◌, ℕ, ◌+◌, ◌<◌, ◌≤◌, ◌^◌, inl, inr, true, List, [], ◌∷◌, ◌++◌, length, map, Result, Ok, Err, refl, sym, ap, subst, ◌∙◌, append_assoc, arith}
use Rattle.std.specs.Prelude.{flat_map, All, IfOk, codes}
use Rattle.std.specs.List.{AllByRecursion}
use Rattle.std.proofs.lemmas.List.{length-map, length-append}
use Rattle.std.proofs.lemmas.List.Concat.{flat_map-cons}
use Rattle.std.proofs.lemmas.List.Elements.{All-from_recursion, recursion_from_All}
use Rattle.som_model.specs.declared.memory.NoMemory.{NoMemory}
use Rattle.som_model.specs.declared.limits.TheConstants.{MAX_ENTRIES}
use Rattle.som_model.specs.declared.key.Module.TheVariants as modules
use Rattle.som_model.specs.declared.key.ClassKey.{ClassKey}
use Rattle.som_model.specs.declared.class.ClassFace.{ClassFace}
use Rattle.som_model.specs.declared.class.ClassDecl.{ClassDecl}
use Rattle.som_model.specs.declared.class.Variable.{Variable}
use Rattle.som_model.specs.declared.program.ClientProgram.{ClientProgram}
use Rattle.som_model.specs.Lists.{Mem, option_list}
use Rattle.som_model.specs.Class.{Class, class_in}
use Rattle.som_model.specs.Kernel.{kernel}
use Rattle.som_model.specs.Rules.{RuleBreach, name_of, demand_of, is_value_type, is_proper, s5, s9}
use Rattle.som_model.specs.Owner.{introduces}
use Rattle.som_model.specs.Typing.{Ruled, class_facts, in_main}
use Rattle.som_model.specs.TypedBlocks.{Scope, block_scope}
use Rattle.som_model.specs.Conforming.{ProgramOk}
use Rattle.som_image_fields.specs.declared.face.WireFace.{WireFace}
use Rattle.som_image_fields.specs.declared.syntax.WireBlock.{WireBlock}
use Rattle.som_image_fields.specs.declared.syntax.WirePart.{WirePart}
use Rattle.som_image_fields.specs.declared.selects.WireSelects.{WireSelects}
use Rattle.som_image_decode.specs.declared.directory.Directory.{Directory}
use Rattle.som_image_decode.specs.Naming.{Differ}
use Rattle.som_image_encode.specs.Numbering.{class_names, AreNamed, IsDirectory}
use Rattle.som_image_encode.specs.NumberedBlocks.{block_numbered}
use Rattle.som_image_encode.specs.ReadyBlocks.{BlockReady}
use Rattle.som_image_decode.proofs.Places.{all_map, all_joined}
use Rattle.som_image_encode.proofs.KnownMethods.{keys_of, covers}
use Rattle.som_image_encode.proofs.TypedBlocks.{typed_is_ready}
use Rattle.som_image_classes.specs.ClassLimits.{FaceWithin, ClassWithin}
use Rattle.som_image_encode.specs.NumberedClasses.{face_numbered, FaceKnown, part_numbered, selects_numbered, ClassKnown}
use Rattle.som_image_classes.proofs.Conforming.{both_empty}
use Rattle.som_image_encode.proofs.Directories.{IsOwn, FewEntries, kernel_own, kernel_few, declared_own, directory_is}
use Rattle.som_image_laws.proofs.NumberedParts.{ClassReady}
use Rattle.som_image_laws.proofs.NumberedClasses.{few_own}
use Rattle.som_image_classes.proofs.NamedInterfaces.{a_class}
use Rattle.som_image_laws.proofs.ReadyClasses.{NamesBefore, stand_before, all_front, types_told, face_known, names_new, classes_ready}
use Rattle.som_cliimage.specs.declared.wire.WireProgram.{WireProgram}
use Rattle.som_cliimage.specs.Spelling.{FitsProgram}
use Rattle.som_cliimage.specs.Naming.{program_named}
use Rattle.som_cliimage.specs.Numbering.{interface_directory, program_directory, program_numbered}
use Rattle.som_cliimage.specs.Limits.{IsWithinLimits}
use Rattle.som_cliimage.proofs.BaseAncestors.{proper_there}
use Rattle.som_cliimage.proofs.Holds.{base, own, before, all, Holds, holds}
use Rattle.som_cliimage.proofs.NumberedPrograms.{base_told, program_told, ProgramTurns, program_turns}

-- ---- classes among themselves

mem_middle : (front : List Class) (c : Class) (cs : List Class) → Mem c.key (keys_of (front ++ c ∷ cs))
mem_middle [] c cs = inl refl
mem_middle (f ∷ front) c cs = inr (mem_middle front c cs)

-- each class has its own key among them
abbrev HasKey : List Class → Class → Type 0
HasKey cs c = Mem c.key (keys_of cs)

own_keys : (front cs : List Class) → AllByRecursion (HasKey (front ++ cs)) cs
own_keys front [] = tt
own_keys front (c ∷ cs) = (mem_middle front c cs, subst (λ (l : List Class). AllByRecursion (HasKey l) cs) (append_assoc front (c ∷ []) cs) (own_keys (front ++ c ∷ []) cs))

base_own : (fs : List ClassFace) → AllByRecursion IsOwn (map a_class fs)
base_own [] = tt
base_own (f ∷ fs) = ((modules.Library, refl), base_own fs)

base_few : (fs : List ClassFace) → AllByRecursion FaceWithin fs → AllByRecursion FewEntries (map a_class fs)
base_few [] h = tt
base_few (f ∷ fs) h = (h.0.entries, base_few fs h.1)

module _ (p : ClientProgram) (ok : ProgramOk p) (within : IsWithinLimits p) where
  abbrev rules : Holds p
  rules = holds p ok

  abbrev base_directory_of : Directory
  base_directory_of = interface_directory p.base

  abbrev directory_of : Directory
  directory_of = program_directory p

  abbrev In : ClassKey → Type 0
  In k = Mem k (keys_of (before p))

  -- ---- the base

  base_before : AllByRecursion (λ (c : Class). NamesBefore (keys_of (before p)) c.decl.face) (base p)
  base_before = stand_before kernel (base p) rules.base_parents

  parents_in : AllByRecursion (λ (c : Class). AllByRecursion In c.decl.face.parents) (before p)
  parents_in =
      all_joined (λ (c : Class). AllByRecursion In c.decl.face.parents) kernel (base p) (tt, ((inl refl, tt), ((inl refl, tt), ((inr (inl refl), tt), tt))))
      (all_map (λ (c : Class). NamesBefore (keys_of (before p)) c.decl.face) (λ (c : Class). AllByRecursion In c.decl.face.parents) (λ c h. all_front In c.decl.face.parents (option_list c.decl.face.metaclass) h) (base p) base_before)

  declared_before : AllByRecursion IsOwn (before p)
  declared_before = all_joined IsOwn kernel (base p) kernel_own (base_own p.base.classes)

  ancestor_in : (c : Class) → In c.key → (to : ClassKey) (name : List ℕ) → is_proper (all p) c to ≡ true → introduces (all p) name to ≡ true → In to
  ancestor_in c m to name proper introduced = proper_there (before p) (own p) declared_before parents_in c m to proper

  each_known : (fs : List ClassFace) → AllByRecursion (λ (c : Class). NamesBefore (keys_of (before p)) c.decl.face) (map a_class fs) → AllByRecursion (HasKey (before p)) (map a_class fs)
      → flat_map (s5 (before p)) (map a_class fs) ≡ [] → flat_map (s9 (all p)) (map a_class fs) ≡ [] → AllByRecursion (FaceKnown (keys_of (before p))) fs
  each_known [] stand keys types moves = tt
  each_known (f ∷ fs) stand keys types moves =
      let c : Class = a_class f in
      let cs : List Class = map a_class fs in
      let t = both_empty (s5 (before p) c) (flat_map (s5 (before p)) cs) (sym (flat_map-cons (s5 (before p)) c cs) ∙ types) in
      let m = both_empty (s9 (all p) c) (flat_map (s9 (all p)) cs) (sym (flat_map-cons (s9 (all p)) c cs) ∙ moves) in
      let entries = both_empty (flat_map (types_told (before p) c) f.entries) (flat_map (λ (v : Variable). demand_of 5 c v.name (is_value_type (before p) v.kind)) []) t.0 in
      (face_known (before p) (all p) c (ancestor_in c keys.0) stand.0 entries.0 m.0, each_known fs stand.1 keys.1 t.1 m.1)

  abbrev faces_known : List ClassKey → Type 0
  faces_known ks = All (FaceKnown ks) p.base.classes

  base_ready : faces_known base_directory_of.keys
  base_ready =
      subst faces_known (base_told p.base).keys (All-from_recursion (FaceKnown (keys_of (before p))) p.base.classes
      (each_known p.base.classes base_before (own_keys kernel (base p)) rules.base_types rules.base_moves))

  few_before : AllByRecursion FewEntries (before p)
  few_before = all_joined FewEntries kernel (base p) kernel_few (base_few p.base.classes (recursion_from_All FaceWithin p.base.classes within.each_face))

  base_is_directory : IsDirectory (class_names base_directory_of) base_directory_of
  base_is_directory =
      directory_is base_directory_of (before p) (base_told p.base) declared_before (names_new kernel (base p) rules.base_names)
      (omega (arith, within.faces, length-map p.base.classes a_class)) few_before

  -- ---- the client's own classes

  is_directory : IsDirectory (class_names directory_of) directory_of
  is_directory =
      let same : kernel ++ (base p ++ own p) ≡ all p = sym (append_assoc kernel (base p) (own p)) in
      let differ : Differ (map name_of (all p)) = subst (λ (l : List Class). Differ (map name_of l)) same (names_new kernel (base p ++ own p) rules.names) in
      let few = few_own modules.Client p.classes (all_map ClassWithin (λ (c : ClassDecl). length c.face.entries ≤ MAX_ENTRIES) (λ c w. w.face.entries) p.classes (recursion_from_All ClassWithin p.classes within.each_class)) in
      directory_is directory_of (all p) (program_told p) (all_joined IsOwn (before p) (own p) declared_before (declared_own modules.Client p.classes)) differ
      (omega (arith, within.faces, within.classes, length-append (before p) (own p), length-map p.base.classes a_class, length-map p.classes (class_in modules.Client)))
      (all_joined FewEntries (before p) (own p) few_before few)

  own_ready : AllByRecursion (ClassReady directory_of) p.classes
  own_ready =
      classes_ready directory_of (all p) (program_told p) modules.Client p.classes (stand_before (before p) (own p) rules.own_parents) rules.own_types rules.own_moves rules.overrides rules.bodies rules.blocks
      (recursion_from_All ClassWithin p.classes within.each_class)

  -- ---- main

  abbrev main_told : Ruled Scope → List RuleBreach
  main_told (Ok scope) = []
  main_told (Err rule) = record { rule = rule; class = codes "main"; member = codes "-" } ∷ []

  main_scope : (r : Ruled Scope) → main_told r ≡ [] → (scope : Scope) × (r ≡ Ok scope)
  main_scope (Ok scope) h = (scope, refl)
  main_scope (Err rule) h = absurd cc

  main_is_ready : BlockReady directory_of p.main
  main_is_ready =
      let t = main_scope (block_scope (class_facts (all p)) in_main p.main []) rules.main in
      typed_is_ready (class_facts (all p)) directory_of (covers (all p) directory_of (program_told p)) in_main [] t.0 p.main within.main t.1

-- ---- what numbering asks of a client program

pub record IsReady (p : ClientProgram) : Type 0 where
  pub base_directory : IsDirectory (class_names (interface_directory p.base)) (interface_directory p.base)
  pub base : All (FaceKnown (interface_directory p.base).keys) p.base.classes
  pub directory : IsDirectory (class_names (program_directory p)) (program_directory p)
  pub classes : All (ClassKnown (program_directory p)) p.classes
  pub main : BlockReady (program_directory p) p.main
  pub turns : ProgramTurns p

pub ready : (p : ClientProgram) → ProgramOk p → IsWithinLimits p → IsReady p
ready p ok within =
    let d : Directory = program_directory p in
    let each = own_ready p ok within in
    record {
      base_directory = base_is_directory p ok within;
      base = base_ready p ok within;
      directory = is_directory p ok within;
      classes = All-from_recursion (ClassKnown d) p.classes (all_map (ClassReady d) (ClassKnown d) (λ c w. w.known) p.classes each);
      main = main_is_ready p ok within;
      turns = program_turns p within (base_ready p ok within) each (main_is_ready p ok within);
    }

-- ---- with what was made of the program

abbrev IsDirectoryOf : Directory → Type 0
IsDirectoryOf d = IsDirectory (class_names d) d

module _ (p : ClientProgram) (is : IsReady p) (d : Directory) (made : d ≡ interface_directory p.base) where
  pub base_named : AreNamed d
  base_named = subst AreNamed (sym made) is.base_directory.named

  pub base_directory : (names : List (List ℕ)) → names ≡ class_names d → IsDirectory names d
  base_directory names e = subst (λ (ns : List (List ℕ)). IsDirectory ns d) (sym e) (subst IsDirectoryOf (sym made) is.base_directory)

  pub base_known : (fs : List ClassFace) → fs ≡ p.base.classes → All (FaceKnown d.keys) fs
  base_known fs same = subst (λ (l : List ClassFace). All (FaceKnown d.keys) l) (sym same) (subst (λ (x : Directory). All (FaceKnown x.keys) p.base.classes) (sym made) is.base)

module _ (p : ClientProgram) (is : IsReady p) (d : Directory) (made : d ≡ program_directory p) where
  pub named_ready : AreNamed d
  named_ready = subst AreNamed (sym made) is.directory.named

  pub directory_ready : (names : List (List ℕ)) → names ≡ class_names d → IsDirectory names d
  directory_ready names e = subst (λ (ns : List (List ℕ)). IsDirectory ns d) (sym e) (subst IsDirectoryOf (sym made) is.directory)

  pub known_ready : (ds : List ClassDecl) → ds ≡ p.classes → All (ClassKnown d) ds
  known_ready ds same = subst (λ (l : List ClassDecl). All (ClassKnown d) l) (sym same) (subst (λ (x : Directory). All (ClassKnown x) p.classes) (sym made) is.classes)

  pub main_ready : BlockReady d p.main
  main_ready = subst (λ (x : Directory). BlockReady x p.main) (sym made) is.main

-- few classes, behind a slice too
pub few_ready : (p : ClientProgram) → IsWithinLimits p → (ds : List ClassDecl) → ds ≡ p.classes → length p.base.classes + 4 + length ds < 2 ^ 16
few_ready p within ds same = omega (arith, within.faces, within.classes, ap (length {A = ClassDecl}) same)

abbrev wire : List WireFace → List WireFace → List WirePart → List WireSelects → WireBlock → WireProgram
wire bs fs ps ss m = record { base = bs; faces = fs; parts = ps; selects = ss; main = m }

abbrev faces_by : List ClassKey → List ClassDecl → List WireFace
faces_by l cs = map (λ (c : ClassDecl). face_numbered l c.face) cs

-- the faces, the parts, the selects and main are those of the program
pub numbered_is : (p : ClientProgram) (d : Directory) (ds : List ClassDecl) (bs fs : List WireFace) (ps : List WirePart) (ss : List WireSelects) (m : WireBlock) → d ≡ program_directory p → ds ≡ p.classes → bs ≡ (program_numbered p).base
    → fs ≡ faces_by d.keys ds → ps ≡ map (part_numbered d) ds → ss ≡ selects_numbered d (length p.base.classes + 4) ds → m ≡ block_numbered d p.main → wire bs fs ps ss m ≡ program_numbered p
numbered_is p d ds bs fs ps ss m made same base faces parts selects main =
    let own : Directory = program_directory p in
    let first : ℕ = length p.base.classes + 4 in
    let b : List WireFace = (program_numbered p).base in
    let f : List WireFace = faces_by own.keys p.classes in
    let q : List WirePart = map (part_numbered own) p.classes in
    let s : List WireSelects = selects_numbered own first p.classes in
    ap (λ (l : List WireFace). wire l fs ps ss m) base
    ∙ ap (λ (l : List WireFace). wire b l ps ss m) (faces ∙ ap (λ (x : Directory). faces_by x.keys ds) made ∙ ap (faces_by own.keys) same)
    ∙ ap (λ (l : List WirePart). wire b f l ss m) (parts ∙ ap (λ (x : Directory). map (part_numbered x) ds) made ∙ ap (map (part_numbered own)) same)
    ∙ ap (λ (l : List WireSelects). wire b f q l m) (selects ∙ ap (λ (x : Directory). selects_numbered x first ds) made ∙ ap (selects_numbered own first) same)
    ∙ ap (λ (x : WireBlock). wire b f q s x) (main ∙ ap (λ (x : Directory). block_numbered x p.main) made)

-- ---- what was numbered

pub turned_names : (p : ClientProgram) → ProgramTurns p → (result : Result WireProgram NoMemory) → IfOk result (λ w. w ≡ program_numbered p) → IfOk result (λ w. program_named w ≡ p)
turned_names p t (Ok w) e = ap program_named e ∙ t.names
turned_names p t (Err x) e = tt

pub turned_fits : (p : ClientProgram) → ProgramTurns p → (result : Result WireProgram NoMemory) → IfOk result (λ w. w ≡ program_numbered p) → IfOk result FitsProgram
turned_fits p t (Ok w) e = subst FitsProgram (sym e) t.fits
turned_fits p t (Err x) e = tt
