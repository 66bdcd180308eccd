-- A release that conforms and is within the limits names nothing that isn't there: so it can be numbered.
use Rattle.std.proofs.Common.{◌≡◌, ℕ, ◌+◌, ◌<◌, ◌≤◌, ◌^◌, List, [], ◌++◌, length, map, sym, ap, subst, ◌∙◌, arith}
use Rattle.std.specs.Prelude.{flat_map, All}
use Rattle.std.specs.List.{AllByRecursion}
use Rattle.std.proofs.lemmas.List.Elements.{All-from_recursion, recursion_from_All}
use Rattle.som_model.specs.declared.limits.TheConstants.{MAX_ENTRIES}
use Rattle.som_model.specs.declared.key.Module.TheVariants as modules
use Rattle.som_model.specs.declared.key.ClassKey.{ClassKey}
use Rattle.som_model.specs.declared.class.ClassDecl.{ClassDecl}
use Rattle.som_model.specs.declared.program.Release.{Release}
use Rattle.som_model.specs.Lists.{first}
use Rattle.som_model.specs.Class.{Class}
use Rattle.som_model.specs.Classes.{library_classes}
use Rattle.som_model.specs.Kernel.{kernel}
use Rattle.som_model.specs.Rules.{s1, s2, s5, s6, s7, s8, s9, s10, s14}
use Rattle.som_model.specs.Conforming.{each_after, class_typed, ReleaseOk}
use Rattle.som_image_fields.specs.declared.face.WireFace.{WireFace}
use Rattle.som_image_fields.specs.declared.syntax.WirePart.{WirePart}
use Rattle.som_image_fields.specs.declared.selects.WireSelects.{WireSelects}
use Rattle.som_image_decode.specs.declared.directory.Directory.{Directory}
use Rattle.som_image_decode.specs.Naming.{release_directory}
use Rattle.som_image_encode.specs.Numbering.{class_names, AreNamed, IsDirectory}
use Rattle.som_image_decode.proofs.Places.{all_map}
use Rattle.som_libimage.specs.declared.wire.WireRelease.{WireRelease}
use Rattle.som_image_classes.specs.ClassLimits.{ClassWithin}
use Rattle.som_libimage.specs.Limits.{IsWithinLimits}
use Rattle.som_image_encode.specs.NumberedClasses.{ClassKnown, face_numbered, part_numbered, selects_numbered}
use Rattle.som_libimage.specs.Numbering.{release_numbered}
use Rattle.som_image_classes.proofs.Conforming.{neither_is, none_first}
use Rattle.som_image_laws.proofs.NumberedParts.{ClassReady}
use Rattle.som_libimage.proofs.NumberedReleases.{told, is_directory, ReleaseTurns, release_turns}
use Rattle.som_image_laws.proofs.ReadyClasses.{names_new, stand_before, classes_ready}

-- ---- the rules that are used of a release

record Holds (r : Release) : Type 0 where
  names : each_after s1 kernel (library_classes r) ≡ []
  parents : each_after s2 kernel (library_classes r) ≡ []
  types : flat_map (s5 (kernel ++ library_classes r)) (library_classes r) ≡ []
  moves : flat_map (s9 (kernel ++ library_classes r)) (library_classes r) ≡ []
  overrides : flat_map (s10 (kernel ++ library_classes r)) (library_classes r) ≡ []
  bodies : flat_map s14 (library_classes r) ≡ []
  blocks : flat_map (class_typed (kernel ++ library_classes r)) (library_classes r) ≡ []

holds : (r : Release) → ReleaseOk r → Holds r
holds r ok =
    let own = library_classes r in
    let all = kernel ++ own in
    let names = neither_is _ _ ok.rules in
    let n1 = neither_is _ _ names.0 in
    let n2 = neither_is _ _ n1.1 in
    let types = neither_is _ _ names.1 in
    let members = neither_is _ _ types.1 in
    let m6 = neither_is (first (flat_map s6 own)) _ members.0 in
    let m7 = neither_is (first (flat_map s7 own)) _ m6.1 in
    let m8 = neither_is (first (flat_map (s8 all) own)) _ m7.1 in
    let m9 = neither_is (first (flat_map (s9 all) own)) _ m8.1 in
    record {
      names = none_first (each_after s1 kernel (library_classes r)) n1.0;
      parents = none_first (each_after s2 kernel (library_classes r)) n2.0;
      types = none_first (flat_map (s5 (kernel ++ library_classes r)) (library_classes r)) types.0;
      moves = none_first (flat_map (s9 (kernel ++ library_classes r)) (library_classes r)) m9.0;
      overrides = none_first (flat_map (s10 (kernel ++ library_classes r)) (library_classes r)) m9.1;
      bodies = none_first (flat_map s14 (library_classes r)) members.1;
      blocks = none_first (flat_map (class_typed (kernel ++ library_classes r)) (library_classes r)) ok.blocks;
    }

-- what numbering asks of a release
pub record IsReady (r : Release) : Type 0 where
  pub directory : IsDirectory (class_names (release_directory r)) (release_directory r)
  pub classes : All (ClassKnown (release_directory r)) r.classes
  pub turns : ReleaseTurns r

pub ready : (r : Release) → ReleaseOk r → IsWithinLimits r → IsReady r
ready r ok within =
    let ds : List ClassDecl = r.classes in
    let d : Directory = release_directory r in
    let cs : List Class = kernel ++ library_classes r in
    let h = holds r ok in
    let limits = recursion_from_All ClassWithin ds within.each_class in
    let each : AllByRecursion (ClassReady d) ds = classes_ready d cs (told r) modules.Library ds (stand_before kernel (library_classes r) h.parents) h.types h.moves h.overrides h.bodies h.blocks limits in
    record {
      directory = is_directory r within.classes (names_new kernel (library_classes r) h.names) (all_map ClassWithin (λ (c : ClassDecl). length c.face.entries ≤ MAX_ENTRIES) (λ c w. w.face.entries) ds limits);
      classes = All-from_recursion (ClassKnown d) ds (all_map (ClassReady d) (ClassKnown d) (λ c w. w.known) ds each);
      turns = release_turns r within.classes each;
    }

-- ---- with what was made of the release

abbrev wire : List WireFace → List WirePart → List WireSelects → WireRelease
wire fs ps ss = record { faces = fs; parts = ps; selects = ss }

abbrev faces_by : List ClassKey → List ClassDecl → List WireFace
faces_by l cs = map (λ (c : ClassDecl). face_numbered l c.face) cs

module _ (r : Release) (is : IsReady r) (d : Directory) (made : d ≡ release_directory r) where
  pub named_ready : AreNamed d
  named_ready = subst AreNamed (sym made) is.directory.named

  pub directory_ready : (names : List (List ℕ)) → names ≡ class_names d → IsDirectory names d
  directory_ready names e = subst (λ (ns : List (List ℕ)). IsDirectory ns d) (sym e) (subst (λ (x : Directory). IsDirectory (class_names x) x) (sym made) is.directory)

  pub known_ready : (ds : List ClassDecl) → ds ≡ r.classes → All (ClassKnown d) ds
  known_ready ds same = subst (λ (l : List ClassDecl). All (ClassKnown d) l) (sym same) (subst (λ (x : Directory). All (ClassKnown x) r.classes) (sym made) is.classes)

-- few classes, behind a slice too
pub few_ready : (r : Release) → IsWithinLimits r → (ds : List ClassDecl) → ds ≡ r.classes → 4 + length ds < 2 ^ 16
few_ready r within ds same = omega (arith, within.classes, ap (length {A = ClassDecl}) same)

-- the faces, the parts and the selects are those of the release
pub numbered_is : (r : Release) (d : Directory) (ds : List ClassDecl) (fs : List WireFace) (ps : List WirePart) (ss : List WireSelects) → d ≡ release_directory r → ds ≡ r.classes
    → fs ≡ faces_by d.keys ds → ps ≡ map (part_numbered d) ds → ss ≡ selects_numbered d 4 ds → wire fs ps ss ≡ release_numbered r
numbered_is r d ds fs ps ss made same faces parts selects =
    let own : Directory = release_directory r in
    let f : List WireFace = faces_by own.keys r.classes in
    let p : List WirePart = map (part_numbered own) r.classes in
    ap (λ (l : List WireFace). wire l ps ss) (faces ∙ ap (λ (x : Directory). faces_by x.keys ds) made ∙ ap (faces_by own.keys) same)
    ∙ ap (λ (l : List WirePart). wire f l ss) (parts ∙ ap (λ (x : Directory). map (part_numbered x) ds) made ∙ ap (map (part_numbered own)) same)
    ∙ ap (λ (l : List WireSelects). wire f p l) (selects ∙ ap (λ (x : Directory). selects_numbered x 4 ds) made ∙ ap (selects_numbered own 4) same)
