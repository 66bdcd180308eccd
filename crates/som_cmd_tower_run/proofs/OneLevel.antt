-- With one level a tower is its library with the client, as they are without a tower.
use Rattle.std.proofs.Common.{◌≡◌, ◌↔◌, ◌++◌, ℕ, zero, suc, Bool, true, false, if◌then◌else◌, List, [], ◌∷◌, length, map, take, Option, Some, None, refl, sym, ap, ◌∙◌, subst, arith}
use Rattle.std.specs.Prelude.{sum}
use Rattle.std.specs.Option.{option_map}
use Rattle.std.proofs.lemmas.List.Sums.{sum_by-cons}
use Rattle.som_model.specs.declared.key.Module.{Module}
use Rattle.som_model.specs.declared.key.Module.TheVariants as modules
use Rattle.som_model.specs.declared.key.ClassKey.{ClassKey}
use Rattle.som_model.specs.declared.class.ClassDecl.{ClassDecl}
use Rattle.som_model.specs.declared.class.ClassFace.{ClassFace}
use Rattle.som_model.specs.declared.program.Interface.{Interface}
use Rattle.som_model.specs.declared.program.Release.{Release}
use Rattle.som_model.specs.declared.program.ClientProgram.{ClientProgram}
use Rattle.som_model.specs.declared.syntax.Block.{Block}
use Rattle.som_model.specs.Ancestors.{Descends}
use Rattle.som_model.specs.Bytes.{Files}
use Rattle.som_model.specs.Class.{Class, class_in, interface_of}
use Rattle.som_model.specs.Classes.{classes, client_classes, hierarchy, interface_classes, library_classes}
use Rattle.som_model.specs.Compatible.{CompatBreach, Compatible, first_break}
use Rattle.som_model.specs.Conforming.{ReleaseOk}
use Rattle.som_model.specs.Hierarchy.{Hierarchy}
use Rattle.som_model.specs.Kernel.{kernel}
use Rattle.som_model.specs.Lists.{among}
use Rattle.som_model_laws.proofs.Lists.{map_mem}
use Rattle.som_model_laws.proofs.Members.{map_on}
use Rattle.som_verify_classes.proofs.FacesOnly.{face_only, introduces_faces}
use Rattle.som_verify_classes.proofs.Outlines.{outline, same_hierarchy}
use Rattle.som_semantics.specs.Means.{means, means_in}
use Rattle.som_semantics.specs.RunText.{no_trace, run_status, run_text}
use Rattle.som_semantics.specs.Runs.{Ran}
use Rattle.som_semantics.specs.World.{world}
use Rattle.som_release_laws.specs.Releasing.{Once}
use Rattle.som_release_laws.proofs.Ruled.{released_once}
use Rattle.som_rekey_laws.specs.Rekeying.{rekey_decl, rekey_face}
use Rattle.som_level_laws.specs.Levels.{first_level_break}
use Rattle.som_level_programs.specs.ByLevels.{level_change, levels_below, main_by_level, own_by_level}
use Rattle.som_level_programs.proofs.Counted.{program_parents}
use Rattle.som_level_programs.proofs.LevelsStand.{base_stands}
use Rattle.som_flat_laws.proofs.Lowest.{shown_faces, shown_load}
use Rattle.som_libimage.proofs.Decoded.{image_within as release_within}
use Rattle.som_link_limits.proofs.Classes.{program_counts, release_counts}
use Rattle.som_towerimage.specs.declared.level.Level.{Level}
use Rattle.som_tower.specs.Towers.{IsTowerOf, programs_above, tower_break}
use Rattle.som_tower.proofs.Breaking.{breaks_at, or_none}
use Rattle.som_io.specs.Outside.{ShowsAll}
use Rattle.som_cmd_steps.specs.Outcomes.{EndsAs}
use Rattle.som_cmd_levels.proofs.Stored.{stored_within}
use Rattle.som_cmd_run.specs.RunEnds.{RunsAs, TellsNotKept}
use Rattle.som_cmd_tower_run.specs.TowerRunAnswer.{IsTowerRunAnswer, tower_means}
use Rattle.som_cmd_tower_run.specs.TowerRunEnds.{IsTowerUnder}
use Rattle.som_cmd_tower_run.proofs.FirstBreaks.{level_first}
use Rattle.som_cmd_tower_run.proofs.SameKeys.{all_same, block_same, decl_same, face_same}
use Rattle.som_cmd_tower_run.proofs.TowerRunEndLaws.{means_by, unkept_by}

-- ---- naming by one level changes no name

library_stays : (b : Bool) → (if b then modules.Library else modules.Library) ≡ modules.Library
library_stays true = refl
library_stays false = refl

stays : (size : ℕ) (base : Interface) (m : Module) (name : List ℕ) → level_change (size ∷ []) true base m name ≡ m
stays size base modules.Kernel name = refl
stays size base modules.Library name = library_stays (among name (map (λ (face : ClassFace). face.name) (take size base.classes)))
stays size base (modules.Upper k) name = refl
stays size base modules.Client name = refl

alone : (sizes : List ℕ) → length sizes ≡ 1 → (size : ℕ) × (sizes ≡ size ∷ [])
alone [] e = absurd (omega (arith, e))
alone (size ∷ []) e = (size, refl)
alone (size ∷ other ∷ sizes) e = absurd (omega (arith, e))

-- what holds of one size and a client
of_client : (P : List ℕ → Bool → Type 0) → ((size : ℕ) → P (size ∷ []) true) → (sizes : List ℕ) (client : Bool) → length sizes ≡ 1 → client ≡ true → P sizes client
of_client P f sizes client long is =
    let size = alone sizes long in
    subst (λ z. P sizes z) (sym is) (subst (λ z. P z true) (sym size.1) (f size.0))

-- ---- so the client means what it means

own_alone : (p : ClientProgram) (sizes : List ℕ) (client : Bool) → length sizes ≡ 1 → client ≡ true → own_by_level sizes client p ≡ client_classes p
own_alone p = of_client (λ sizes client. own_by_level sizes client p ≡ client_classes p) (λ size.
    let f = level_change (size ∷ []) true p.base in
    map_on (λ (d : ClassDecl). class_in modules.Client (rekey_decl f d)) (class_in modules.Client) p.classes (λ d m. ap (class_in modules.Client) (decl_same f (stays size p.base) d)))

main_alone : (p : ClientProgram) (sizes : List ℕ) (client : Bool) → length sizes ≡ 1 → client ≡ true → main_by_level sizes client p ≡ p.main
main_alone p = of_client (λ sizes client. main_by_level sizes client p ≡ p.main) (λ size. block_same (level_change (size ∷ []) true p.base) (stays size p.base) p.main)

pub means_alone : (base : Release) (c : Level) (fuel : ℕ) → c.client ≡ true → length c.sizes ≡ 1 → tower_means base [] c fuel ≡ means base c.program fuel
means_alone base c fuel is long =
    let p = c.program in
    ap (λ (cs : List Class). means_in (world (kernel ++ (library_classes base ++ cs))) (main_by_level c.sizes c.client p) fuel) (own_alone p c.sizes c.client long is)
    ∙ ap (λ (main : Block). means_in (world (classes base p)) main fuel) (main_alone p c.sizes c.client long is)

-- ---- and the level below it is the interface that it was compiled against

take_all : {A : Type 0} (xs : List A) (n : ℕ) → n ≡ length xs → take n xs ≡ xs
take_all [] zero e = refl
take_all [] (suc n) e = refl
take_all (x ∷ xs) zero e = absurd (omega (arith, e))
take_all (x ∷ xs) (suc n) e = ap (λ l. x ∷ l) (take_all xs n (omega (arith, e)))

abbrev interface_with : List ClassFace → Interface
interface_with faces = record { classes = faces }

below_alone : (base : Interface) (sizes : List ℕ) (client : Bool) → length sizes ≡ 1 → client ≡ true → sum sizes ≡ length base.classes → levels_below sizes client base ≡ base ∷ []
below_alone base = of_client (λ sizes client. sum sizes ≡ length base.classes → levels_below sizes client base ≡ base ∷ []) (λ size fits.
    let f = level_change (size ∷ []) true base in
    let all = sum_by-cons (λ (n : ℕ). n) size [] in
    let same : map (rekey_face f) (take size base.classes) ≡ base.classes = all_same (rekey_face f) (face_same f (stays size base)) (take size base.classes) ∙ take_all base.classes size (omega (arith, all, fits)) in
    ap (λ l. interface_with l ∷ []) same)

-- no two ancestors of a class of a release that conforms introduce one name, by the faces alone
outline_faces : (cs : List Class) → map outline (map face_only cs) ≡ map outline cs
outline_faces [] = refl
outline_faces (c ∷ cs) = ap (λ z. outline c ∷ z) (outline_faces cs)

once_alone : (cs : List Class) → Once (kernel ++ cs) cs → Once (kernel ++ map face_only cs) (map face_only cs)
once_alone cs once c a b name m d e i j =
    let all = kernel ++ cs in
    let same : hierarchy (map face_only all) ≡ hierarchy all = same_hierarchy (map face_only all) all (outline_faces all) in
    let r = map_mem face_only c cs m in
    let key : c.key ≡ r.0.key = ap (λ (z : Class). z.key) r.2 in
    let down : (k : ClassKey) → Descends (hierarchy (map face_only all)) c.key k → Descends (hierarchy all) r.0.key k =
    λ k x. subst (λ z. Descends (hierarchy all) z k) key (subst (λ (h : Hierarchy ClassKey). Descends h c.key k) same x) in
    once r.0 a b name r.1 (down a d) (down b e) (sym (introduces_faces all name a) ∙ i) (sym (introduces_faces all name b) ∙ j)

shown_once : (r : Release) → ReleaseOk r → Once (kernel ++ interface_classes (interface_of r)) (interface_classes (interface_of r))
shown_once r ok = subst (λ (z : List Class). Once (kernel ++ z) z) (shown_faces r.classes) (once_alone (library_classes r) (released_once r ok))

-- ---- what is broken first

abbrev at_lowest : CompatBreach → ℕ × CompatBreach
at_lowest b = (0, b)

pub breach_alone : (base : Release) (c : Level) → IsTowerOf base [] c → tower_break (interface_of base ∷ []) (programs_above [] c) ≡ option_map at_lowest (first_break c.program.base (interface_of base))
breach_alone base c t =
    let is = interface_of base ∷ [] in
    let p = c.program in
    let counted = t.sound.counted in
    let levels : length c.sizes ≡ 1 = t.levels in
    or_none (breaks_at is c)
    ∙ ap (λ (olds : List Interface). first_level_break olds is) (below_alone p.base c.sizes c.client levels t.is_client t.sound.fits.classes)
    ∙ level_first p.base (interface_of base) (base_stands p t.sound.conforms (program_parents p counted.each_face counted.each)) (shown_load base t.libraries.base_ok) (shown_once base t.libraries.base_ok)

none_of : (o : Option CompatBreach) → option_map at_lowest o ≡ None → o ≡ None
none_of None e = refl
none_of (Some b) e = absurd (cc)

pub compatible_alone : (base : Release) (c : Level) → IsTowerOf base [] c → (tower_break (interface_of base ∷ []) (programs_above [] c) ≡ None) ↔ Compatible c.program.base (interface_of base)
compatible_alone base c t =
    let same = breach_alone base c t in
    (λ e. none_of (first_break c.program.base (interface_of base)) (sym same ∙ e), λ e. same ∙ ap (option_map at_lowest) e)

-- ---- so what is printed is what `run` prints

module _ (files : Files) (client library : List ℕ) (base : Release) (c : Level) (u : IsTowerUnder files client (library ∷ []) base [] c) where
  tower : IsTowerOf base [] c
  tower = record {
    libraries = record {
      base_ok = u.release.conforms;
      base_counted = release_counts base (release_within base u.release.bytes u.release.spelled);
      each = λ i l e. absurd (cc);
      few = omega arith;
    };
    sound = record { conforms = u.top.conforms; counted = program_counts c.program (stored_within files client c u.top.holds); fits = u.top.holds.fits };
    is_client = u.is_client;
    levels = u.levels;
  }

  module _ (fuel status : ℕ) (left : Option Files) (before after : Option (List ℕ)) (e : EndsAs (IsTowerRunAnswer client (library ∷ []) fuel files) status left before after) where
    pub runs_alone : Compatible c.program.base (interface_of base) → RunsAs c.program base fuel no_trace status before after
    runs_alone kept =
        let r = means_by files client (library ∷ []) base [] c u fuel status left before after e ((compatible_alone base c tower).1 kept) in
        let same = means_alone base c fuel u.is_client u.levels in
        record {
          text = subst (λ (z : Ran (Unit {0})). ShowsAll before after (run_text no_trace z)) same r.text;
          status_is = r.status_is ∙ ap (λ (z : Ran (Unit {0})). run_status z) same;
        }

    pub unkept_alone : (b : CompatBreach) → first_break c.program.base (interface_of base) ≡ Some b → TellsNotKept library b status before after
    unkept_alone b is =
        let r = unkept_by files client (library ∷ []) base [] c u fuel status left before after e 0 b (breach_alone base c tower ∙ ap (option_map at_lowest) is) in
        record { text = r.text; status_is = r.status_is }
