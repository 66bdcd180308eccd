-- Releases of the lowest level: their interfaces can be loaded, and newer ones keep what older ones promised.
use Rattle.std.proofs.Common.{◌≡◌, List, [], ◌∷◌, ◌++◌, append-nil, flat_map, map, refl, sym, ap, ◌∙◌, subst}
use Rattle.som_model.specs.declared.key.Module.TheVariants as modules
use Rattle.som_model.specs.declared.key.ClassKey.{ClassKey}
use Rattle.som_model.specs.declared.class.ClassDecl.{ClassDecl}
use Rattle.som_model.specs.declared.class.ClassFace.{ClassFace}
use Rattle.som_model.specs.declared.program.Release.{Release}
use Rattle.som_model.specs.Lists.{first, or_else}
use Rattle.som_model.specs.Hierarchy.{Hierarchy}
use Rattle.som_model.specs.Ancestors.{Descends}
use Rattle.som_model.specs.Class.{Class, bare, class_in, interface_of}
use Rattle.som_model.specs.Classes.{hierarchy, interface_classes, library_classes}
use Rattle.som_model.specs.Compatible.{Compatible}
use Rattle.som_model.specs.Kernel.{kernel}
use Rattle.som_model.specs.Rules.{s14, s5}
use Rattle.som_model.specs.Conforming.{ReleaseOk, first_of_members, first_of_names}
use Rattle.som_model.specs.Loads.{FacesLoad}
use Rattle.som_model_laws.proofs.Lists.{map_mem}
use Rattle.som_verify_classes.proofs.Conformity.{or_none}
use Rattle.som_verify_classes.proofs.FacesOnly.{face_only, introduces_faces}
use Rattle.som_verify_classes.proofs.Outlines.{outline, same_hierarchy}
use Rattle.som_release_laws.specs.Releasing.{AreKept, Once}
use Rattle.som_release_laws.proofs.Accepting.{keeps, shown_ordered}
use Rattle.som_release_laws.proofs.KeptOwners.{once_kept}
use Rattle.som_release_laws.proofs.Lists.{flat_at}
use Rattle.som_release_laws.proofs.Ruled.{faces_load, library_own, nothing, released_once}
use Rattle.som_level_laws.specs.Levels.{CompatibleLevels}
use Rattle.som_flat_laws.proofs.MadeOver.{faces_alone}

library_load : (r : Release) → ReleaseOk r → FacesLoad (library_classes r)
library_load r ok =
    let cs = library_classes r in
    let all = kernel ++ cs in
    let a = or_none (first_of_names kernel cs) (or_else (first (flat_map (s5 all) cs)) (or_else (first_of_members kernel cs) (first (flat_map s14 cs)))) ok.rules in
    let b = or_none (first (flat_map (s5 all) cs)) (or_else (first_of_members kernel cs) (first (flat_map s14 cs))) a.1 in
    let d = or_none (first_of_members kernel cs) (first (flat_map s14 cs)) b.1 in
    faces_load cs (library_own r.classes) a.0 d.0 (λ c m. flat_at (s5 all) cs c (nothing (flat_map (s5 all) cs) b.0) m)

-- the interface of a release has its faces alone
pub shown_faces : (ds : List ClassDecl) → map face_only (map (class_in modules.Library) ds) ≡ map (λ (f : ClassFace). class_in modules.Library (bare f)) (map (λ (d : ClassDecl). d.face) ds)
shown_faces [] = refl
shown_faces (d ∷ ds) = ap (λ l. class_in modules.Library (bare d.face) ∷ l) (shown_faces ds)

pub shown_load : (r : Release) → ReleaseOk r → FacesLoad (interface_classes (interface_of r))
shown_load r ok = subst FacesLoad (shown_faces r.classes) (faces_alone (library_classes r) (library_load r ok))

outline_faces : (cs : List Class) → map outline (map face_only cs) ≡ map outline cs
outline_faces [] = refl
outline_faces (c ∷ cs) = ap (λ z. outline c ∷ z) (outline_faces cs)

once_alone : (cs : List Class) → Once (kernel ++ cs) cs → Once (kernel ++ map face_only cs) (map face_only cs)
once_alone cs once c a b name m d e i j =
    let all = kernel ++ cs in
    let same : hierarchy (map face_only all) ≡ hierarchy all = same_hierarchy (map face_only all) all (outline_faces all) in
    let r = map_mem face_only c cs m in
    let key : c.key ≡ r.0.key = ap (λ (z : Class). z.key) r.2 in
    let down : (k : ClassKey) → Descends (hierarchy (map face_only all)) c.key k → Descends (hierarchy all) r.0.key k =
    λ k x. subst (λ z. Descends (hierarchy all) z k) key (subst (λ (h : Hierarchy ClassKey). Descends h c.key k) same x) in
    once r.0 a b name r.1 (down a d) (down b e) (sym (introduces_faces all name a) ∙ i) (sym (introduces_faces all name b) ∙ j)

shown_once : (r : Release) → ReleaseOk r → Once (kernel ++ interface_classes (interface_of r)) (interface_classes (interface_of r))
shown_once r ok = subst (λ (z : List Class). Once (kernel ++ z) z) (shown_faces r.classes) (once_alone (library_classes r) (released_once r ok))

of_one : (xs ys : List Class) → AreKept xs ys → AreKept (xs ++ []) (ys ++ [])
of_one xs ys k = subst (λ (z : List Class). AreKept z (ys ++ [])) (sym (append-nil xs)) (subst (λ (z : List Class). AreKept xs z) (sym (append-nil ys)) k)

pub shown_level : (r : Release) → ReleaseOk r → FacesLoad (interface_classes (interface_of r) ++ [])
shown_level r ok = subst FacesLoad (sym (append-nil (interface_classes (interface_of r)))) (shown_load r ok)

-- compatible releases are compatible as one level
pub lowest_kept : (old new : Release) → ReleaseOk old → ReleaseOk new → Compatible (interface_of old) (interface_of new) → CompatibleLevels (interface_of old ∷ []) (interface_of new ∷ [])
lowest_kept old new a b e =
    let xs = interface_classes (interface_of old) in
    let ys = interface_classes (interface_of new) in
    let keep = keeps (interface_of old) (interface_of new) (shown_ordered old a) (shown_ordered new b) e in
    of_one xs ys (keep, once_kept xs ys [] (shown_level old a) (shown_load new b) keep (λ c d m n. absurd n) (shown_once new b))
