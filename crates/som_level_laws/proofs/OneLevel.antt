-- Of one level, compatibility of levels is that of interfaces.
use Rattle.std.proofs.Common.{◌≡◌, List, [], ◌∷◌, ◌++◌, append-nil, flat_map, None, sym, subst}
use Rattle.som_model.specs.declared.program.Interface.{Interface}
use Rattle.som_model.specs.Lists.{first, or_else}
use Rattle.som_model.specs.Rules.{s5}
use Rattle.som_model.specs.Class.{Class}
use Rattle.som_model.specs.Classes.{interface_classes}
use Rattle.som_model.specs.Kernel.{kernel}
use Rattle.som_model.specs.Compatible.{Compatible}
use Rattle.som_model.specs.Conforming.{faces_breach, first_of_members, first_of_names}
use Rattle.som_model.specs.Loads.{FacesLoad}
use Rattle.som_verify_classes.proofs.Conformity.{or_none}
use Rattle.som_release_laws.specs.Releasing.{AreKept, Once}
use Rattle.som_release_laws.proofs.Accepting.{kept, keeps}
use Rattle.som_release_laws.proofs.KeptOwners.{once_kept}
use Rattle.som_release_laws.proofs.Lists.{flat_at}
use Rattle.som_release_laws.proofs.Ruled.{face_own, faces_load, nothing, once_all}
use Rattle.som_level_laws.specs.Levels.{CompatibleLevels}

-- an interface that breaks no rule can stand, and no two ancestors of one of its classes introduce one name
stands : (i : Interface) → faces_breach (interface_classes i) ≡ None → FacesLoad (interface_classes i) × Once (kernel ++ interface_classes i) (interface_classes i)
stands i e =
    let cs = interface_classes i in
    let types = flat_map (s5 (kernel ++ cs)) cs in
    let a = or_none (first_of_names kernel cs) (or_else (first types) (first_of_members kernel cs)) e in
    let b = or_none (first types) (first_of_members kernel cs) a.1 in
    let own = face_own i.classes in
    (faces_load cs own a.0 b.1 (λ c m. flat_at (s5 (kernel ++ cs)) cs c (nothing types b.0) m), once_all cs own a.0 b.1)

to_one : (xs ys : List Class) → AreKept (xs ++ []) (ys ++ []) → AreKept xs ys
to_one xs ys k = subst (λ (z : List Class). AreKept xs z) (append-nil ys) (subst (λ (z : List Class). AreKept z (ys ++ [])) (append-nil xs) k)

of_one : (xs ys : List Class) → AreKept xs ys → AreKept (xs ++ []) (ys ++ [])
of_one xs ys k = subst (λ (z : List Class). AreKept z (ys ++ [])) (sym (append-nil xs)) (subst (λ (z : List Class). AreKept xs z) (sym (append-nil ys)) k)

module _ (old new : Interface) (eo : faces_breach (interface_classes old) ≡ None) (en : faces_breach (interface_classes new) ≡ None) where
  pub levels_interface : CompatibleLevels (old ∷ []) (new ∷ []) → Compatible old new
  levels_interface k = kept old new (stands old eo).0.ordered (stands new en).0.ordered (to_one (interface_classes old) (interface_classes new) k).0

  pub interface_levels : Compatible old new → CompatibleLevels (old ∷ []) (new ∷ [])
  interface_levels e =
      let a = stands old eo in
      let b = stands new en in
      let keep = keeps old new a.0.ordered b.0.ordered e in
      of_one (interface_classes old) (interface_classes new) (
        keep,
        once_kept (interface_classes old) (interface_classes new) [] (subst FacesLoad (sym (append-nil (interface_classes old))) a.0) b.0 keep (λ c d m n x. n) b.1,
      )
