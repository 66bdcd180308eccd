-- Levels that were each made over older ones, which those below them keep, can be loaded together.
use Rattle.std.proofs.Common.{◌≡◌, ℕ, zero, suc, List, [], ◌∷◌, ◌++◌, append_assoc, append-nil, flat_map, None, refl, sym, subst}
use Rattle.som_model.specs.declared.key.Module.TheVariants as modules
use Rattle.som_model.specs.declared.program.Interface.{Interface}
use Rattle.som_model.specs.Lists.{Mem, first, or_else}
use Rattle.som_model.specs.Class.{Class}
use Rattle.som_model.specs.Kernel.{kernel}
use Rattle.som_model.specs.Rules.{s5}
use Rattle.som_model.specs.Conforming.{faces_breach, first_of_members, first_of_names}
use Rattle.som_model.specs.Loads.{FacesLoad, HasOwnKey}
use Rattle.som_verify_classes.proofs.Conformity.{or_none}
use Rattle.som_release_laws.proofs.Lists.{flat_at}
use Rattle.som_release_laws.proofs.Ruled.{faces_load, nothing}
use Rattle.som_level_laws.specs.Levels.{level_classes, level_module}
use Rattle.som_level_laws.proofs.Levels.{stands_at}
use Rattle.som_level_laws.proofs.Stays.{levels_stand}
use Rattle.som_flat_laws.specs.Made.{AreMadeLevels, AreMadeOver, IsMadeOver}

not_kernels : (k : ℕ) → level_module k ≡ modules.Kernel → ⊥
not_kernels zero e = absurd (cc)
not_kernels (suc k) e = absurd (cc)

-- a class of levels has a key of its own
pub level_own : (is : List Interface) (c : Class) → Mem c (level_classes is) → HasOwnKey c
level_own is c m = let r = stands_at 0 is c m in record { module_ = level_module r.level; outside = not_kernels r.level; is = r.is }

-- classes with keys of their own that break no rule can be loaded together
unbroken_load : (cs : List Class) → ((c : Class) → Mem c cs → HasOwnKey c) → faces_breach cs ≡ None → FacesLoad cs
unbroken_load cs own e =
    let types = flat_map (s5 (kernel ++ cs)) cs in
    let a = or_none (first_of_names kernel cs) (or_else (first types) (first_of_members kernel cs)) e in
    let b = or_none (first types) (first_of_members kernel cs) a.1 in
    faces_load cs own a.0 b.1 (λ c m. flat_at (s5 (kernel ++ cs)) cs c (nothing types b.0) m)

pub unbroken_levels : (is : List Interface) → faces_breach (level_classes is) ≡ None → FacesLoad (level_classes is)
unbroken_levels is e = unbroken_load (level_classes is) (level_own is) e

-- one more level
one_more : (below : List Interface) (own : Interface) → FacesLoad (level_classes below) → IsMadeOver below own → FacesLoad (level_classes (below ++ own ∷ []))
one_more below own f m = levels_stand m.olds below (own ∷ []) m.as_many m.faces f m.compatible

over_load : (below above : List Interface) → FacesLoad (level_classes below) → AreMadeOver below above → FacesLoad (level_classes (below ++ above))
over_load below [] f m = subst (λ z. FacesLoad (level_classes z)) (sym (append-nil below)) f
over_load below (own ∷ above) f m =
    subst (λ z. FacesLoad (level_classes z)) (append_assoc below (own ∷ []) above) (over_load (below ++ own ∷ []) above (one_more below own f m.0) m.1)

pub made_load : (is : List Interface) → AreMadeLevels is → FacesLoad (level_classes is)
made_load is m = over_load [] is (unbroken_levels [] refl) m
