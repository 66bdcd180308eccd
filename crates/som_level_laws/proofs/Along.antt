-- Compatibility of levels goes along lists.
use Rattle.std.proofs.Common.{inl, inr, List, [], ◌∷◌, ◌++◌, map, refl, sym, subst}
use Rattle.std.proofs.lemmas.List.{map-append}
use Rattle.som_model.specs.declared.program.Interface.{Interface}
use Rattle.som_model.specs.Lists.{Mem}
use Rattle.som_model.specs.Class.{Class}
use Rattle.som_model.specs.Compatible.{EachNext}
use Rattle.som_model.specs.Loads.{FacesLoad}
use Rattle.som_model_laws.proofs.Lists.{map_mem, mem_map}
use Rattle.som_release_laws.specs.Releasing.{AreKept}
use Rattle.som_release_laws.proofs.Along.{kept_to_last}
use Rattle.som_level_laws.specs.Levels.{CompatibleLevels, level_classes}

pub at_end : {A : Type 0} (xs : List A) (x : A) → Mem x (xs ++ x ∷ [])
at_end [] x = inl refl
at_end (y ∷ xs) x = inr (at_end xs x)

-- each with the next, as lists of classes
next_classes : (rs : List (List Interface)) → EachNext CompatibleLevels rs → EachNext AreKept (map level_classes rs)
next_classes [] next = tt
next_classes (a ∷ []) next = tt
next_classes (a ∷ b ∷ rs) next = (next.0, next_classes (b ∷ rs) next.1)

stand_classes : (rs : List (List Interface)) → ((is : List Interface) → Mem is rs → FacesLoad (level_classes is)) → (cs : List Class) → Mem cs (map level_classes rs) → FacesLoad cs
stand_classes rs f cs m = let r = map_mem level_classes cs rs m in subst FacesLoad (sym r.2) (f r.0 r.1)

pub levels_to_last : (rs : List (List Interface)) (last olds : List Interface) → ((is : List Interface) → Mem is (rs ++ last ∷ []) → FacesLoad (level_classes is))
    → EachNext CompatibleLevels (rs ++ last ∷ []) → Mem olds (rs ++ last ∷ []) → CompatibleLevels olds last
levels_to_last rs last olds stand next m =
    let parts = map-append level_classes rs (last ∷ []) in
    kept_to_last (map level_classes rs) (level_classes last) (level_classes olds)
    (subst (λ (z : List (List Class)). (cs : List Class) → Mem cs z → FacesLoad cs) parts (stand_classes (rs ++ last ∷ []) stand))
    (subst (λ (z : List (List Class)). EachNext AreKept z) parts (next_classes (rs ++ last ∷ []) next))
    (subst (λ (z : List (List Class)). Mem (level_classes olds) z) parts (mem_map level_classes olds (rs ++ last ∷ []) m))
