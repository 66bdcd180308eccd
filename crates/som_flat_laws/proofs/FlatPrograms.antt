-- A program that was compiled against the flat interface was, by levels, compiled against the levels by owners, and can be loaded with all that keeps what the levels promise.
use Rattle.std.proofs.Common.{◌≡◌, ℕ, Bool, List, [], ◌++◌, length, map, sym, ap, ◌∙◌, subst}
use Rattle.std.specs.Prelude.{sum}
use Rattle.std.specs.Str.{bytes_eq}
use Rattle.som_model.specs.declared.class.ClassFace.{ClassFace}
use Rattle.som_model.specs.declared.program.Interface.{Interface}
use Rattle.som_model.specs.declared.program.ClientProgram.{ClientProgram}
use Rattle.som_model.specs.Lists.{doubles}
use Rattle.som_model.specs.Class.{Class}
use Rattle.som_model.specs.Classes.{client_classes, interface_classes}
use Rattle.som_model.specs.Conforming.{ProgramOk}
use Rattle.som_model.specs.Rules.{name_of}
use Rattle.som_model.specs.Loads.{FacesLoad}
use Rattle.som_model.proofs.KeyLaws.{exact_bytes}
use Rattle.som_model_laws.proofs.Lists.{doubles_apart}
use Rattle.som_model_laws.proofs.Members.{Apart}
use Rattle.som_release_laws.specs.Releasing.{AreKept, HaveParents, IsCompiled}
use Rattle.som_release_laws.proofs.Along.{kept_along}
use Rattle.som_release_laws.proofs.Ruled.{compiled}
use Rattle.som_rekey_laws.specs.Rekeying.{rekey_classes}
use Rattle.som_level_laws.specs.Levels.{level_classes}
use Rattle.som_level_programs.specs.ByLevels.{level_change, levels_below, main_by_level, own_by_level}
use Rattle.som_level_programs.proofs.LevelClasses.{base_classes}
use Rattle.som_level_programs.proofs.LevelPrograms.{base_differs, program_compiled}
use Rattle.som_flat_laws.specs.Flat.{flat_interface, levels_by_owners, sizes_of}
use Rattle.som_flat_laws.proofs.Kept.{load, old_kept}
use Rattle.som_flat_laws.proofs.Placing.{flat_by_levels, flat_count, flat_names}

module _ (is : List Interface) (f : FacesLoad (level_classes is)) (p : ClientProgram) (client : Bool) (same : p.base ≡ flat_interface is) (ok : ProgramOk p) (have : HaveParents (interface_classes p.base ++ client_classes p)) where
  abbrev names_in : List ClassFace → List (List ℕ)
  names_in faces = map (λ (face : ClassFace). face.name) faces

  fits : sum (sizes_of is) ≡ length p.base.classes
  fits = flat_count is ∙ ap (λ (i : Interface). length i.classes) (sym same)

  differ : doubles bytes_eq [] (names_in p.base.classes) ≡ []
  differ = base_differs p.base (client_classes p) (compiled p ok have).faces.ordered

  apart : Apart (map name_of (level_classes is))
  apart = subst Apart (ap (λ (i : Interface). names_in i.classes) same ∙ flat_names is) (doubles_apart bytes_eq exact_bytes (names_in p.base.classes) differ)

  -- the levels below the program are the levels by owners
  pub below_are : level_classes (levels_below (sizes_of is) client p.base) ≡ levels_by_owners is
  below_are =
      sym (base_classes (sizes_of is) client p.base fits differ)
      ∙ ap (λ (i : Interface). rekey_classes (level_change (sizes_of is) client i) (interface_classes i)) same
      ∙ flat_by_levels is f apart client

  pub flat_compiled : IsCompiled (levels_by_owners is) (own_by_level (sizes_of is) client p) (main_by_level (sizes_of is) client p)
  flat_compiled =
      subst (λ (z : List Class). IsCompiled z (own_by_level (sizes_of is) client p) (main_by_level (sizes_of is) client p)) below_are
      (program_compiled p (sizes_of is) client fits ok have)

-- what keeps all that the levels promise keeps what programs were compiled against
pub flat_kept : (is : List Interface) → FacesLoad (level_classes is) → (news : List Class) → FacesLoad news → AreKept (level_classes is) news → AreKept (levels_by_owners is) news
flat_kept is f news fn k = kept_along (levels_by_owners is) (level_classes is) news (load (level_classes is) f) f fn (old_kept (level_classes is) f) k
