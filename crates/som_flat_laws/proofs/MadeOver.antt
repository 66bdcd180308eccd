-- A release that breaks no rule, and a level whose flat program conforms, were made over the levels against which they were compiled.
use Rattle.std.proofs.Common.{◌≡◌, ℕ, zero, suc, ◌≤◌, true, false, not, ◌&&◌, List, [], ◌∷◌, ◌++◌, append-nil, length, map, flat_map, drop, None, IsSome, refl, sym, ap, ◌∙◌, subst, arith}
use Rattle.std.specs.Prelude.{sum}
use Rattle.std.proofs.lemmas.List.{length-append, length-map, map-append}
use Rattle.som_model.specs.declared.key.Module.{Module}
use Rattle.som_model.specs.declared.class.Entry.{Entry}
use Rattle.som_model.specs.declared.class.Entry.TheVariants as entries
use Rattle.som_model.specs.declared.class.ClassDecl.{ClassDecl}
use Rattle.som_model.specs.declared.class.ClassFace.{ClassFace}
use Rattle.som_model.specs.declared.class.Variable.{Variable}
use Rattle.som_model.specs.declared.program.Interface.{Interface}
use Rattle.som_model.specs.Lists.{Mem, every}
use Rattle.som_model.specs.Keys.{same_key}
use Rattle.som_model.specs.Class.{Class, bare, class_in}
use Rattle.som_model.specs.Classes.{client_classes, interface_classes}
use Rattle.som_model.specs.Kernel.{kernel, som_class}
use Rattle.som_model.specs.Conforming.{ProgramOk, faces_breach}
use Rattle.som_model.specs.Owner.{entry_at}
use Rattle.som_model.specs.Rules.{RuleBreach, demand_of, is_known, is_proper, is_value_type, s3, s4, s5, s6, s7}
use Rattle.som_model.specs.Loads.{FacesLoad}
use Rattle.som_model_laws.proofs.Lists.{map_mem}
use Rattle.som_verify_classes.proofs.FacesOnly.{face_only, is_a_faces, known_faces}
use Rattle.som_release_laws.specs.Releasing.{HaveParents}
use Rattle.som_release_laws.proofs.Accepting.{faces_ordered}
use Rattle.som_release_laws.proofs.Along.{kept_itself}
use Rattle.som_release_laws.proofs.FacesAlone.{entry_faces}
use Rattle.som_release_laws.proofs.Facing.{s4_says, says_s4, s5_more}
use Rattle.som_release_laws.proofs.Lists.{both_none, none_left}
use Rattle.som_rekey_laws.specs.Rekeying.{ModuleChange, rekey_decl, rekey_face}
use Rattle.som_rekey_laws.proofs.Lists.{map_twice}
use Rattle.som_level_laws.specs.Levels.{classes_of_level, level_classes, level_module, levels_from}
use Rattle.som_level_laws.proofs.Levels.{levels_joined}
use Rattle.som_level_programs.specs.ByLevels.{level_change, levels_below, own_by_level, own_module, split}
use Rattle.som_level_programs.proofs.LevelPrograms.{program_compiled}
use Rattle.som_level_programs.specs.Towers.{AreStacked, LevelProgram, StandsOn, own_interface}
use Rattle.som_flat_laws.specs.Made.{AreMadeOver, IsMadeOver}
use Rattle.som_flat_laws.proofs.MadeLevels.{unbroken_levels}

-- ---- classes of which the faces alone are left

module _ (cs : List Class) (f : FacesLoad cs) where
  abbrev all : List Class
  all = kernel ++ cs

  abbrev new : List Class
  new = kernel ++ map face_only cs

  each : (P : Class → Type 0) → ((c : Class) → Mem c cs → P (face_only c)) → (c : Class) → Mem c (map face_only cs) → P c
  each P g c m = let r = map_mem face_only c cs m in subst P (sym r.2) (g r.0 r.1)

  abbrev types_of : Class → Entry → List RuleBreach
  types_of c (entries.Introduced name sig way) = demand_of 5 c name (is_known all sig.result && every (is_value_type all) sig.params)
  types_of c (entries.Moved name to) = []

  own_types : (c : Class) → s5 all c ≡ [] → s5 all (face_only c) ≡ []
  own_types c e = both_none (flat_map (types_of c) c.decl.face.entries) [] (none_left (flat_map (types_of c) c.decl.face.entries) (flat_map (λ (v : Variable). demand_of 5 c v.name (is_value_type all v.kind)) c.decl.variables) e).0 refl

  pub faces_alone : FacesLoad (map face_only cs)
  faces_alone = record {
    ordered = faces_ordered cs f.ordered;
    parents = each (λ c. s3 c ≡ []) f.parents;
    descend = each (λ c. s4 new c ≡ []) (λ c m. says_s4 new (face_only c) (λ k is. is_a_faces all k som_class ∙ s4_says all c k (f.descend c m) is));
    types = each (λ c. s5 new c ≡ []) (λ c m. s5_more all new (λ k e. known_faces all k ∙ e) (face_only c) (own_types c (f.types c m)));
    names = each (λ c. s6 c ≡ []) f.names;
    variables = each (λ c. s7 c ≡ []) (λ c m. refl);
    above = λ c name to m n. each (λ z. Mem (entries.Moved name to) z.decl.face.entries → is_proper new z to ≡ true)
        (λ d k i. ap (λ b. not (same_key to d.key) && b) (is_a_faces all d.key to) ∙ f.above d name to k i) c m n;
    there = λ c name to m n. each (λ z. Mem (entries.Moved name to) z.decl.face.entries → IsSome (entry_at new to name))
        (λ d k i. subst (λ z. IsSome z) (sym (entry_faces all to name)) (f.there d name to k i)) c m n;
  }

-- ---- levels have nothing else

module_faces : (m : Module) (faces : List ClassFace) → map face_only (map (λ (face : ClassFace). class_in m (bare face)) faces) ≡ map (λ (face : ClassFace). class_in m (bare face)) faces
module_faces m [] = refl
module_faces m (face ∷ faces) = ap (λ l. class_in m (bare face) ∷ l) (module_faces m faces)

level_faces : (k : ℕ) (is : List Interface) → map face_only (levels_from k is) ≡ levels_from k is
level_faces k [] = refl
level_faces k (i ∷ is) =
    map-append face_only (classes_of_level k i) (levels_from (suc k) is)
    ∙ ap (λ (l : List Class). l ++ map face_only (levels_from (suc k) is)) (module_faces (level_module k) i.classes)
    ∙ ap (λ (l : List Class). classes_of_level k i ++ l) (level_faces (suc k) is)

-- ---- the lowest level

pub lowest_made : (i : Interface) → faces_breach (interface_classes i) ≡ None → IsMadeOver [] i
lowest_made i e = record {
  olds = [];
  as_many = refl;
  faces = unbroken_levels (i ∷ []) (ap faces_breach (append-nil (interface_classes i)) ∙ e);
  compatible = kept_itself [] (unbroken_levels [] refl);
}

-- ---- a level above

own_level : (n : ℕ) → 1 ≤ n → own_module n false ≡ level_module n
own_level zero few = absurd (omega (arith, few))
own_level (suc k) few = refl

as_many : {A : Type 0} (sizes : List ℕ) (xs : List A) → length (split sizes xs) ≡ length sizes
as_many [] xs = refl
as_many (size ∷ sizes) xs = ap suc (as_many sizes (drop size xs))

module _ (l : LevelProgram) where
  abbrev change : ModuleChange
  change = level_change l.sizes l.client l.program.base

  abbrev olds : List Interface
  olds = levels_below l.sizes l.client l.program.base

  abbrev own : Interface
  own = own_interface l

  abbrev own_classes : List Class
  own_classes = own_by_level l.sizes l.client l.program

  pub olds_many : length olds ≡ length l.sizes
  olds_many = length-map (split l.sizes l.program.base.classes) (λ (faces : List ClassFace). record { classes = map (rekey_face change) faces }) ∙ as_many l.sizes l.program.base.classes

  module _ (library : l.client ≡ false) (few : 1 ≤ length l.sizes) where
    own_faces : map face_only own_classes ≡ levels_from (length l.sizes) (own ∷ [])
    own_faces =
        map_twice face_only (λ (d : ClassDecl). class_in (own_module (length l.sizes) l.client) (rekey_decl change d)) l.program.classes
        ∙ ap (λ (m : Module). map (λ (d : ClassDecl). class_in m (bare (rekey_face change d.face))) l.program.classes) (ap (own_module (length l.sizes)) library ∙ own_level (length l.sizes) few)
        ∙ sym (map_twice (λ (face : ClassFace). class_in (level_module (length l.sizes)) (bare face)) (λ (d : ClassDecl). rekey_face change d.face) l.program.classes)
        ∙ sym (append-nil (classes_of_level (length l.sizes) own))

    all_faces : map face_only (level_classes olds ++ own_classes) ≡ level_classes (olds ++ own ∷ [])
    all_faces =
        let many = olds_many in
        map-append face_only (level_classes olds) own_classes
        ∙ ap (λ (z : List Class). z ++ map face_only own_classes) (level_faces 0 olds)
        ∙ ap (λ (z : List Class). level_classes olds ++ z) own_faces
        ∙ sym (levels_joined 0 (length l.sizes) olds (own ∷ []) (omega (arith, many)))

    -- own faces can be loaded with those of the levels against which they were compiled
    pub level_loads : ProgramOk l.program → HaveParents (interface_classes l.program.base ++ client_classes l.program) → sum l.sizes ≡ length l.program.base.classes → FacesLoad (level_classes (olds ++ own ∷ []))
    level_loads ok have fits = subst FacesLoad all_faces (faces_alone (level_classes olds ++ own_classes) (program_compiled l.program l.sizes l.client fits ok have).faces)

    pub level_made : (below : List Interface) → StandsOn below l → IsMadeOver below own
    level_made below s = record {
      olds = olds;
      as_many = olds_many ∙ s.levels;
      faces = level_loads s.conforms s.parents s.fits;
      compatible = s.compatible;
    }

pub some_levels : (below : List Interface) (l : LevelProgram) → StandsOn below l → 1 ≤ length below → 1 ≤ length l.sizes
some_levels below l s few = let e = s.levels in omega (arith, e, few)

-- libraries one above the other, above levels
pub stacked_made : (below : List Interface) (ls : List LevelProgram) → 1 ≤ length below → AreStacked below ls → AreMadeOver below (map own_interface ls)
stacked_made below [] few s = tt
stacked_made below (l ∷ ls) few s =
    let more = length-append below (own_interface l ∷ []) in
    (level_made l s.0.1 (some_levels below l s.0.0 few) below s.0.0, stacked_made (below ++ own_interface l ∷ []) ls (omega (arith, more)) s.1)
