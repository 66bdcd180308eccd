-- The faces of levels can stand together: those below a program that conforms, and those of libraries one above the other.
use Rattle.std.proofs.Common.{◌≡◌, ℕ, Bool, true, false, List, [], ◌∷◌, ◌++◌, length, map, flat_map, append_assoc, Option, Some, None, refl, sym, ap, subst, arith, true≢false}
use Rattle.std.specs.Prelude.{sum, is_some}
use Rattle.std.specs.Str.{bytes_eq}
use Rattle.std.proofs.lemmas.List.{append-nil}
use Rattle.som_model.specs.declared.key.Module.{Module}
use Rattle.som_model.specs.declared.key.ClassKey.{ClassKey}
use Rattle.som_model.specs.declared.key.ClassKey.TheVariants as keys
use Rattle.som_model.specs.declared.class.ClassFace.{ClassFace}
use Rattle.som_model.specs.declared.program.Interface.{Interface}
use Rattle.som_model.specs.declared.program.Release.{Release}
use Rattle.som_model.specs.declared.program.ClientProgram.{ClientProgram}
use Rattle.som_model.specs.Lists.{doubles, first, or_else}
use Rattle.som_model.specs.Keys.{same_key}
use Rattle.som_model.specs.Class.{Class, interface_of}
use Rattle.som_model.specs.Classes.{class_at, client_classes, interface_classes, library_classes}
use Rattle.som_model.specs.Kernel.{kernel}
use Rattle.som_model.specs.Conforming.{ProgramOk, ReleaseOk, first_of_members, first_of_names}
use Rattle.som_model.specs.Loads.{FacesLoad}
use Rattle.som_model.specs.Rules.{s5, s14}
use Rattle.som_model_laws.proofs.Lists.{find_left}
use Rattle.som_verify_classes.proofs.Before.{none_both}
use Rattle.som_verify_classes.proofs.Conformity.{or_none}
use Rattle.som_release_laws.specs.Releasing.{HaveParents, Level, stacked}
use Rattle.som_release_laws.proofs.Lists.{flat_at}
use Rattle.som_release_laws.proofs.Ruled.{compiled, nothing}
use Rattle.som_rekey_laws.specs.Apart.{names_of}
use Rattle.som_rekey_laws.proofs.OrderedNames.{ordered_kernel}
use Rattle.som_rekey_rules.proofs.LoadsRekeyed.{faces_load}
use Rattle.som_level_laws.specs.Levels.{level_classes}
use Rattle.som_level_programs.specs.ByLevels.{flat_names, level_change, levels_below}
use Rattle.som_level_programs.specs.Towers.{AreStacked, LevelProgram, StandsOn, by_level, own_interface}
use Rattle.som_level_programs.proofs.ChangesApart.{change_apart, change_keeps, fewer_apart, fewer_keep}
use Rattle.som_level_programs.proofs.FacesStand.{faces_alone, faces_first}
use Rattle.som_level_programs.proofs.LevelClasses.{base_classes}
use Rattle.som_level_programs.proofs.LevelPrograms.{base_differs, names_flat}
use Rattle.som_level_programs.proofs.TowersLoad.{faces_of_all, libraries_load, release_faces}

-- ---- below a program

module _ (p : ClientProgram) (ok : ProgramOk p) (have : HaveParents (interface_classes p.base ++ client_classes p)) where
  abbrev base : List Class
  base = interface_classes p.base

  abbrev own : List Class
  own = client_classes p

  pub base_stands : FacesLoad base
  base_stands =
      let cs = base ++ own in
      let all = kernel ++ cs in
      let first_types = flat_map (s5 (kernel ++ base)) base in
      let later_types = flat_map (s5 all) own in
      let a = or_none (first_of_names kernel cs) (or_else (first (first_types ++ later_types)) (or_else (first_of_members kernel cs) (first (flat_map s14 own)))) ok.rules in
      let b = or_none (first (first_types ++ later_types)) (or_else (first_of_members kernel cs) (first (flat_map s14 own))) a.1 in
      let t = none_both first_types later_types b.0 in
      faces_first base own (compiled p ok have).faces (λ c m. flat_at (s5 (kernel ++ base)) base c (nothing first_types t.0) m)

  pub program_differs : doubles bytes_eq [] (map (λ (face : ClassFace). face.name) p.base.classes) ≡ []
  program_differs = base_differs p.base own (compiled p ok have).faces.ordered

  some_more : (k : ClassKey) (o : Option Class) → class_at (kernel ++ base) k ≡ o → is_some o ≡ true → is_some (class_at (kernel ++ (base ++ own)) k) ≡ true
  some_more k None e s = absurd (true≢false (sym s))
  some_more k (Some c) e s = ap is_some (find_left (λ (z : Class). same_key z.key k) (kernel ++ base) own c e)

  base_flat : (m : Module) (name : List ℕ) → names_of (kernel ++ base) m name ≡ true → flat_names m name ≡ true
  base_flat m name e = names_flat p m name (some_more (keys.Named m name) (class_at (kernel ++ base) (keys.Named m name)) refl e)

  pub levels_stand : (sizes : List ℕ) (client : Bool) → sum sizes ≡ length p.base.classes → FacesLoad (level_classes (levels_below sizes client p.base))
  levels_stand sizes client fits =
      let f = level_change sizes client p.base in
      let names = names_of (kernel ++ base) in
      let apart = fewer_apart f flat_names names base_flat (change_apart sizes client p.base) in
      let keeps = fewer_keep f flat_names names base_flat (ordered_kernel base base_stands.ordered) (change_keeps sizes client p.base) in
      subst FacesLoad (base_classes sizes client p.base fits program_differs) (faces_load f base keeps apart base_stands)

-- ---- one above the other

pub tower_stands : (r : Release) (ls : List LevelProgram) → ReleaseOk r → HaveParents (library_classes r) → AreStacked (interface_of r ∷ []) ls → FacesLoad (level_classes (interface_of r ∷ map own_interface ls))
tower_stands r ls ok have st =
    subst FacesLoad (faces_of_all (library_classes r) (interface_of r ∷ []) ls (release_faces r) (omega arith) st)
    (faces_alone (stacked (library_classes r) (map by_level ls)) (libraries_load r ls ok have st).faces)

pub one_more : (is : List Interface) (ls : List LevelProgram) (l : LevelProgram) → AreStacked is ls → StandsOn (is ++ map own_interface ls) l → l.client ≡ false → AreStacked is (ls ++ l ∷ [])
one_more is [] l st s library = ((subst (λ z. StandsOn z l) (append-nil is) s, library), tt)
one_more is (x ∷ ls) l st s library = (
  st.0,
  one_more (is ++ own_interface x ∷ []) ls l st.1 (subst (λ z. StandsOn z l) (sym (append_assoc is (own_interface x ∷ []) (map own_interface ls))) s) library,
)

pub stacked_more : (news : List Class) (xs : List Level) (x : Level) → stacked news (xs ++ x ∷ []) ≡ stacked news xs ++ x.own
stacked_more news [] x = refl
stacked_more news (y ∷ xs) x = stacked_more (news ++ y.own) xs x
