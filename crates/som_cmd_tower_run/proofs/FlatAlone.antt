-- The flat interface of one level, a release that conforms, is the release's interface.
use Rattle.std.proofs.Common.{◌≡◌, ◌&&◌, ◌++◌, ℕ, true, List, [], ◌∷◌, append-nil, flat_map, inl, inr, map, refl, sym, ap, ◌∙◌, subst}
use Rattle.som_model.specs.declared.key.Module.{Module}
use Rattle.som_model.specs.declared.key.Module.TheVariants as modules
use Rattle.som_model.specs.declared.key.ClassKey.{ClassKey}
use Rattle.som_model.specs.declared.key.ClassKey.TheVariants as keys
use Rattle.som_model.specs.declared.key.MethodRef.{MethodRef}
use Rattle.som_model.specs.declared.class.ClassDecl.{ClassDecl}
use Rattle.som_model.specs.declared.class.ClassFace.{ClassFace}
use Rattle.som_model.specs.declared.class.Entry.{Entry}
use Rattle.som_model.specs.declared.class.Entry.TheVariants as entries
use Rattle.som_model.specs.declared.program.Interface.{Interface}
use Rattle.som_model.specs.declared.program.Release.{Release}
use Rattle.som_model.specs.Class.{Class, bare, class_in, interface_of}
use Rattle.som_model.specs.Classes.{interface_classes, library_classes}
use Rattle.som_model.specs.Conforming.{ReleaseOk, first_of_members, first_of_names}
use Rattle.som_model.specs.Kernel.{kernel}
use Rattle.som_model.specs.Lists.{Mem, first, or_else}
use Rattle.som_model.specs.Loads.{FacesLoad}
use Rattle.som_model.specs.Owner.{introduces, owner}
use Rattle.som_model.specs.Rules.{RuleBreach, demand_of, is_proper, s5, s6, s7, s8, s9, s10, s14}
use Rattle.som_model.proofs.KeyLaws.{both}
use Rattle.som_model_laws.proofs.Lists.{map_mem, mem_map}
use Rattle.som_model_laws.proofs.Members.{map_on, mem_split}
use Rattle.som_model_laws.proofs.Owners.{moved_to, owner_moved, owner_stays}
use Rattle.som_model_laws.proofs.Standing.{kernel_key, named_one}
use Rattle.som_verify_classes.proofs.Before.{known_mem}
use Rattle.som_verify_classes.proofs.Conformity.{or_none}
use Rattle.som_verify_classes.proofs.FacesOnly.{face_only, introduces_faces}
use Rattle.som_release_laws.proofs.Facing.{demanded_of}
use Rattle.som_release_laws.proofs.Facts.{introduced_entry}
use Rattle.som_release_laws.proofs.Lists.{flat_at}
use Rattle.som_release_laws.proofs.Ruled.{nothing}
use Rattle.som_rekey_laws.specs.Apart.{Names, names_of}
use Rattle.som_rekey_laws.specs.Rekeying.{ModuleChange, rekey_face}
use Rattle.som_rekey_laws.proofs.Lists.{map_twice}
use Rattle.som_rekey_rules.specs.NamesAlone.{IsFaceNamed}
use Rattle.som_rekey_rules.proofs.ClassesNamed.{faces_of}
use Rattle.som_level_laws.specs.Levels.{level_classes}
use Rattle.som_flat_laws.specs.Flat.{class_by_owners, entry_by_owner, face_by_owners, flat_interface, flat_module}
use Rattle.som_flat_laws.proofs.Back.{class_back}
use Rattle.som_flat_laws.proofs.ByOwners.{entry_here}
use Rattle.som_flat_laws.proofs.Flattening.{named_by_owners}
use Rattle.som_flat_laws.proofs.Lowest.{shown_faces, shown_level}
use Rattle.som_cmd_tower_run.proofs.SameKeys.{all_same, face_same}

-- ---- a class to which an entry was moved introduces its name

abbrev moves_up : List Class → Class → Entry → List RuleBreach
moves_up cs c (entries.Introduced name sig way) = []
moves_up cs c (entries.Moved name to) = demand_of 9 c name (is_proper cs c to && introduces cs name to)

moved_up : (r : Release) → ReleaseOk r → (c : Class) (name : List ℕ) (to : ClassKey) → Mem c (library_classes r) → Mem (entries.Moved name to) c.decl.face.entries → introduces (kernel ++ library_classes r) name to ≡ true
moved_up r ok c name to m n =
    let cs = library_classes r in
    let all = kernel ++ cs in
    let a = or_none (first_of_names kernel cs) (or_else (first (flat_map (s5 all) cs)) (or_else (first_of_members kernel cs) (first (flat_map s14 cs)))) ok.rules in
    let b = or_none (first (flat_map (s5 all) cs)) (or_else (first_of_members kernel cs) (first (flat_map s14 cs))) a.1 in
    let d = or_none (first_of_members kernel cs) (first (flat_map s14 cs)) b.1 in
    let six = or_none (first (flat_map s6 cs)) (or_else (first (flat_map s7 cs)) (or_else (first (flat_map (s8 all) cs)) (or_else (first (flat_map (s9 all) cs)) (first (flat_map (s10 all) cs))))) d.0 in
    let seven = or_none (first (flat_map s7 cs)) (or_else (first (flat_map (s8 all) cs)) (or_else (first (flat_map (s9 all) cs)) (first (flat_map (s10 all) cs)))) six.1 in
    let eight = or_none (first (flat_map (s8 all) cs)) (or_else (first (flat_map (s9 all) cs)) (first (flat_map (s10 all) cs))) seven.1 in
    let nine = or_none (first (flat_map (s9 all) cs)) (first (flat_map (s10 all) cs)) eight.1 in
    let none : s9 all c ≡ [] = flat_at (s9 all) cs c (nothing (flat_map (s9 all) cs) nine.0) m in
    (both (is_proper all c to) (introduces all name to) (demanded_of 9 c name (is_proper all c to && introduces all name to) (flat_at (moves_up all c) c.decl.face.entries (entries.Moved name to) none n))).1

module _ (r : Release) (ok : ReleaseOk r) where
  abbrev faces : List ClassFace
  faces = (interface_of r).classes

  abbrev shown : List Class
  shown = interface_classes (interface_of r)

  abbrev cs : List Class
  cs = level_classes (interface_of r ∷ [])

  abbrev all : List Class
  all = kernel ++ cs

  load : FacesLoad cs
  load = shown_level r ok

  shown_up : (c : Class) (name : List ℕ) (to : ClassKey) → Mem c (map face_only (library_classes r)) → Mem (entries.Moved name to) c.decl.face.entries → introduces (kernel ++ map face_only (library_classes r)) name to ≡ true
  shown_up c name to m n =
      let d = map_mem face_only c (library_classes r) m in
      introduces_faces (kernel ++ library_classes r) name to ∙ moved_up r ok d.0 name to d.1 (subst (λ (z : Class). Mem (entries.Moved name to) z.decl.face.entries) d.2 n)

  level_up : (c : Class) (name : List ℕ) (to : ClassKey) → Mem c cs → Mem (entries.Moved name to) c.decl.face.entries → introduces all name to ≡ true
  level_up = subst (λ (z : List Class). (c : Class) (name : List ℕ) (to : ClassKey) → Mem c z → Mem (entries.Moved name to) c.decl.face.entries → introduces (kernel ++ z) name to ≡ true)
      (shown_faces r.classes ∙ sym (append-nil shown)) shown_up

  -- ---- so each moved entry names the class of its owner already

  abbrev ref : ClassKey → List ℕ → MethodRef
  ref k name = record { class = k; name = name }

  target_owns : (c : Class) (name : List ℕ) (to : ClassKey) → Mem c cs → Mem (entries.Moved name to) c.decl.face.entries → owner all (ref c.key name) ≡ ref to name
  target_owns c name to m n =
      let e = introduced_entry all name to (level_up c name to m n) in
      owner_moved cs load.ordered c.key name name to (entry_here cs load c (entries.Moved name to) m n) ∙ owner_stays cs load.ordered to name (ap moved_to e.1 ∙ e.2)

  entry_stays : (c : Class) (e : Entry) → Mem c cs → Mem e c.decl.face.entries → entry_by_owner all c.key e ≡ e
  entry_stays c (entries.Introduced name sig way) m n = refl
  entry_stays c (entries.Moved name to) m n = ap (λ (z : MethodRef). entries.Moved name z.class) (target_owns c name to m n)

  abbrev face_with : ClassFace → List Entry → ClassFace
  face_with f es = record { name = f.name; major = f.major; minor = f.minor; parents = f.parents; metaclass = f.metaclass; entries = es }

  owners_named : (c : Class) → Mem c cs → face_by_owners all c ≡ c.decl.face
  owners_named c m =
      let es = c.decl.face.entries in
      ap (face_with c.decl.face) (map_on (entry_by_owner all c.key) (λ e. e) es (λ e n. entry_stays c e m n) ∙ all_same (λ (e : Entry). e) (λ e. refl) es)

  -- ---- and all keys are those of one library

  abbrev names : Names
  names = names_of all

  library_key : (c : Class) → Mem c cs → (name : List ℕ) × (c.key ≡ keys.Named modules.Library name)
  library_key c m =
      let f = map_mem (λ (f : ClassFace). class_in modules.Library (bare f)) c faces (subst (λ z. Mem c z) (append-nil shown) m) in
      (f.0.name, ap (λ (z : Class). z.key) f.2)

  -- no class here has a key of another module
  no_other : (m : Module) (name : List ℕ) → (modules.Kernel ≡ m → ⊥) → (modules.Library ≡ m → ⊥) → names m name ≡ true → ⊥
  no_other m name a b n =
      let c = known_mem all (keys.Named m name) n in
      elim (mem_split c.0 kernel cs c.1) [
        | inl k ↦ (let q = kernel_key c.0 k in a (named_one modules.Kernel m q.0 name (sym q.1 ∙ c.2)).0)
        | inr k ↦ (let q = library_key c.0 k in b (named_one modules.Library m q.0 name (sym q.1 ∙ c.2)).0)
      ]

  abbrev same : ModuleChange
  same m name = m

  back : (m : Module) (name : List ℕ) → names m name ≡ true → same (flat_module m name) name ≡ m
  back modules.Kernel name n = refl
  back modules.Library name n = refl
  back (modules.Upper k) name n = absurd (no_other (modules.Upper k) name (λ e. absurd (cc)) (λ e. absurd (cc)) n)
  back modules.Client name n = absurd (no_other modules.Client name (λ e. absurd (cc)) (λ e. absurd (cc)) n)

  flat_stays : (c : Class) → Mem c (map (class_by_owners all) cs) → c.decl ≡ bare c.decl.face → rekey_face flat_module c.decl.face ≡ c.decl.face
  flat_stays c m plain =
      let face = c.decl.face in
      let b = class_back flat_module same names back c.key face (subst (λ (d : ClassDecl). IsFaceNamed names (record { key = c.key; decl = d })) plain (faces_of names (map (class_by_owners all) cs) (named_by_owners cs load) c m)) in
      sym (face_same same (λ n name. refl) (rekey_face flat_module face)) ∙ ap (λ (z : Class). z.decl.face) b

  face_stays : (c : Class) → Mem c cs → rekey_face flat_module (face_by_owners all c) ≡ c.decl.face
  face_stays c m = flat_stays (class_by_owners all c) (mem_map (class_by_owners all) c cs m) refl ∙ owners_named c m

  abbrev interface_with : List ClassFace → Interface
  interface_with fs = record { classes = fs }

  pub flat_alone : flat_interface (interface_of r ∷ []) ≡ interface_of r
  flat_alone = ap interface_with (
      map_twice (λ (c : Class). rekey_face flat_module c.decl.face) (class_by_owners all) cs
      ∙ map_on (λ (c : Class). rekey_face flat_module (face_by_owners all c)) (λ (c : Class). c.decl.face) cs face_stays
      ∙ ap (map (λ (c : Class). c.decl.face)) (append-nil shown)
      ∙ map_twice (λ (c : Class). c.decl.face) (λ (f : ClassFace). class_in modules.Library (bare f)) faces
      ∙ all_same (λ (f : ClassFace). f) (λ f. refl) faces)
