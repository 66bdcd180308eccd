-- An image has room for the faces of the flat interface where it has room for those of the levels.
use Rattle.std.proofs.Common.{ℕ, suc, ◌≤◌, List, [], ◌∷◌, get_or, map, inl, inr, refl, sym, ap, subst, ◌∙◌}
use Rattle.std.specs.Prelude.{All}
use Rattle.std.proofs.lemmas.List.{length-map}
use Rattle.std.proofs.lemmas.List.Elements.{All-append, All-map, All-nil}
use Rattle.som_model.specs.declared.key.ClassKey.{ClassKey}
use Rattle.som_model.specs.declared.class.ClassDecl.{ClassDecl}
use Rattle.som_model.specs.declared.class.ClassFace.{ClassFace}
use Rattle.som_model.specs.declared.class.Entry.{Entry}
use Rattle.som_model.specs.declared.class.Entry.TheVariants as entries
use Rattle.som_model.specs.declared.limits.TheConstants.{MAX_ENTRIES, MAX_PARAMETERS, MAX_PARENTS}
use Rattle.som_model.specs.declared.program.Interface.{Interface}
use Rattle.som_model.specs.declared.program.Release.{Release}
use Rattle.som_model.specs.Class.{Class, bare, class_in}
use Rattle.som_model.specs.Lists.{Mem}
use Rattle.som_model_laws.proofs.Lists.{map_mem}
use Rattle.som_rekey_laws.specs.Rekeying.{ModuleChange, rekey, rekey_entry, rekey_face, rekey_type}
use Rattle.som_image_classes.specs.ClassLimits.{EntryWithin, FaceWithin}
use Rattle.som_libimage.specs.Limits as releases
use Rattle.som_cliimage.specs.Limits as programs
use Rattle.som_level_laws.specs.Levels.{all_levels, classes_of_level, level_classes, level_module, levels_from}
use Rattle.som_level_programs.specs.ByLevels.{level_change}
use Rattle.som_level_programs.specs.Towers.{own_interface}
use Rattle.som_flat_laws.specs.Flat.{class_by_owners, entry_by_owner, face_by_owners, flat_interface, flat_module, levels_by_owners}
use Rattle.som_towerimage.specs.declared.level.Level.{Level}
use Rattle.som_tower.specs.Towers.{interfaces_of, plain}

-- ---- one face

-- under new keys
entry_rekeyed : (change : ModuleChange) (e : Entry) → EntryWithin e → EntryWithin (rekey_entry change e)
entry_rekeyed change (entries.Introduced name sig way) w = (w.0, subst (λ (n : ℕ). n ≤ MAX_PARAMETERS) (sym (length-map sig.params (rekey_type change))) w.1)
entry_rekeyed change (entries.Moved name to) w = w

face_rekeyed : (change : ModuleChange) (f : ClassFace) → FaceWithin f → FaceWithin (rekey_face change f)
face_rekeyed change f w = record {
  name = w.name;
  major = w.major;
  minor = w.minor;
  some_parent = subst (λ (n : ℕ). 1 ≤ n) (sym (length-map f.parents (rekey change))) w.some_parent;
  parents = subst (λ (n : ℕ). n ≤ MAX_PARENTS) (sym (length-map f.parents (rekey change))) w.parents;
  entries = subst (λ (n : ℕ). n ≤ MAX_ENTRIES) (sym (length-map f.entries (rekey_entry change))) w.entries;
  each_entry = All-map EntryWithin (rekey_entry change) f.entries (λ i d lt. entry_rekeyed change (get_or f.entries i d) (w.each_entry i d lt));
}

-- with its moves named by owners
entry_owned : (cs : List Class) (k : ClassKey) (e : Entry) → EntryWithin e → EntryWithin (entry_by_owner cs k e)
entry_owned cs k (entries.Introduced name sig way) w = w
entry_owned cs k (entries.Moved name to) w = w

face_owned : (cs : List Class) (c : Class) → FaceWithin c.decl.face → FaceWithin (face_by_owners cs c)
face_owned cs c w = record {
  name = w.name;
  major = w.major;
  minor = w.minor;
  some_parent = w.some_parent;
  parents = w.parents;
  entries = subst (λ (n : ℕ). n ≤ MAX_ENTRIES) (sym (length-map c.decl.face.entries (entry_by_owner cs c.key))) w.entries;
  each_entry = All-map EntryWithin (entry_by_owner cs c.key) c.decl.face.entries (λ i d lt. entry_owned cs c.key (get_or c.decl.face.entries i d) (w.each_entry i d lt));
}

-- ---- all faces

abbrev IsRoomy : Class → Type 0
IsRoomy c = FaceWithin c.decl.face

levels_roomy : (k : ℕ) (is : List Interface) → ((i : Interface) → Mem i is → All FaceWithin i.classes) → All IsRoomy (levels_from k is)
levels_roomy k [] w = All-nil IsRoomy
levels_roomy k (i ∷ is) w =
    All-append IsRoomy (classes_of_level k i) (levels_from (suc k) is)
    (All-map IsRoomy (λ (f : ClassFace). class_in (level_module k) (bare f)) i.classes (w i (inl refl)))
    (levels_roomy (suc k) is (λ j m. w j (inr m)))

pub flat_roomy : (is : List Interface) → ((i : Interface) → Mem i is → All FaceWithin i.classes) → All FaceWithin (flat_interface is).classes
flat_roomy is w =
    let all = all_levels is in
    let owned : All IsRoomy (levels_by_owners is) = All-map IsRoomy (class_by_owners all) (level_classes is) (λ i d lt. face_owned all (get_or (level_classes is) i d) (levels_roomy 0 is w i d lt)) in
    All-map FaceWithin (λ (c : Class). rekey_face flat_module c.decl.face) (levels_by_owners is) (λ i d lt. face_rekeyed flat_module (get_or (levels_by_owners is) i d).decl.face (owned i d lt))

-- those of a library and of libraries above it
own_roomy : (l : Level) → programs.IsWithinLimits l.program → All FaceWithin (own_interface (plain l)).classes
own_roomy l w =
    let change = level_change l.sizes l.client l.program.base in
    All-map FaceWithin (λ (d : ClassDecl). rekey_face change d.face) l.program.classes (λ i d lt. face_rekeyed change (get_or l.program.classes i d).face (w.each_class i d lt).face)

pub tower_roomy : (base : Release) (uppers : List Level) → releases.IsWithinLimits base → ((l : Level) → Mem l uppers → programs.IsWithinLimits l.program) → (i : Interface) → Mem i (interfaces_of base uppers) → All FaceWithin i.classes
tower_roomy base uppers within each i (inl e) =
    subst (λ (x : Interface). All FaceWithin x.classes) (sym e) (All-map FaceWithin (λ (d : ClassDecl). d.face) base.classes (λ k d lt. (within.each_class k d lt).face))
tower_roomy base uppers within each i (inr m) =
    let r = map_mem own_interface i (map plain uppers) m in
    let q = map_mem plain r.0 uppers r.1 in
    subst (λ (x : Interface). All FaceWithin x.classes) (sym (r.2 ∙ ap own_interface q.2)) (own_roomy q.0 (each q.0 q.1))
