-- Libraries that stand above others can be compared, with the levels below them against which they were compiled.
use Rattle.std.proofs.Common.{◌≡◌, ℕ, zero, suc, ◌+◌, ◌≤◌, ◌++◌, inl, inr, Bool, true, false, List, [], ◌∷◌, length, map, drop, take, get_or, refl, sym, ap, ◌∙◌, subst, arith}
use Rattle.std.specs.List.{All}
use Rattle.std.proofs.lemmas.List.{length-append, length-map, take-append-drop}
use Rattle.som_model.specs.declared.class.ClassDecl.{ClassDecl}
use Rattle.som_model.specs.declared.class.ClassFace.{ClassFace}
use Rattle.som_model.specs.declared.limits.TheConstants.{MAX_LIBRARY_CLASSES}
use Rattle.som_model.specs.declared.program.Interface.{Interface}
use Rattle.som_model.specs.Classes.{client_classes, interface_classes}
use Rattle.som_model.specs.Counts.{FaceCounted}
use Rattle.som_model.specs.Lists.{Mem}
use Rattle.som_model.specs.Loads.{FacesLoad}
use Rattle.som_model_laws.proofs.Lists.{map_mem}
use Rattle.som_model_laws.proofs.Members.{mem_left, mem_right, mem_split}
use Rattle.som_release_laws.specs.Releasing.{HaveParents}
use Rattle.som_rekey_laws.specs.Rekeying.{ModuleChange, rekey_face}
use Rattle.som_level_laws.specs.Levels.{level_classes}
use Rattle.som_level_programs.specs.ByLevels.{level_change, levels_below, split}
use Rattle.som_level_programs.specs.Towers.{own_interface}
use Rattle.som_level_programs.proofs.Counted.{face_by_level, program_parents}
use Rattle.som_level_programs.proofs.LevelsStand.{program_differs}
use Rattle.som_flat_laws.proofs.MadeOver.{level_loads, olds_many}
use Rattle.som_levels.specs.Flat.{Flat, IsFlat}
use Rattle.som_link_check.specs.Pairs.{ProgramCounted}
use Rattle.som_link_limits.proofs.Classes.{program_counts}
use Rattle.som_compat.specs.Conditions.{IsCounted}
use Rattle.som_compat_levels.specs.Conditions.{AreComparable, AreLoadableLevels, IsWithinCounts}
use Rattle.som_towerimage.specs.declared.level.Level.{Level}
use Rattle.som_towerimage.specs.Spelling.{most_below}
use Rattle.som_cmd_tower_check.specs.Libraries.{IsSoundLibrary, own_under, plain, promised}

-- ---- lists

at_mem : {A : Type 0} (xs : List A) (i : ℕ) (d : A) → suc i ≤ length xs → Mem (get_or xs i d) xs
at_mem [] i d lt = absurd (omega (arith, lt))
at_mem (x ∷ xs) zero d lt = inl refl
at_mem (x ∷ xs) (suc i) d lt = inr (at_mem xs i d (omega (arith, lt)))

all_of : {A : Type 0} (P : A → Type 0) (xs : List A) → ((x : A) → Mem x xs → P x) → All P xs
all_of P xs f i d lt = f (get_or xs i d) (at_mem xs i d lt)

-- a part of a split list has members of the list alone, and is no longer
part_mem : {A : Type 0} (sizes : List ℕ) (xs part : List A) → Mem part (split sizes xs) → (x : A) → Mem x part → Mem x xs
part_mem [] xs part m x k = absurd m
part_mem (size ∷ sizes) xs part (inl e) x k = subst (λ l. Mem x l) (take-append-drop size xs) (mem_left x (take size xs) (drop size xs) (subst (λ l. Mem x l) e k))
part_mem (size ∷ sizes) xs part (inr m) x k = subst (λ l. Mem x l) (take-append-drop size xs) (mem_right x (take size xs) (drop size xs) (part_mem sizes (drop size xs) part m x k))

part_long : {A : Type 0} (sizes : List ℕ) (xs part : List A) → Mem part (split sizes xs) → length part ≤ length xs
part_long [] xs part m = absurd m
part_long (size ∷ sizes) xs part (inl e) =
    let all : length (take size xs) + length (drop size xs) ≡ length xs = sym (length-append (take size xs) (drop size xs)) ∙ ap length (take-append-drop size xs) in
    let same : length part ≡ length (take size xs) = ap length e in
    omega (arith, all, same)
part_long (size ∷ sizes) xs part (inr m) =
    let all : length (take size xs) + length (drop size xs) ≡ length xs = sym (length-append (take size xs) (drop size xs)) ∙ ap length (take-append-drop size xs) in
    let rest = part_long sizes (drop size xs) part m in
    omega (arith, all, rest)

-- ---- counts

face_within : (f : ClassFace) → FaceCounted f → IsCounted f
face_within f c = record { some = c.some_parent; parents = c.parents; entries = c.order }

faces_within : (faces : List ClassFace) → length faces ≤ MAX_LIBRARY_CLASSES → ((f : ClassFace) → Mem f faces → FaceCounted f) → IsWithinCounts (record { classes = faces })
faces_within faces few each = record { classes = few; counts = all_of IsCounted faces (λ f m. face_within f (each f m)) }

below_library : (client : Bool) (n : ℕ) → n ≤ most_below client → client ≡ false → n ≤ 7
below_library true n le e = absurd cc
below_library false n le e = omega (arith, le)

-- ---- one library

module _ (l : Level) (s : IsSoundLibrary l) where
  counted : ProgramCounted l.program
  counted = program_counts l.program s.read.within

  parents : HaveParents (interface_classes l.program.base ++ client_classes l.program)
  parents = program_parents l.program counted.each_face counted.each

  few : length l.sizes ≤ 7
  few = below_library l.client (length l.sizes) s.read.fits.few s.read.library

  pub is_flat : IsFlat l.sizes l.program.base
  is_flat = record { few = (let n = few in omega (arith, n)); all = s.read.fits.classes; differ = program_differs l.program s.conforms parents }

  abbrev change : ModuleChange
  change = level_change l.sizes l.client l.program.base

  pub loads : FacesLoad (level_classes (promised l))
  loads = level_loads (plain l) s.read.library s.read.fits.some s.conforms parents s.read.fits.classes

  pub many : length (promised l) ≡ length l.sizes + 1
  many =
      let a = length-append (levels_below l.sizes l.client l.program.base) (own_interface (plain l) ∷ []) in
      let b = olds_many (plain l) in
      omega (arith, a, b)

  below_within : (i : Interface) → Mem i (levels_below l.sizes l.client l.program.base) → IsWithinCounts i
  below_within i m =
      let r = map_mem (λ (faces : List ClassFace). let i : Interface = record { classes = map (rekey_face change) faces } in i) i (split l.sizes l.program.base.classes) m in
      let long = part_long l.sizes l.program.base.classes r.0 r.1 in
      let same : length (map (rekey_face change) r.0) ≡ length r.0 = length-map r.0 (rekey_face change) in
      let most = counted.few_faces in
      subst IsWithinCounts (sym r.2) (faces_within (map (rekey_face change) r.0) (omega (arith, long, same, most)) (λ g k.
      let q = map_mem (rekey_face change) g r.0 k in
      subst FaceCounted (sym q.2) (face_by_level change q.0 (counted.each_face q.0 (part_mem l.sizes l.program.base.classes r.0 r.1 q.0 q.1)))))

  own_within : IsWithinCounts (own_interface (plain l))
  own_within =
      let g : ClassDecl → ClassFace = λ d. rekey_face change d.face in
      let same : length (map g l.program.classes) ≡ length l.program.classes = length-map l.program.classes g in
      let most = counted.few in
      faces_within (map g l.program.classes) (omega (arith, same, most)) (λ x k.
      let q = map_mem g x l.program.classes k in
      subst FaceCounted (sym q.2) (face_by_level change q.0.face (counted.each q.0 q.1).face))

  last_within : (i : Interface) → Mem i (own_interface (plain l) ∷ []) → IsWithinCounts i
  last_within i (inl e) = subst IsWithinCounts (sym e) own_within
  last_within i (inr m) = absurd m

  each_within : (i : Interface) → Mem i (promised l) → IsWithinCounts i
  each_within i m = elim (mem_split i (levels_below l.sizes l.client l.program.base) (own_interface (plain l) ∷ []) m) [
    | inl below ↦ below_within i below
    | inr own ↦ last_within i own
  ]

  pub loadable : AreLoadableLevels (promised l)
  loadable = record { few = (let n = few in let k = many in omega (arith, n, k)); counts = each_within; faces = loads }

-- two with as many levels below
pub comparable : (o n : Level) → IsSoundLibrary o → IsSoundLibrary n → length n.sizes ≡ length o.sizes → AreComparable (promised o) (promised n)
comparable o n so sn alike = record {
  alike = (let a = many o so in let b = many n sn in omega (arith, a, b, alike));
  old = loadable o so;
  new = loadable n sn;
}

-- ---- what the code makes of one

pub promised_so : (l : Level) (m : Flat) (below is : List Interface) (own : Interface) → m ≡ record { sizes = l.sizes; client = l.client; base = l.program.base } → below ≡ levels_below m.sizes m.client m.base
    → own ≡ own_under (level_change m.sizes m.client m.base) l.program → is ≡ below ++ own ∷ [] → is ≡ promised l
promised_so l m below is own m_is below_is own_is is_is =
    is_is
    ∙ ap (λ (z : List Interface). z ++ own ∷ []) (below_is ∙ ap (λ (f : Flat). levels_below f.sizes f.client f.base) m_is)
    ∙ ap (λ (i : Interface). levels_below l.sizes l.client l.program.base ++ i ∷ []) (own_is ∙ ap (λ (f : Flat). own_under (level_change f.sizes f.client f.base) l.program) m_is)
