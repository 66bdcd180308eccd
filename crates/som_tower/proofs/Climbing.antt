-- A tower that was built so far, and one level more.
use Rattle.std.proofs.Common.{◌≡◌, ℕ, zero, suc, ◌+◌, ◌*◌, ◌<◌, ◌≤◌, inl, inr, Bool, true, false, List, [], ◌∷◌, ◌++◌, Some, drop, get_or, length, map, slice_get, sum, take, refl, sym, ap, ◌∙◌, subst, arith}
use Rattle.std.specs.List.{All}
use Rattle.std.proofs.lemmas.List.{length-append, length-map, map-append, take-append-drop}
use Rattle.std.proofs.lemmas.List.Sums.{sum_by-cons}
use Rattle.som_model.specs.declared.class.ClassDecl.{ClassDecl}
use Rattle.som_model.specs.declared.class.ClassFace.{ClassFace}
use Rattle.som_model.specs.declared.program.Interface.{Interface}
use Rattle.som_model.specs.declared.program.Release.{Release}
use Rattle.som_model.specs.declared.limits.TheConstants.{MAX_CLIENT_CLASSES, MAX_LAID_CLASSES, MAX_LIBRARY_CLASSES}
use Rattle.som_model.specs.Class.{interface_of}
use Rattle.som_model.specs.Classes.{client_classes, interface_classes, library_classes}
use Rattle.som_model.specs.Counts.{FaceCounted}
use Rattle.som_model.specs.Lists.{Mem}
use Rattle.som_model.specs.Loads.{Loads}
use Rattle.som_model_laws.proofs.Lists.{map_mem}
use Rattle.som_model_laws.proofs.Members.{mem_left, mem_right}
use Rattle.som_release_laws.specs.Releasing.{HaveParents, stacked}
use Rattle.som_level_laws.specs.Levels.{CompatibleLevels}
use Rattle.som_level_programs.specs.ByLevels.{level_change, levels_below, main_by_level, own_by_level, split}
use Rattle.som_level_programs.specs.Towers.{AreStacked, LevelProgram, StandsOn, by_level, own_interface}
use Rattle.som_level_programs.proofs.Counted.{block_by_level, face_by_level, program_parents, release_parents, tower_counted, tower_long}
use Rattle.som_level_programs.proofs.LevelsStand.{levels_stand, one_more, program_differs, stacked_more, tower_stands}
use Rattle.som_level_programs.proofs.TowersLoad.{client_loads}
use Rattle.som_rekey_laws.specs.Rekeying.{rekey_face}
use Rattle.som_levels.specs.Flat.{IsFlat}
use Rattle.som_compat.specs.Conditions.{IsCounted}
use Rattle.som_compat_levels.specs.Conditions.{AreComparable, AreLoadableLevels, IsWithinCounts}
use Rattle.som_class_ids.specs.Classes.{classes_of}
use Rattle.som_class_ids.specs.declared.keyed.Keyed.{Keyed}
use Rattle.som_towerimage.specs.declared.level.Level.{Level}
use Rattle.som_towerimage.specs.Spelling.{most_below}
use Rattle.som_tower.specs.Standing.{AreBuilt}
use Rattle.som_tower.specs.Towers.{AreLibraries, IsSound, IsUpper, interfaces_of, plain}

-- ---- lists

at_mem : {A : Type 0} (xs : List A) (i : ℕ) (d : A) → i < length xs → Mem (get_or xs i d) xs
at_mem [] i d lt = absurd (omega (arith, lt))
at_mem (x ∷ xs) zero d lt = inl refl
at_mem (x ∷ xs) (suc i) d lt = inr (at_mem xs i d (omega (arith, lt)))

all_of : {A : Type 0} (P : A → Type 0) (xs : List A) → ((x : A) → Mem x xs → P x) → All P xs
all_of P xs f i d lt = f (get_or xs i d) (at_mem xs i d lt)

long_split : {A : Type 0} (sizes : List ℕ) (xs : List A) → length (split sizes xs) ≡ length sizes
long_split [] xs = refl
long_split (size ∷ sizes) xs = ap suc (long_split sizes (drop size xs))

-- a part of a split list has members of the list alone, and is no longer
part_mem : {A : Type 0} (sizes : List ℕ) (xs part : List A) → Mem part (split sizes xs) → (x : A) → Mem x part → Mem x xs
part_mem [] xs part m x k = absurd m
part_mem (size ∷ sizes) xs part (inl e) x k = subst (λ l. Mem x l) (take-append-drop size xs) (mem_left x (take size xs) (drop size xs) (subst (λ l. Mem x l) e k))
part_mem (size ∷ sizes) xs part (inr m) x k = subst (λ l. Mem x l) (take-append-drop size xs) (mem_right x (take size xs) (drop size xs) (part_mem sizes (drop size xs) part m x k))

part_long : {A : Type 0} (sizes : List ℕ) (xs part : List A) → Mem part (split sizes xs) → length part ≤ length xs
part_long [] xs part m = absurd m
part_long (size ∷ sizes) xs part (inl e) =
    let all : length (take size xs) + length (drop size xs) ≡ length xs = sym (length-append (take size xs) (drop size xs)) ∙ ap length (take-append-drop size xs) in
    let same : length part ≡ length (take size xs) = ap length e in
    omega (arith, all, same)
part_long (size ∷ sizes) xs part (inr m) =
    let all : length (take size xs) + length (drop size xs) ≡ length xs = sym (length-append (take size xs) (drop size xs)) ∙ ap length (take-append-drop size xs) in
    let rest = part_long sizes (drop size xs) part m in
    omega (arith, all, rest)

at_place : {A : Type 0} (xs : List A) (x : A) → Mem x xs → (i : ℕ) × (slice_get xs i ≡ Some x)
at_place [] x m = absurd m
at_place (y ∷ ys) x (inl e) = (0, ap Some (sym e))
at_place (y ∷ ys) x (inr m) = let r = at_place ys x m in (suc r.0, r.1)

few_below : (client : Bool) (n : ℕ) → n ≤ most_below client → n ≤ 8
few_below true n le = omega (arith, le)
few_below false n le = omega (arith, le)

-- ---- counts

face_within : (f : ClassFace) → FaceCounted f → IsCounted f
face_within f c = record { some = c.some_parent; parents = c.parents; entries = c.order }

faces_within : (faces : List ClassFace) → length faces ≤ MAX_LIBRARY_CLASSES → ((f : ClassFace) → Mem f faces → FaceCounted f) → IsWithinCounts (record { classes = faces })
faces_within faces few each = record { classes = few; counts = all_of IsCounted faces (λ f m. face_within f (each f m)) }

-- ---- one level

module _ (l : Level) (s : IsSound l) where
  pub parents : HaveParents (interface_classes l.program.base ++ client_classes l.program)
  parents = program_parents l.program s.counted.each_face s.counted.each

  pub is_flat : IsFlat l.sizes l.program.base
  is_flat = record {
    few = (let e = few_below l.client (length l.sizes) s.fits.few in omega (arith, e));
    all = s.fits.classes;
    differ = program_differs l.program s.conforms parents;
  }

  pub stands : (is : List Interface) → length l.sizes ≡ length is → CompatibleLevels (levels_below l.sizes l.client l.program.base) is → StandsOn is (plain l)
  stands is long kept = record { conforms = s.conforms; parents = parents; fits = s.fits.classes; levels = long; compatible = kept }

  below_within : (i : Interface) → Mem i (levels_below l.sizes l.client l.program.base) → IsWithinCounts i
  below_within i m =
      let f = level_change l.sizes l.client l.program.base in
      let r = map_mem (λ (faces : List ClassFace). let i : Interface = record { classes = map (rekey_face f) faces } in i) i (split l.sizes l.program.base.classes) m in
      let long = part_long l.sizes l.program.base.classes r.0 r.1 in
      let same : length (map (rekey_face f) r.0) ≡ length r.0 = length-map r.0 (rekey_face f) in
      let few = s.counted.few_faces in
      subst IsWithinCounts (sym r.2) (faces_within (map (rekey_face f) r.0) (omega (arith, long, same, few)) (λ g k.
      let q = map_mem (rekey_face f) g r.0 k in
      subst FaceCounted (sym q.2) (face_by_level f q.0 (s.counted.each_face q.0 (part_mem l.sizes l.program.base.classes r.0 r.1 q.0 q.1)))))

  pub below_loads : length l.sizes ≤ 8 → AreLoadableLevels (levels_below l.sizes l.client l.program.base)
  below_loads few = record {
    few = (let long : length (levels_below l.sizes l.client l.program.base) ≡ length l.sizes = length-map (split l.sizes l.program.base.classes) (λ (faces : List ClassFace). let i : Interface = record { classes = map (rekey_face (level_change l.sizes l.client l.program.base)) faces } in i) ∙ long_split l.sizes l.program.base.classes in
        omega (arith, long, few));
    counts = below_within;
    faces = levels_stand l.program s.conforms parents l.sizes l.client s.fits.classes;
  }

  own_within : IsWithinCounts (own_interface (plain l))
  own_within =
      let f = level_change l.sizes l.client l.program.base in
      let g : ClassDecl → ClassFace = λ d. rekey_face f d.face in
      let same : length (map g l.program.classes) ≡ length l.program.classes = length-map l.program.classes g in
      let few = s.counted.few in
      faces_within (map g l.program.classes) (omega (arith, same, few)) (λ x k.
      let q = map_mem g x l.program.classes k in
      subst FaceCounted (sym q.2) (face_by_level f q.0.face (s.counted.each q.0 q.1).face))

-- ---- the levels so far

base_within : (base : Release) (uppers : List Level) → AreLibraries base uppers → IsWithinCounts (interface_of base)
base_within base uppers ok =
    let g : ClassDecl → ClassFace = λ d. d.face in
    let same : length (map g base.classes) ≡ length base.classes = length-map base.classes g in
    let few = ok.base_counted.few in
    faces_within (map g base.classes) (omega (arith, same, few)) (λ x k.
    let q = map_mem g x base.classes k in
    subst FaceCounted (sym q.2) (ok.base_counted.each q.0 q.1).face)

module _ (base : Release) (uppers : List Level) (ok : AreLibraries base uppers) where
  base_parents : HaveParents (library_classes base)
  base_parents = release_parents base ok.base_counted.each

  -- a part of the levels
  module _ (xs : List Level) (among : (x : Level) → Mem x xs → Mem x uppers) (few : length xs + 1 ≤ 8) (is : List Interface) (cs : List Keyed) (built : AreBuilt base xs is cs) where
    sound : (x : Level) → Mem x xs → IsSound x
    sound x m = let r = at_place uppers x (among x m) in (ok.each r.0 x r.1).sound

    pub long : length is ≡ length xs + 1
    long =
        let a : length is ≡ length (interfaces_of base xs) = ap length built.interfaces_are in
        let b : length (map own_interface (map plain xs)) ≡ length (map plain xs) = length-map (map plain xs) own_interface in
        let c : length (map plain xs) ≡ length xs = length-map xs plain in
        omega (arith, a, b, c)

    each_within : (i : Interface) → Mem i (interfaces_of base xs) → IsWithinCounts i
    each_within i (inl e) = subst IsWithinCounts (sym e) (base_within base uppers ok)
    each_within i (inr m) =
        let r = map_mem own_interface i (map plain xs) m in
        let q = map_mem plain r.0 xs r.1 in
        subst IsWithinCounts (sym (r.2 ∙ ap own_interface q.2)) (own_within q.0 (sound q.0 q.1))

    pub levels_load : AreLoadableLevels is
    levels_load = subst AreLoadableLevels (sym built.interfaces_are) (record {
      few = (let n = long in let e : length is ≡ length (interfaces_of base xs) = ap length built.interfaces_are in omega (arith, n, e, few));
      counts = each_within;
      faces = tower_stands base (map plain xs) ok.base_ok base_parents built.stacked;
    })

    -- what stands next can be compared with them
    pub comparable : (l : Level) → IsSound l → length l.sizes ≡ length xs + 1 → AreComparable (levels_below l.sizes l.client l.program.base) is
    comparable l s at =
        let n = long in
        let e : length (levels_below l.sizes l.client l.program.base) ≡ length l.sizes = length-map (split l.sizes l.program.base.classes) (λ (faces : List ClassFace). let i : Interface = record { classes = map (rekey_face (level_change l.sizes l.client l.program.base)) faces } in i) ∙ long_split l.sizes l.program.base.classes in
        record { alike = omega (arith, n, e, at); old = below_loads l s (omega (arith, at, few)); new = levels_load }

    -- and stands there, if they keep what it was compiled against
    pub built_more : (l : Level) → IsUpper (length xs + 1) l → CompatibleLevels (levels_below l.sizes l.client l.program.base) is → (is' : List Interface) → is' ≡ is ++ own_interface (plain l) ∷ []
        → (cs' : List Keyed) → classes_of cs' ≡ classes_of cs ++ own_by_level l.sizes l.client l.program → AreBuilt base (xs ++ l ∷ []) is' cs'
    built_more l u kept is' more cs' added =
        let n = long in
        let s = stands l u.sound is (let at = u.levels in omega (arith, n, at)) kept in
        let plains : map plain (xs ++ l ∷ []) ≡ map plain xs ++ plain l ∷ [] = map-append plain xs (l ∷ []) in
        record {
          stacked = subst (λ z. AreStacked (interface_of base ∷ []) z) (sym plains) (one_more (interface_of base ∷ []) (map plain xs) (plain l) built.stacked (subst (λ z. StandsOn z (plain l)) built.interfaces_are s) u.library);
          interfaces_are = more ∙ ap (λ z. z ++ own_interface (plain l) ∷ []) built.interfaces_are
              ∙ ap (λ z. interface_of base ∷ z) (sym (map-append own_interface (map plain xs) (plain l ∷ []))) ∙ ap (λ z. interface_of base ∷ map own_interface z) (sym plains);
          classes_are = added ∙ ap (λ z. z ++ own_by_level l.sizes l.client l.program) built.classes_are
              ∙ sym (stacked_more (library_classes base) (map by_level (map plain xs)) (by_level (plain l)))
              ∙ ap (stacked (library_classes base)) (sym (map-append by_level (map plain xs) (plain l ∷ [])) ∙ ap (map by_level) (sym plains));
        }

    -- with a client on top all can be loaded
    pub all_load : (client : Level) → IsSound client → length client.sizes ≡ length xs + 1 → CompatibleLevels (levels_below client.sizes client.client client.program.base) is
        → (cs' : List Keyed) → classes_of cs' ≡ classes_of cs ++ own_by_level client.sizes client.client client.program → Loads (classes_of cs') (main_by_level client.sizes client.client client.program)
    all_load client s at kept cs' added =
        let n = long in
        let on = stands client s is (omega (arith, n, at)) kept in
        subst (λ z. Loads z (main_by_level client.sizes client.client client.program)) (sym (added ∙ ap (λ z. z ++ own_by_level client.sizes client.client client.program) built.classes_are))
        (client_loads base (map plain xs) (plain client) ok.base_ok base_parents built.stacked (subst (λ z. StandsOn z (plain client)) built.interfaces_are on) all_few
        (tower_counted base (map plain xs) (plain client) ok.base_counted.each (λ x d m k. (let q = map_mem plain x xs m in (sound q.0 q.1).counted.each d (subst (λ z. Mem d z.program.classes) q.2 k))) s.counted.each)
        (block_by_level (level_change client.sizes client.client client.program.base) client.program.main s.counted.main))
      where
        -- no more than an image of each has
        sums : (ls : List Level) → ((x : Level) → Mem x ls → IsSound x) → sum (map (λ (x : LevelProgram). length x.program.classes) (map plain ls)) ≤ length ls * MAX_CLIENT_CLASSES
        sums [] f = omega arith
        sums (x ∷ ls) f =
            let first = (f x (inl refl)).counted.few in
            let rest = sums ls (λ y m. f y (inr m)) in
            let e = sum_by-cons (λ (n : ℕ). n) (length x.program.classes) (map (λ (x : LevelProgram). length x.program.classes) (map plain ls)) in
            omega (arith, first, rest, e)

        all_few : length (stacked (library_classes base) (map by_level (map plain xs)) ++ own_by_level client.sizes client.client client.program) ≤ MAX_LAID_CLASSES
        all_few =
            let e = tower_long base (map plain xs) (plain client) in
            let a = ok.base_counted.few in
            let b = sums xs sound in
            let c = s.counted.few in
            omega (arith, e, a, b, c, few)
