-- A tower that was built up to a level of a list, one level more.
use Rattle.std.proofs.Common.{◌≡◌, ℕ, zero, suc, ◌+◌, ◌<◌, List, [], ◌∷◌, ◌++◌, Some, None, Err, drop, get_or, length, map, slice_get, take, refl, sym, ap, ◌∙◌, subst, arith}
use Rattle.std.proofs.lemmas.List.{map-append, take-append-drop, take_more}
use Rattle.som_model.specs.declared.program.Interface.{Interface}
use Rattle.som_model.specs.declared.program.Release.{Release}
use Rattle.som_model.specs.Class.{interface_of}
use Rattle.som_model.specs.Lists.{Mem, or_else}
use Rattle.som_model_laws.proofs.Members.{mem_left}
use Rattle.som_level_laws.specs.Levels.{CompatibleLevels}
use Rattle.som_level_programs.specs.ByLevels.{levels_below, own_by_level}
use Rattle.som_level_programs.specs.Towers.{own_interface}
use Rattle.som_class_ids.specs.Classes.{classes_of}
use Rattle.som_class_ids.specs.declared.keyed.Keyed.{Keyed}
use Rattle.som_towerimage.specs.declared.level.Level.{Level}
use Rattle.som_tower.specs.Standing.{AreBuilt}
use Rattle.som_compat_levels.specs.declared.breach.LevelFault.{LevelFault}
use Rattle.som_compat_levels.specs.Told.{TellsLevels}
use Rattle.som_tower.specs.Towers.{AreLibraries, IsUpper, TellsTower, plain, tower_break}
use Rattle.som_tower.proofs.Breaking.{break_next, break_within, breaks_at, told_whole}
use Rattle.som_tower.proofs.Climbing.{built_more}

pub item : (uppers items : List Level) (i : ℕ) (l : Level) → items ≡ uppers → i < length items → l ≡ get_or items i l → (i < length uppers) × (l ≡ get_or uppers i l)
item uppers items i l same lt is = (subst (λ z. i < length z) same lt, is ∙ ap (λ z. get_or z i l) same)

there : (xs : List Level) (i : ℕ) (l : Level) → i < length xs → l ≡ get_or xs i l → slice_get xs i ≡ Some l
there [] i l lt is = absurd (omega (arith, lt))
there (x ∷ xs) zero l lt is = ap Some (sym is)
there (x ∷ xs) (suc i) l lt is = there xs i l (omega (arith, lt)) is

pub part_mem : (i : ℕ) (xs : List Level) (x : Level) → Mem x (take i xs) → Mem x xs
part_mem i xs x m = subst (λ l. Mem x l) (take-append-drop i xs) (mem_left x (take i xs) (drop i xs) m)

-- so many of a longer list
part_long : (xs : List Level) (i : ℕ) → i < length xs → length (take i xs) ≡ i
part_long [] i lt = absurd (omega (arith, lt))
part_long (x ∷ xs) zero lt = refl
part_long (x ∷ xs) (suc i) lt = ap suc (part_long xs i (omega (arith, lt)))

pub part_few : (xs : List Level) (i : ℕ) → i < length xs → (length (take i xs) ≡ i) × (i < length xs)
part_few xs i lt = (part_long xs i lt, lt)

pub level_sound : (base : Release) (uppers : List Level) → AreLibraries base uppers → (i : ℕ) (l : Level) → i < length uppers → l ≡ get_or uppers i l → IsUpper (i + 1) l
level_sound base uppers ok i l lt is = ok.each i l (there uppers i l lt is)

module _ (base : Release) (uppers : List Level) (i : ℕ) (l : Level) (lt : i < length uppers) (is : l ≡ get_or uppers i l) (interfaces : List Interface) (classes : List Keyed) (built : AreBuilt base (take i uppers) interfaces classes) where
  next : take (i + 1) uppers ≡ take i uppers ++ l ∷ []
  next = take_more uppers i l lt ∙ ap (λ z. take i uppers ++ z ∷ []) (sym is)

  pub reached_with : AreLibraries base uppers → CompatibleLevels (levels_below l.sizes l.client l.program.base) interfaces → (interfaces' : List Interface) → interfaces' ≡ interfaces ++ own_interface (plain l) ∷ []
      → (classes' : List Keyed) → classes_of classes' ≡ classes_of classes ++ own_by_level l.sizes l.client l.program → AreBuilt base (take (i + 1) uppers) interfaces' classes'
  reached_with ok kept interfaces' more classes' added =
      let long = part_long uppers i lt in
      let most = ok.few in
      subst (λ z. AreBuilt base z interfaces' classes') (sym next)
      (built_more base uppers ok (take i uppers) (λ x m. part_mem i uppers x m) (omega (arith, long, lt, most)) interfaces classes built l
      (subst (λ n. IsUpper (n + 1) l) (sym long) (level_sound base uppers ok i l lt is)) kept interfaces' more classes' added)

  pub none_with : tower_break (interface_of base ∷ []) (map plain (take i uppers)) ≡ None → breaks_at interfaces l ≡ None → tower_break (interface_of base ∷ []) (map plain (take (i + 1) uppers)) ≡ None
  none_with none here =
      ap (λ z. tower_break (interface_of base ∷ []) (map plain z)) next
      ∙ ap (tower_break (interface_of base ∷ [])) (map-append plain (take i uppers) (l ∷ []))
      ∙ break_next (interface_of base ∷ []) (map plain (take i uppers)) l [] none
      ∙ ap (λ z. or_else (breaks_at z l) None) (sym built.interfaces_are) ∙ ap (λ o. or_else o None) here

-- what it breaks is what all levels break first
pub told_here : (A : Type 0) (base : Release) (uppers : List Level) (i : ℕ) (l : Level) → i < length uppers → l ≡ get_or uppers i l → (interfaces : List Interface) (classes : List Keyed) → AreBuilt base (take i uppers) interfaces classes
    → tower_break (interface_of base ∷ []) (map plain (take i uppers)) ≡ None → (e : LevelFault) → TellsLevels (breaks_at interfaces l) (Err e) → TellsTower {A = A} (tower_break (interface_of base ∷ []) (map plain uppers)) (Err e)
told_here A base uppers i l lt is interfaces classes built none e told =
    let below = interface_of base ∷ map own_interface (map plain (take i uppers)) in
    told_whole A (breaks_at below l) (tower_break (interface_of base ∷ []) (map plain uppers)) (tower_break (below ++ own_interface (plain l) ∷ []) (map plain (drop (i + 1) uppers))) e
    (break_within (interface_of base ∷ []) uppers i l lt is none) (subst (λ z. TellsLevels (breaks_at z l) (Err e)) built.interfaces_are told)

pub reached : (base : Release) (uppers : List Level) → AreLibraries base uppers → (i : ℕ) (l : Level) → i < length uppers → l ≡ get_or uppers i l → (interfaces : List Interface) (classes : List Keyed) → AreBuilt base (take i uppers) interfaces classes
    → CompatibleLevels (levels_below l.sizes l.client l.program.base) interfaces → (interfaces' : List Interface) → interfaces' ≡ interfaces ++ own_interface (plain l) ∷ []
    → (classes' : List Keyed) → classes_of classes' ≡ classes_of classes ++ own_by_level l.sizes l.client l.program → AreBuilt base (take (i + 1) uppers) interfaces' classes'
reached base uppers ok i l lt is interfaces classes built = reached_with base uppers i l lt is interfaces classes built ok

pub none_more : (base : Release) (uppers : List Level) (i : ℕ) (l : Level) → i < length uppers → l ≡ get_or uppers i l → (interfaces : List Interface) (classes : List Keyed) → AreBuilt base (take i uppers) interfaces classes
    → tower_break (interface_of base ∷ []) (map plain (take i uppers)) ≡ None → breaks_at interfaces l ≡ None → tower_break (interface_of base ∷ []) (map plain (take (i + 1) uppers)) ≡ None
none_more base uppers i l lt is interfaces classes built = none_with base uppers i l lt is interfaces classes built
