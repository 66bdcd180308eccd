-- At which level of a tower the class stands of which something isn't kept.
use Rattle.std.proofs.Common.{◌≡◌, ◌+◌, ◌<◌, ◌≤◌, ◌⊎◌, ◌++◌, ℕ, suc, List, [], ◌∷◌, length, map, slice_get, Option, Some, None, Err, refl, sym, ap, inl, inr, arith}
use Rattle.som_model.specs.declared.program.Interface.{Interface}
use Rattle.som_model.specs.Class.{interface_of}
use Rattle.som_model.specs.Compatible.{CompatBreach}
use Rattle.som_model.specs.Lists.{Mem, or_else}
use Rattle.som_model_laws.proofs.Lists.{map_mem}
use Rattle.som_model_laws.proofs.Members.{mem_split}
use Rattle.som_level_laws.specs.Levels.{first_level_break}
use Rattle.som_level_programs.specs.ByLevels.{levels_below}
use Rattle.som_level_programs.specs.Towers.{LevelProgram, own_interface}
use Rattle.som_flat_laws.proofs.MadeOver.{olds_many}
use Rattle.som_compat_levels.specs.declared.breach.LevelFault.{LevelFault}
use Rattle.som_compat_levels.specs.declared.breach.LevelFault.TheVariants as faults
use Rattle.som_towerimage.specs.declared.level.Level.{Level}
use Rattle.som_tower.specs.Towers.{IsTowerOf, TellsTower, plain, programs_above, tower_break}
use Rattle.som_cmd_tower_run.specs.declared.tower.Tower.{Tower}
use Rattle.som_cmd_tower_run.specs.Faults.{IsWithin}
use Rattle.som_cmd_tower_run.specs.Steps.{first_broken}

abbrev pub Found : Type 0
Found = ℕ × CompatBreach

-- what older levels break first is of a class of theirs
abbrev pub BreachesAtLevels : Type 0
BreachesAtLevels = (olds news : List Interface) (found : Found) → first_level_break olds news ≡ Some found → found.0 < length olds

-- each of these programs stands above so many levels at most
abbrev AreAbove : ℕ → List LevelProgram → Type 0
AreAbove n ls = (l : LevelProgram) → Mem l ls → length l.sizes ≤ n

either : (a b : Option Found) (found : Found) → or_else a b ≡ Some found → (a ≡ Some found) ⊎ (b ≡ Some found)
either None b found e = inr e
either (Some x) b found e = inl e

break_low : BreachesAtLevels → (n : ℕ) (is : List Interface) (ls : List LevelProgram) → AreAbove n ls → (found : Found) → tower_break is ls ≡ Some found → found.0 < n
break_low law n is [] above found e = absurd cc
break_low law n is (l ∷ ls) above found e = elim (either (first_level_break (levels_below l.sizes l.client l.program.base) is) (tower_break (is ++ own_interface l ∷ []) ls) found e) [
  | inl here ↦ let low = law (levels_below l.sizes l.client l.program.base) is found here in let many = olds_many l in let few = above l (inl refl) in omega (arith, low, many, few)
  | inr later ↦ break_low law n (is ++ own_interface l ∷ []) ls (λ x m. above x (inr m)) found later
]

at_place : (xs : List Level) (x : Level) → Mem x xs → (i : ℕ) × (slice_get xs i ≡ Some x) × (i < length xs)
at_place [] x m = absurd m
at_place (y ∷ ys) x (inl e) = (0, ap Some (sym e), omega arith)
at_place (y ∷ ys) x (inr m) = let r = at_place ys x m in let low = r.2 in (suc r.0, r.1, omega (arith, low))

module _ (below : List (List ℕ)) (t : Tower) (is : IsTowerOf t.levels.base t.levels.uppers t.client) (many : length t.levels.uppers + 1 ≡ length below) where
  upper_above : (x : LevelProgram) → Mem x (map plain t.levels.uppers) → length x.sizes ≤ length below
  upper_above x m =
      let q = map_mem plain x t.levels.uppers m in
      let p = at_place t.levels.uppers q.0 q.1 in
      let levels = (is.libraries.each p.0 q.0 p.1).levels in
      let low = p.2 in
      let same : length x.sizes ≡ length q.0.sizes = ap (λ (z : LevelProgram). length z.sizes) q.2 in
      omega (arith, levels, low, same, many)

  client_above : (x : LevelProgram) → Mem x (plain t.client ∷ []) → length x.sizes ≤ length below
  client_above x (inl e) =
      let levels = is.levels in
      let same : length x.sizes ≡ length t.client.sizes = ap (λ (z : LevelProgram). length z.sizes) e in
      omega (arith, levels, same, many)
  client_above x (inr none) = absurd none

  all_above : AreAbove (length below) (programs_above t.levels.uppers t.client)
  all_above x m = elim (mem_split x (map plain t.levels.uppers) (plain t.client ∷ []) m) [ inl a ↦ upper_above x a | inr b ↦ client_above x b ]

  -- so it has a name
  pub found_low : BreachesAtLevels → (found : Found) → first_broken t ≡ Some found → found.0 < length below
  found_low law found e = break_low law (length below) (interface_of t.levels.base ∷ []) (programs_above t.levels.uppers t.client) all_above found e

pub fault_low : BreachesAtLevels → (A : Type 0) (below : List (List ℕ)) (t : Tower) (fault : LevelFault) → IsTowerOf t.levels.base t.levels.uppers t.client → length t.levels.uppers + 1 ≡ length below → TellsTower {A = A} (first_broken t) (Err fault)
    → IsWithin (length below) fault
fault_low law A below t (faults.Breach b) is many tells = let low = found_low below t is many law tells.0 tells.1 in let same = tells.2.level in omega (arith, low, same)
fault_low law A below t faults.NoMemory is many tells = tt
