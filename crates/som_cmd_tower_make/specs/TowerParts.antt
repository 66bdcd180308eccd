-- What a level of a tower is compiled from, or a client of one: the flat interface of the levels below, and texts; the first step that refuses, refuses for all.
use Rattle.std.specs.Prelude.{ℕ, nat_le, if◌then◌else◌, List, [], ◌∷◌, length, map, codes, Option, Some, None, Result, Ok, Err}
use Rattle.som_model.specs.declared.limits.TheConstants.{MAX_LIBRARY_CLASSES}
use Rattle.som_model.specs.declared.program.Interface.{Interface}
use Rattle.som_model.specs.Bytes.{Files}
use Rattle.som_model.specs.Class.{interface_of}
use Rattle.som_model.specs.Rules.{RuleBreach}
use Rattle.som_model.specs.Steps.{◌>>=◌}
use Rattle.som_order.specs.Names.{name_at}
use Rattle.som_flat_laws.specs.Flat.{flat_interface, sizes_of}
use Rattle.som_flat.specs.Breaches.{flat_breach}
use Rattle.som_tower.specs.Towers.{interfaces_of, plain, tower_break}
use Rattle.som_cmd_steps.specs.declared.stop.Refusal.{Refusal}
use Rattle.som_cmd_steps.specs.Getting.{images_in}
use Rattle.som_cmd_steps.specs.Lines.{broken}
use Rattle.som_cmd_sources.specs.Texts.{texts_in, too_many}
use Rattle.som_cmd_levels.specs.declared.levels.LevelsBelow.{LevelsBelow}
use Rattle.som_cmd_levels.specs.Comparing.{level_kept_or}
use Rattle.som_cmd_levels.specs.Levels.{levels_in, levels_rules_kept}
use Rattle.som_cmd_tower_make.specs.declared.base.TowerBase.{TowerBase}
use Rattle.som_cmd_tower_make.specs.declared.parts.TowerParts.{TowerParts}

-- ---- levels

-- the interfaces of levels, where each keeps what those above it were compiled against
abbrev pub standing_in : List (List ℕ) → LevelsBelow → Result (List Interface) Refusal
standing_in names below = do
  kept ← level_kept_or names (tower_break (interface_of below.base ∷ []) (map plain below.uppers))
  Ok (interfaces_of below.base below.uppers)

-- the images are read, the rules of each are looked at, and then each is compared with what those above it were compiled against
abbrev pub levels_standing : List (List ℕ) → List (List ℕ) → Result (List Interface) Refusal
levels_standing names images = do
  below ← levels_in names images
  kept ← levels_rules_kept names below
  standing_in names below

-- ---- their flat interface

-- no rule is broken, or the refusal tells which a class of the level of that number breaks, under the name of that level
abbrev pub flat_kept_or : List (List ℕ) → Option (ℕ × RuleBreach) → Result (Unit {0}) Refusal
flat_kept_or names None = Ok tt
flat_kept_or names (Some found) = Err (broken (name_at names found.0) found.1)

-- so many classes aren't too many
abbrev pub classes_kept : ℕ → Result (Unit {0}) Refusal
classes_kept count = if nat_le count MAX_LIBRARY_CLASSES then Ok tt else Err (too_many (codes "classes") MAX_LIBRARY_CLASSES)

-- the flat interface of levels, and how many classes each of them has
abbrev pub base_of : List Interface → TowerBase
base_of is = record { interface = flat_interface is; sizes = sizes_of is }

-- where it breaks no rule and has not too many classes
abbrev pub flat_in : List (List ℕ) → List Interface → Result TowerBase Refusal
flat_in names is = do
  kept ← flat_kept_or names (flat_breach is)
  few ← classes_kept (length (flat_interface is).classes)
  Ok (base_of is)

-- the flat interface of the levels of images, which stand one on the other
abbrev pub base_in : List (List ℕ) → List (List ℕ) → Result TowerBase Refusal
base_in names images = do
  is ← levels_standing names images
  flat_in names is

-- ---- all parts

-- the images under some names and the texts under others: all are got before the first image is read
abbrev pub tower_in : List (List ℕ) → List (List ℕ) → Files → Result TowerParts Refusal
tower_in below names files = do
  images ← images_in below files
  texts ← texts_in names files
  base ← base_in below images
  Ok (record { base = base; texts = texts })
