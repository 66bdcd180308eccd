-- Texts that stand for a level above libraries whose images a store holds are compiled to its tower image, which is put.
use Rattle.std.proofs.Common.{◌≡◌, ℕ, ◌+◌, ◌≤◌, Bool, List, ◌∷◌, length, Option, Some, Ok, sym, ap, ◌∙◌, arith}
use Rattle.som_model.specs.declared.program.ClientProgram.{ClientProgram}
use Rattle.som_model.specs.declared.program.Interface.{Interface}
use Rattle.som_model.specs.Bytes.{Files}
use Rattle.som_flat_laws.specs.Flat.{flat_interface, sizes_of}
use Rattle.som_level_compile.specs.CompilingLevels.{a_level_image}
use Rattle.som_level_compile.proofs.LevelLaws.{level_image}
use Rattle.som_towerimage.specs.declared.level.Level.{Level}
use Rattle.som_towerimage.specs.Spelling.{most_below, tower_image}
use Rattle.som_tower.specs.Towers.{interfaces_of}
use Rattle.som_cmd_steps.specs.Outcomes.{EndsAs}
use Rattle.som_cmd_sources.specs.PutAnswer.{puts}
use Rattle.som_cmd_sources.proofs.TextLaws.{texts_known}
use Rattle.som_cmd_build.specs.PutEnds.{LeavesFiles}
use Rattle.som_cmd_build.proofs.PutEndLaws.{put_as}
use Rattle.som_cmd_tower_make.specs.declared.parts.TowerParts.{TowerParts}
use Rattle.som_cmd_tower_make.specs.TowerMakeAnswer.{IsTowerMade, IsTowerMakeAnswer, has_main}
use Rattle.som_cmd_tower_make.specs.TowerMakeEnds.{HoldsLevelTexts, PutsLevel}
use Rattle.som_cmd_tower_make.specs.TowerParts.{base_of, tower_in}
use Rattle.som_cmd_tower_make.proofs.SoundBases.{base_sound}
use Rattle.som_cmd_tower_make.proofs.StoredTowers.{BaseThere, tower_there, uppers_many}
use Rattle.som_cmd_tower_make.proofs.TowerAnswered.{few_levels, one_tower_answer, sizes_below}
use Rattle.som_cmd_tower_make.proofs.TowerSteps.{all_parts}

abbrev level_with : ClientProgram → List ℕ → Bool → Level
level_with p sizes client = record { sizes = sizes; program = p; client = client }

module _ (files : Files) (first : List ℕ) (others names : List (List ℕ)) (l : Level) (m : HoldsLevelTexts files first others names l) (few : length (first ∷ others) ≤ most_below (has_main names)) where
  abbrev below : List (List ℕ)
  below = first ∷ others

  abbrev is : List Interface
  is = interfaces_of m.base m.uppers

  abbrev client : Bool
  client = has_main names

  few_uppers : length m.uppers + 1 ≤ 8
  few_uppers = let n = few_levels client (length below) few in let many = uppers_many files first others m.base m.uppers m.tower in omega (arith, n, many)

  there : BaseThere files below is
  there = tower_there files first others m.base m.uppers m.tower few_uppers m.sound

  abbrev parts : TowerParts
  parts = record { base = base_of is; texts = m.texts }

  parts_there : tower_in below names files ≡ Ok parts
  parts_there = all_parts below names files there.images m.texts (base_of is) there.got m.texts_are there.base

  made : (image : List ℕ) × (tower_image (level_with l.program (sizes_of is) client) ≡ Some image)
  made =
      let sound = base_sound below there.images (base_of is) there.many (omega arith) (few_levels client (length below) few) there.base in
      level_image (flat_interface is) (sizes_of is) client m.texts l.program sound.base (sizes_below client (length below) (base_of is) (omega arith) few sound) (texts_known names files m.texts m.texts_are).1 m.stand

  same_level : level_with l.program (sizes_of is) client ≡ l
  same_level = ap (λ (sizes : List ℕ). level_with l.program sizes client) (sym m.sizes) ∙ ap (level_with l.program l.sizes) (sym m.client)

  pub puts_level_by : (out : List ℕ) (status : ℕ) (new_files : Option Files) (old new : Option (List ℕ)) → EndsAs (IsTowerMakeAnswer out below names files) status new_files old new → (count now : ℕ)
      → LeavesFiles (IsTowerMade files below names) files out count now status new_files old new → PutsLevel files out l status new_files old new
  puts_level_by out status new_files old new e count now left =
      put_as (IsTowerMakeAnswer out below names files) (one_tower_answer files out below names) status new_files old new e files out (tower_image l) made.0 (ap tower_image (sym same_level) ∙ made.1)
      (puts made.0 (parts, parts_there, a_level_image l.program made.0 m.stand made.1)) (IsTowerMade files below names) count now left
