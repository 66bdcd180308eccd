-- Which levels a tower image has room for, and the bytes that spell one.
use Rattle.std.specs.Prelude.{◌≡◌, ℕ, ◌≤◌, Bool, true, false, List, [], ◌∷◌, ◌++◌, length, sum, codes, Some}
use Rattle.std.specs.List.{flat_map}
use Rattle.std.specs.Int.{w8, w16}
use Rattle.som_model.specs.Images.{Spelled, ◌then◌, client_image}
use Rattle.som_image_fields.specs.Spelling.{number}
use Rattle.som_image_classes.specs.SpelledClasses.{head}
use Rattle.som_cliimage.specs.Programs.{SpellsProgram}
use Rattle.som_towerimage.specs.declared.level.TheConstants.{MAX_BELOW_CLIENT, MAX_BELOW_LIBRARY}
use Rattle.som_towerimage.specs.declared.level.Level.{Level}

-- how many levels may be below a client, and below a library, which may have a client above
abbrev pub most_below : Bool → ℕ
most_below true = MAX_BELOW_CLIENT
most_below false = MAX_BELOW_LIBRARY

-- a level that has a tower image: it stands on one level at least and not too many, these have the classes of its base, and a
-- library's main is empty
pub record FitsTower (l : Level) : Type 0 where
  pub some : 1 ≤ length l.sizes
  pub few : length l.sizes ≤ most_below l.client
  pub classes : sum l.sizes ≡ length l.program.base.classes
  pub main : l.client ≡ false → l.program.main.statements ≡ []

-- 0 for a library, 1 for a client
abbrev pub flag : Bool → List ℕ
flag false = 0 ∷ []
flag true = 1 ∷ []

-- how many levels are below, whether this is a client, and how many classes each level below has
abbrev pub levels_below : List ℕ → Bool → List ℕ
levels_below sizes client = number w8 (length sizes) ++ (flag client ++ flat_map (number w16) sizes)

-- `SOMT`, version 1, and the levels
abbrev pub tower_head : List ℕ → Bool → List ℕ
tower_head sizes client = head (codes "SOMT") 1 ++ levels_below sizes client

-- the bytes are those of the head, and then of a client image that spells the program
pub record SpellsLevel (l : Level) (bytes : List ℕ) : Type 0 where
  pub fits : FitsTower l
  pub image : List ℕ
  pub program : SpellsProgram l.program image
  pub spelled : tower_head l.sizes l.client ++ image ≡ bytes

-- the one tower image of a level that fits, if its program has an image
abbrev pub tower_image : Level → Spelled
tower_image l = Some (tower_head l.sizes l.client) then client_image l.program
