-- What writing a tower image answers.
use Rattle.std.proofs.Common.{◌≡◌, ℕ, List, ◌++◌, Some, Ok, refl, sym, ap, ◌∙◌}
use Rattle.som_model.specs.Conforming.{ProgramOk}
use Rattle.som_model.specs.Images.{client_image}
use Rattle.som_cliimage.specs.Limits.{IsWithinLimits}
use Rattle.som_cliimage.proofs.Encoded as programs
use Rattle.som_cliimage.proofs.NamedPrograms.{program_back}
use Rattle.som_towerimage.specs.declared.level.Level.{Level}
use Rattle.som_towerimage.specs.Reading.{level_at}
use Rattle.som_towerimage.specs.Spelling.{FitsTower, tower_head, SpellsLevel, tower_image}
use Rattle.som_towerimage.proofs.LevelFields.{level_again}
use Rattle.som_towerimage.proofs.Decoded.{image_is}

-- the head, and then the bytes of the program
pub joined_are : (bytes image slice head program : List ℕ) → bytes ≡ image ++ slice → image ≡ head → slice ≡ program → bytes ≡ head ++ program
joined_are bytes image slice head program is first second = is ∙ ap (λ (t : List ℕ). t ++ slice) first ∙ ap (λ (t : List ℕ). head ++ t) second

module _ (l : Level) (fits : FitsTower l) (image : List ℕ) (e : client_image l.program ≡ Some image) (bytes : List ℕ) (whole : bytes ≡ tower_head l.sizes l.client ++ image) where
  pub image_of : tower_image l ≡ Some bytes
  image_of = image_is l image bytes e (sym whole)

  pub spells_of : SpellsLevel l bytes
  spells_of = record { fits = fits; image = image; program = program_back l.program image e; spelled = sym whole }

  pub back_of : level_at bytes ≡ Ok l
  back_of = level_again l bytes spells_of

abbrev Image : Level → Type 0
Image l = (bytes : List ℕ) × (tower_image l ≡ Some bytes) × SpellsLevel l bytes × (level_at bytes ≡ Ok l)

pub image_there : (l : Level) → FitsTower l → ProgramOk l.program → IsWithinLimits l.program → Image l
image_there l fits ok within =
    let p = programs.image_there l.program ok within in
    let bytes : List ℕ = tower_head l.sizes l.client ++ p.0 in
    (bytes, image_of l fits p.0 p.1 bytes refl, spells_of l fits p.0 p.1 bytes refl, back_of l fits p.0 p.1 bytes refl)
