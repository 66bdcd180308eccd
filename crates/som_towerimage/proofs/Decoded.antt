-- What reading a tower image answers.
use Rattle.std.proofs.Common.{◌≡◌, ℕ, List, ◌++◌, Some, Result, Ok, Err, sym, ap, subst, ◌∙◌}
use Rattle.std.specs.Prelude.{IfOk}
use Rattle.som_model.specs.Bytes.{AreBytes}
use Rattle.som_model.specs.Images.{Spelled, ◌then◌, client_image}
use Rattle.som_image_fields.specs.declared.fault.ImageFault.{ImageFault}
use Rattle.som_image_fields.specs.Fields.{Gives}
use Rattle.som_image_decode.proofs.Spelled.{some_bytes, bytes_are, split}
use Rattle.som_cliimage.specs.Limits.{IsWithinLimits}
use Rattle.som_cliimage.specs.Programs.{ProgramNamesDiffer}
use Rattle.som_cliimage.proofs.Decoded.{spelled_within, spelled_image}
use Rattle.som_cliimage.proofs.NamedPrograms.{program_back}
use Rattle.som_towerimage.specs.declared.level.Level.{Level}
use Rattle.som_towerimage.specs.Reading.{level_at}
use Rattle.som_towerimage.specs.Spelling.{FitsTower, tower_head, SpellsLevel, tower_image}
use Rattle.som_towerimage.proofs.LevelFields.{level_takes, level_again}

abbrev head_of : Level → List ℕ
head_of l = tower_head l.sizes l.client

-- the head and the image of the program are the tower image
pub image_is : (l : Level) (image bytes : List ℕ) → client_image l.program ≡ Some image → head_of l ++ image ≡ bytes → tower_image l ≡ Some bytes
image_is l image bytes e whole = ap (λ (s : Spelled). Some (head_of l) then s) e ∙ ap some_bytes whole

-- what the bytes spell is their image where names differ
pub spelled_is : (l : Level) (bytes : List ℕ) → ProgramNamesDiffer l.program → SpellsLevel l bytes → tower_image l ≡ Some bytes
spelled_is l bytes differ s = image_is l s.image bytes (spelled_image l.program s.image differ s.program) s.spelled

-- and an image spells its level
pub image_spells : (l : Level) (bytes : List ℕ) → FitsTower l → tower_image l ≡ Some bytes → SpellsLevel l bytes
image_spells l bytes fits e =
    let s = split (Some (head_of l)) (client_image l.program) bytes e in
    let front : head_of l ≡ s.front = bytes_are (head_of l) s.front s.first in
    record { fits = fits; image = s.back; program = program_back l.program s.back s.second; spelled = ap (λ (t : List ℕ). t ++ s.back) front ∙ s.whole }

-- ---- what a reader that gives a level may say

pub spelled : (bytes : List ℕ) → AreBytes bytes → (result : Result Level ImageFault) → Gives result (level_at bytes) → IfOk result (λ l. SpellsLevel l bytes)
spelled bytes all (Ok l) given = level_takes bytes all l given
spelled bytes all (Err fault) given = tt

pub found : (bytes : List ℕ) → AreBytes bytes → (result : Result Level ImageFault) → Gives result (level_at bytes) → IfOk result (λ l. ProgramNamesDiffer l.program → tower_image l ≡ Some bytes)
found bytes all (Ok l) given = λ differ. spelled_is l bytes differ (level_takes bytes all l given)
found bytes all (Err fault) given = tt

pub fits : (bytes : List ℕ) → AreBytes bytes → (result : Result Level ImageFault) → Gives result (level_at bytes) → IfOk result FitsTower
fits bytes all (Ok l) given = (level_takes bytes all l given).fits
fits bytes all (Err fault) given = tt

pub within : (bytes : List ℕ) → AreBytes bytes → (result : Result Level ImageFault) → Gives result (level_at bytes) → IfOk result (λ l. IsWithinLimits l.program)
within bytes all (Ok l) given = let s = level_takes bytes all l given in spelled_within l.program s.image s.program
within bytes all (Err fault) given = tt

pub only_spelled : (bytes : List ℕ) (result : Result Level ImageFault) → Gives result (level_at bytes) → (l : Level) → SpellsLevel l bytes → Gives result (Ok l)
only_spelled bytes result given l s = subst (λ (x : Result Level ImageFault). Gives result x) (level_again l bytes s) given

pub only : (bytes : List ℕ) (result : Result Level ImageFault) → Gives result (level_at bytes) → (l : Level) → FitsTower l → tower_image l ≡ Some bytes → Gives result (Ok l)
only bytes result given l has e = only_spelled bytes result given l (image_spells l bytes has e)

-- ---- laws

abbrev read : Level → Result Level ImageFault
read l = Ok l

same_level : (x y : Level) → read x ≡ read y → x ≡ y
same_level x y e = cc

pub one_level : (l m : Level) (bytes : List ℕ) → SpellsLevel l bytes → SpellsLevel m bytes → l ≡ m
one_level l m bytes a b = same_level l m (sym (level_again l bytes a) ∙ level_again m bytes b)

pub one_spelling : (l : Level) (x y : List ℕ) → ProgramNamesDiffer l.program → SpellsLevel l x → SpellsLevel l y → x ≡ y
one_spelling l x y differ a b = bytes_are x y (sym (spelled_is l x differ a) ∙ spelled_is l y differ b)

no_fault : (l : Level) (f : ImageFault) → read l ≡ Err f → ⊥
no_fault l f e = cc

pub fault_spells_none : (f : ImageFault) (bytes : List ℕ) → level_at bytes ≡ Err f → (l : Level) → SpellsLevel l bytes → ⊥
fault_spells_none f bytes e l s = no_fault l f (sym (level_again l bytes s) ∙ e)
